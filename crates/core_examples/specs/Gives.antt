-- Worked runs in which a lock held sole is given, computed: only once nothing is dirty under it, and the whole log is acknowledged.
use Rattle.std.specs.Prelude.{◌≡◌, List, [], ◌∷◌, codes, refl}
use Rattle.frang_base.specs.declared.lock.LockId.TheVariants.{Node}
use Rattle.frang_base.specs.declared.lock.Mode.TheVariants.{Shared, Sole}
use Rattle.frang_base.specs.declared.op.HostOp.TheVariants as host
use Rattle.frang_base.specs.declared.op.Op.TheVariants as op
use Rattle.frang_base.specs.declared.reply.Reply.TheVariants as reply
use Rattle.frang_base.specs.declared.said.Said.{Said}
use Rattle.frang_base.specs.declared.script.Line.{Line}
use Rattle.disk_definitions.specs.Resolving.{resolve}
use Rattle.lock_definitions.specs.Locks.{no_clerks, no_logs}
use Rattle.lock_definitions.specs.Servers.{any_server}
use Rattle.disk_definitions.specs.Least.{least, least_from}
use Rattle.sector_bytes.specs.Bytes.{zeros}
use Rattle.sector_bytes.specs.Changes.{changed}
use Rattle.disk_definitions.specs.Frames.{frame_read}
use Rattle.core_definitions.specs.Events.{Event, Begin, Ask, Fetch, Again, Commit, Answer, Give, Issue, Arrive, Renew, Tick, HostLine}
use Rattle.core_examples.specs.Driving.{Driven, driven, flushing_soon, host_line, line, story_of, two_files_opening}
use Rattle.core_examples.specs.Rows.{answered}

-- ---- a file is clean and another's record isn't acknowledged yet: the lock of the first is given once it is; as far as to the second's answer

abbrev pub logged_lines : List Line
logged_lines =
    line 1 0 op.Mount ∷ line 2 0 (op.Truncate (codes "f" ∷ []) 0) ∷ host_line 3 (host.Tick 1) ∷ line 4 0 (op.Truncate (codes "g" ∷ []) 0) ∷ line 5 1 op.Mount ∷
    line 6 1 (op.Stat (codes "f" ∷ [])) ∷ []

abbrev pub logged_run : Driven
logged_run = driven 56 (flushing_soon (two_files_opening logged_lines))

abbrev pub logged_events : List Event
logged_events =
    Begin 0 ∷ Answer 0 ∷ Begin 0 ∷ Ask 0 (Node 0) Shared ∷ Fetch 0 10737418240 ∷ Fetch 0 12884901888 ∷ Again 0 ∷ Ask 0 (Node 1) Shared ∷ Fetch 0 10737418241 ∷ Again 0 ∷
    Ask 0 (Node 1) Sole ∷ Commit 0 ∷ Tick ∷ Issue 0 2147483648 ∷ Arrive 0 ∷ Issue 0 10737418241 ∷ Arrive 1 ∷ Renew 0 ∷ HostLine 3 ∷ Begin 0 ∷ Begin 1 ∷ Again 0 ∷
    Ask 0 (Node 2) Shared ∷ Fetch 0 10737418242 ∷ Again 0 ∷ Ask 0 (Node 2) Sole ∷ Commit 0 ∷ Answer 1 ∷ Begin 1 ∷ Ask 1 (Node 0) Shared ∷ Fetch 1 10737418240 ∷
    Fetch 1 12884901888 ∷ Again 1 ∷ Ask 1 (Node 1) Shared ∷ Issue 0 2147483649 ∷ Arrive 2 ∷ Give 0 (Node 1) ∷ Ask 1 (Node 1) Shared ∷ Fetch 1 10737418241 ∷ Commit 1 ∷ []

abbrev pub logged_says : List Said
logged_says =
    answered 0 1 reply.Mounted ∷ answered 0 2 reply.Ok ∷ answered 255 3 reply.Ok ∷ answered 0 4 reply.Ok ∷ answered 1 5 reply.Mounted ∷ answered 1 6 (reply.File 0 1) ∷ []

pub logged_runs_so : story_of logged_run ≡ record { events = logged_events; said_lines = logged_says }
unfolding no_clerks no_logs any_server zeros resolve least least_from changed frame_read
logged_runs_so = refl
