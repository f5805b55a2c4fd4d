-- A worked run in which a sector that a line has seen changes while it waits, computed: the line is found anew.
use Rattle.std.specs.Prelude.{◌≡◌, List, [], ◌∷◌, codes, refl}
use Rattle.frang_base.specs.declared.lock.LockId.TheVariants.{Node}
use Rattle.frang_base.specs.declared.lock.Mode.TheVariants.{Shared, Sole}
use Rattle.frang_base.specs.declared.op.HostOp.TheVariants as host
use Rattle.frang_base.specs.declared.op.Op.{Op}
use Rattle.frang_base.specs.declared.op.Op.TheVariants as op
use Rattle.frang_base.specs.declared.reply.Reply.TheVariants as reply
use Rattle.frang_base.specs.declared.said.Said.{Said}
use Rattle.frang_base.specs.declared.script.Line.{Line}
use Rattle.disk_definitions.specs.Resolving.{resolve}
use Rattle.lock_definitions.specs.Locks.{no_clerks, no_logs}
use Rattle.lock_definitions.specs.Servers.{any_server}
use Rattle.disk_definitions.specs.Frames.{frame_read}
use Rattle.disk_definitions.specs.Least.{least, least_from}
use Rattle.sector_bytes.specs.Bytes.{zeros}
use Rattle.sector_bytes.specs.Changes.{changed}
use Rattle.core_definitions.specs.Events.{Event, Begin, Ask, Fetch, Again, Commit, Give, Issue, Arrive, HostLine}
use Rattle.core_examples.specs.Driving.{Driven, driven, host_line, line, story_of}
use Rattle.core_examples.specs.Rows.{answered}
use Rattle.core_examples.specs.Choices.{two_up}

-- ---- two servers have a file's lock shared and cut the file: the one that gives the lock finds the inode changed when it has it again, and begins anew

abbrev pub shown : Op
shown = op.Stat (codes "f" ∷ [])

abbrev pub cut : Op
cut = op.Truncate (codes "f" ∷ []) 0

abbrev pub anew_lines : List Line
anew_lines = line 1 0 shown ∷ line 2 1 shown ∷ host_line 3 host.Barrier ∷ line 4 0 cut ∷ line 5 1 cut ∷ []

abbrev pub anew_run : Driven
anew_run = driven 39 (two_up anew_lines)

abbrev pub anew_events : List Event
anew_events =
    Begin 0 ∷ Begin 1 ∷ Ask 0 (Node 0) Shared ∷ Ask 1 (Node 0) Shared ∷ Fetch 0 10737418240 ∷ Fetch 0 12884901888 ∷ Fetch 1 10737418240 ∷ Fetch 1 12884901888 ∷
    Again 0 ∷ Ask 0 (Node 1) Shared ∷ Fetch 0 10737418241 ∷ Again 1 ∷ Ask 1 (Node 1) Shared ∷ Fetch 1 10737418241 ∷ Commit 0 ∷ Commit 1 ∷ HostLine 3 ∷
    Begin 0 ∷ Begin 1 ∷ Again 0 ∷ Again 0 ∷ Ask 0 (Node 1) Sole ∷ Again 1 ∷ Again 1 ∷ Ask 1 (Node 1) Sole ∷ Give 0 (Node 1) ∷ Ask 1 (Node 1) Sole ∷ Commit 1 ∷
    Issue 1 2155872256 ∷ Arrive 0 ∷ Issue 1 10737418241 ∷ Arrive 1 ∷ Give 1 (Node 1) ∷ Ask 0 (Node 1) Sole ∷ Fetch 0 10737418241 ∷ Again 0 ∷ Again 0 ∷ Again 0 ∷
    Commit 0 ∷ []

abbrev pub anew_says : List Said
anew_says =
    answered 0 1 (reply.File 0 1) ∷ answered 1 2 (reply.File 0 1) ∷ answered 255 3 reply.Ok ∷ answered 1 5 reply.Ok ∷ answered 0 4 reply.Ok ∷ []

pub anew_runs_so : story_of anew_run ≡ record { events = anew_events; said_lines = anew_says }
unfolding no_clerks no_logs any_server zeros resolve least least_from changed frame_read
anew_runs_so = refl
