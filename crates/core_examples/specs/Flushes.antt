-- Worked runs with an armed death and with a flush, computed: the events in their order and the lines said.
use Rattle.std.specs.Prelude.{◌≡◌, List, [], ◌∷◌, codes, refl}
use Rattle.frang_base.specs.declared.lock.LockId.TheVariants.{Node}
use Rattle.frang_base.specs.declared.lock.Mode.TheVariants.{Shared, Sole}
use Rattle.frang_base.specs.declared.op.HostOp.TheVariants as host
use Rattle.frang_base.specs.declared.op.Op.TheVariants as op
use Rattle.frang_base.specs.declared.reply.Reply.TheVariants as reply
use Rattle.frang_base.specs.declared.said.Said.{Said}
use Rattle.frang_base.specs.declared.said.Said.TheVariants as said
use Rattle.frang_base.specs.declared.script.Line.{Line}
use Rattle.disk_definitions.specs.Resolving.{resolve}
use Rattle.lock_definitions.specs.Locks.{no_clerks, no_logs}
use Rattle.lock_definitions.specs.Servers.{any_server}
use Rattle.disk_definitions.specs.Least.{least, least_from}
use Rattle.sector_bytes.specs.Bytes.{zeros}
use Rattle.sector_bytes.specs.Changes.{changed}
use Rattle.disk_definitions.specs.Frames.{frame_read}
use Rattle.core_definitions.specs.Events.{Event, Begin, Ask, Fetch, Again, Commit, Answer, Issue, Doom, Arrive, Die, Renew, Tick, Recover, Look, Finish, HostLine, Close, Read, Show, End}
use Rattle.core_examples.specs.Driving.{Driven, driven, filed_opening, host_line, line, story_of}
use Rattle.core_examples.specs.Rows.{party, answered}

-- ---- a death at the second write of a server that is armed

abbrev pub armed_lines : List Line
armed_lines = line 1 0 op.Mount ∷ line 2 0 (op.CrashAt 2) ∷ line 3 0 (op.Truncate (codes "f" ∷ []) 0) ∷ line 4 0 op.Sync ∷ []

abbrev pub armed_run : Driven
armed_run = driven 86 (filed_opening armed_lines)

abbrev pub armed_events : List Event
armed_events =
    Begin 0 ∷ Answer 0 ∷ Begin 0 ∷ Answer 0 ∷ Begin 0 ∷ Ask 0 (Node 0) Shared ∷ Fetch 0 10737418240 ∷ Fetch 0 12884901888 ∷ Again 0 ∷ Ask 0 (Node 1) Shared ∷
    Fetch 0 10737418241 ∷ Again 0 ∷ Ask 0 (Node 1) Sole ∷ Commit 0 ∷ Begin 0 ∷ Issue 0 2147483648 ∷ Arrive 0 ∷ Answer 0 ∷ Close 0 ∷ Doom 0 ∷ Die 0 ∷ Tick ∷ Tick ∷
    Tick ∷ Tick ∷ Tick ∷ Tick ∷ Tick ∷ Tick ∷ Tick ∷ Tick ∷ Tick ∷ Tick ∷ Tick ∷ Tick ∷ Tick ∷ Tick ∷ Tick ∷ Tick ∷ Tick ∷ Tick ∷ Tick ∷ Tick ∷ Tick ∷ Tick ∷ Tick ∷
    Tick ∷ Tick ∷ Tick ∷ Tick ∷ Tick ∷ Tick ∷ Recover 0 255 ∷ Look 255 10737418241 ∷ Issue 255 10737418241 ∷ Arrive 1 ∷ Finish 255 ∷ Read 10737418240 ∷
    Read 12884901888 ∷ Read 10737418241 ∷ Read 12884901889 ∷ Read 12884901890 ∷ Read 12884901891 ∷ Read 12884901892 ∷ Read 12884901893 ∷ Read 12884901894 ∷
    Read 12884901895 ∷ Show 0 ∷ Show 1 ∷ End ∷ []

abbrev pub armed_says : List Said
armed_says =
    answered 0 1 reply.Mounted ∷ answered 0 2 reply.Ok ∷ answered 0 3 reply.Ok ∷ answered 0 4 reply.Ok ∷ said.Dead (party 0) ∷ said.Recovering (party 0) (party 255) ∷
    said.Recovered (party 0) (record { 0 = 8589934595 }) ∷ said.Node (codes "/") 2 1 0 ∷ said.Node (codes "/f") 1 0 1 ∷ said.End ∷ []

pub armed_runs_so : story_of armed_run ≡ record { events = armed_events; said_lines = armed_says }
unfolding no_clerks no_logs any_server zeros resolve least least_from changed frame_read
armed_runs_so = refl

-- ---- everything is written at a multiple of thirty ticks

abbrev pub flush_lines : List Line
flush_lines = line 1 0 op.Mount ∷ line 2 0 (op.Truncate (codes "f" ∷ []) 0) ∷ host_line 3 (host.Tick 30) ∷ []

abbrev pub flush_run : Driven
flush_run = driven 99 (filed_opening flush_lines)

abbrev pub flush_events : List Event
flush_events =
    Begin 0 ∷ Answer 0 ∷ Begin 0 ∷ Ask 0 (Node 0) Shared ∷ Fetch 0 10737418240 ∷ Fetch 0 12884901888 ∷ Again 0 ∷ Ask 0 (Node 1) Shared ∷ Fetch 0 10737418241 ∷
    Again 0 ∷ Ask 0 (Node 1) Sole ∷ Commit 0 ∷ Tick ∷ Renew 0 ∷ Tick ∷ Renew 0 ∷ Tick ∷ Renew 0 ∷ Tick ∷ Renew 0 ∷ Tick ∷ Renew 0 ∷ Tick ∷ Renew 0 ∷ Tick ∷ Renew 0 ∷
    Tick ∷ Renew 0 ∷ Tick ∷ Renew 0 ∷ Tick ∷ Renew 0 ∷ Tick ∷ Renew 0 ∷ Tick ∷ Renew 0 ∷ Tick ∷ Renew 0 ∷ Tick ∷ Renew 0 ∷ Tick ∷ Renew 0 ∷ Tick ∷ Renew 0 ∷ Tick ∷
    Renew 0 ∷ Tick ∷ Renew 0 ∷ Tick ∷ Renew 0 ∷ Tick ∷ Renew 0 ∷ Tick ∷ Renew 0 ∷ Tick ∷ Renew 0 ∷ Tick ∷ Renew 0 ∷ Tick ∷ Renew 0 ∷ Tick ∷ Renew 0 ∷ Tick ∷ Renew 0 ∷
    Tick ∷ Renew 0 ∷ Tick ∷ Renew 0 ∷ Tick ∷ Renew 0 ∷ Tick ∷ Issue 0 2147483648 ∷ Arrive 0 ∷ Issue 0 10737418241 ∷ Arrive 1 ∷ Renew 0 ∷ HostLine 3 ∷ Close 0 ∷
    Read 10737418240 ∷ Read 12884901888 ∷ Read 10737418241 ∷ Read 12884901889 ∷ Read 12884901890 ∷ Read 12884901891 ∷ Read 12884901892 ∷ Read 12884901893 ∷
    Read 12884901894 ∷ Read 12884901895 ∷ Show 0 ∷ Show 1 ∷ End ∷ []

abbrev pub flush_says : List Said
flush_says =
    answered 0 1 reply.Mounted ∷ answered 0 2 reply.Ok ∷ answered 255 3 reply.Ok ∷ said.Node (codes "/") 2 1 0 ∷ said.Node (codes "/f") 1 0 1 ∷ said.End ∷ []

pub flush_runs_so : story_of flush_run ≡ record { events = flush_events; said_lines = flush_says }
unfolding no_clerks no_logs any_server zeros resolve least least_from changed frame_read
flush_runs_so = refl
