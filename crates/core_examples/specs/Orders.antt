-- Worked runs in other orders than that of the first event, computed: the events made, the lines said, and the puts with how each was taken.
use Rattle.std.specs.Prelude.{◌≡◌, ◌==◌, ℕ, false, replicate, List, [], ◌∷◌, codes, refl}
use Rattle.frang_base.specs.declared.lock.LockId.TheVariants.{Node}
use Rattle.frang_base.specs.declared.lock.Mode.TheVariants.{Shared, Sole}
use Rattle.frang_base.specs.declared.op.HostOp.TheVariants as host
use Rattle.frang_base.specs.declared.op.Op.TheVariants as op
use Rattle.frang_base.specs.declared.reply.Reply.TheVariants as reply
use Rattle.frang_base.specs.declared.said.Said.{Said}
use Rattle.frang_base.specs.declared.said.Said.TheVariants as said
use Rattle.frang_base.specs.declared.script.Line.{Line}
use Rattle.frang_outside.specs.declared.act.Taken.{Taken}
use Rattle.frang_outside.specs.declared.act.Taken.TheVariants as taken
use Rattle.disk_definitions.specs.Resolving.{resolve}
use Rattle.lock_definitions.specs.Locks.{no_clerks, no_logs}
use Rattle.lock_definitions.specs.Servers.{any_server}
use Rattle.disk_definitions.specs.Least.{least, least_from}
use Rattle.sector_bytes.specs.Bytes.{zeros}
use Rattle.sector_bytes.specs.Changes.{changed}
use Rattle.disk_definitions.specs.Frames.{frame_read}
use Rattle.core_definitions.specs.Events.{Event, Begin, Ask, Fetch, Again, Commit, Answer, Issue, Doom, Arrive, Die, Tick, Recover, Finish, HostLine, Read, Show, End}
use Rattle.core_examples.specs.Choosing.{driven_choosing, first, soon_opening, tale_of}
use Rattle.core_examples.specs.Driving.{Driven, host_line, line}
use Rattle.core_examples.specs.Rows.{party, answered}

-- ---- a write that comes late: its server stands still while it is in flight

abbrev pub late_lines : List Line
late_lines = line 1 0 op.Mount ∷ line 2 0 (op.Truncate (codes "f" ∷ []) 0) ∷ host_line 3 (host.Tick 1) ∷ line 4 0 op.Stall ∷ []

abbrev pub late_run : Driven
late_run = driven_choosing (λ ticket. false) 81 (first 14 (2 ∷ first 2 (replicate 15 1))) (soon_opening late_lines)

abbrev pub late_events : List Event
late_events =
    Begin 0 ∷ Answer 0 ∷ Begin 0 ∷ Ask 0 (Node 0) Shared ∷ Fetch 0 10737418240 ∷ Fetch 0 12884901888 ∷ Again 0 ∷ Ask 0 (Node 1) Shared ∷ Fetch 0 10737418241 ∷
    Again 0 ∷ Ask 0 (Node 1) Sole ∷ Commit 0 ∷ Tick ∷ Issue 0 2147483648 ∷ HostLine 3 ∷ Begin 0 ∷ Answer 0 ∷ Tick ∷ Tick ∷ Tick ∷ Tick ∷ Tick ∷ Tick ∷ Tick ∷ Tick ∷
    Tick ∷ Tick ∷ Tick ∷ Tick ∷ Tick ∷ Tick ∷ Tick ∷ Arrive 0 ∷ Tick ∷ Tick ∷ Tick ∷ Tick ∷ Tick ∷ Tick ∷ Tick ∷ Tick ∷ Tick ∷ Tick ∷ Tick ∷ Tick ∷ Tick ∷ Tick ∷
    Tick ∷ Doom 0 ∷ Die 0 ∷ Recover 0 255 ∷ Finish 255 ∷ Read 10737418240 ∷ Read 12884901888 ∷ Read 10737418241 ∷ Read 12884901889 ∷ Read 12884901890 ∷
    Read 12884901891 ∷ Read 12884901892 ∷ Read 12884901893 ∷ Read 12884901894 ∷ Read 12884901895 ∷ Show 0 ∷ Show 1 ∷ End ∷ []

abbrev pub late_says : List Said
late_says =
    answered 0 1 reply.Mounted ∷ answered 0 2 reply.Ok ∷ answered 255 3 reply.Ok ∷ answered 0 4 reply.Ok ∷ said.Dead (party 0) ∷
    said.Recovering (party 0) (party 255) ∷ said.Recovered (party 0) (record { 0 = 0 }) ∷ said.Node (codes "/") 2 1 0 ∷ said.Node (codes "/f") 1 0 1 ∷ said.End ∷ []

abbrev pub late_puts : List (ℕ × Taken)
late_puts = (2147483648, taken.Late) ∷ []

pub late_runs_so : tale_of late_run ≡ record { story = record { events = late_events; said_lines = late_says }; puts = late_puts }
unfolding no_clerks no_logs any_server zeros resolve least least_from changed frame_read
late_runs_so = refl

-- ---- a `cut` that loses the write in flight

abbrev pub cut_lines : List Line
cut_lines = line 1 0 op.Mount ∷ line 2 0 (op.CutAt 2) ∷ line 3 0 (op.Truncate (codes "f" ∷ []) 0) ∷ host_line 4 (host.Tick 1) ∷ line 5 0 (op.Truncate (codes "f" ∷ []) 0) ∷ line 6 0 op.Sync ∷ []

abbrev pub cut_run : Driven
cut_run = driven_choosing (λ ticket. false) 86 (first 16 (2 ∷ first 6 (1 ∷ []))) (soon_opening cut_lines)

abbrev pub cut_events : List Event
cut_events =
    Begin 0 ∷ Answer 0 ∷ Begin 0 ∷ Answer 0 ∷ Begin 0 ∷ Ask 0 (Node 0) Shared ∷ Fetch 0 10737418240 ∷ Fetch 0 12884901888 ∷ Again 0 ∷ Ask 0 (Node 1) Shared ∷
    Fetch 0 10737418241 ∷ Again 0 ∷ Ask 0 (Node 1) Sole ∷ Commit 0 ∷ Tick ∷ Issue 0 2147483648 ∷ HostLine 4 ∷ Begin 0 ∷ Again 0 ∷ Again 0 ∷ Commit 0 ∷ Begin 0 ∷
    Doom 0 ∷ Die 0 ∷ Answer 0 ∷ Tick ∷ Tick ∷ Tick ∷ Tick ∷ Tick ∷ Tick ∷ Tick ∷ Tick ∷ Tick ∷ Tick ∷ Tick ∷ Tick ∷ Tick ∷ Tick ∷ Tick ∷ Tick ∷ Tick ∷ Tick ∷ Tick ∷
    Tick ∷ Tick ∷ Tick ∷ Tick ∷ Tick ∷ Tick ∷ Tick ∷ Tick ∷ Tick ∷ Tick ∷ Tick ∷ Recover 0 255 ∷ Finish 255 ∷ Read 10737418240 ∷ Read 12884901888 ∷ Read 10737418241 ∷
    Read 12884901889 ∷ Read 12884901890 ∷ Read 12884901891 ∷ Read 12884901892 ∷ Read 12884901893 ∷ Read 12884901894 ∷ Read 12884901895 ∷ Show 0 ∷ Show 1 ∷ End ∷ []

abbrev pub cut_says : List Said
cut_says =
    answered 0 1 reply.Mounted ∷ answered 0 2 reply.Ok ∷ answered 0 3 reply.Ok ∷ answered 255 4 reply.Ok ∷ answered 0 5 reply.Ok ∷ said.Dead (party 0) ∷
    answered 0 6 reply.Down ∷ said.Recovering (party 0) (party 255) ∷ said.Recovered (party 0) (record { 0 = 0 }) ∷ said.Node (codes "/") 2 1 0 ∷
    said.Node (codes "/f") 1 0 1 ∷ said.End ∷ []

abbrev pub cut_puts : List (ℕ × Taken)
cut_puts = []

pub cut_runs_so : tale_of cut_run ≡ record { story = record { events = cut_events; said_lines = cut_says }; puts = cut_puts }
unfolding no_clerks no_logs any_server zeros resolve least least_from changed frame_read
cut_runs_so = refl

-- ---- a seal: the second sector of the log is in place, the put of the first fails and leaves a gap

abbrev pub seal_lines : List Line
seal_lines = line 1 0 op.Mount ∷ line 2 0 (op.Truncate (codes "f" ∷ []) 0) ∷ host_line 3 (host.Tick 1) ∷ line 4 0 (op.Truncate (codes "f" ∷ []) 0) ∷ line 5 0 op.Sync ∷ []

abbrev pub seal_run : Driven
seal_run = driven_choosing (λ ticket. ticket == 0) 91 (first 14 (2 ∷ first 6 (1 ∷ []))) (soon_opening seal_lines)

abbrev pub seal_events : List Event
seal_events =
    Begin 0 ∷ Answer 0 ∷ Begin 0 ∷ Ask 0 (Node 0) Shared ∷ Fetch 0 10737418240 ∷ Fetch 0 12884901888 ∷ Again 0 ∷ Ask 0 (Node 1) Shared ∷ Fetch 0 10737418241 ∷
    Again 0 ∷ Ask 0 (Node 1) Sole ∷ Commit 0 ∷ Tick ∷ Issue 0 2147483648 ∷ HostLine 3 ∷ Begin 0 ∷ Again 0 ∷ Again 0 ∷ Commit 0 ∷ Begin 0 ∷ Issue 0 2147483649 ∷
    Arrive 1 ∷ Arrive 0 ∷ Doom 0 ∷ Die 0 ∷ Answer 0 ∷ Tick ∷ Tick ∷ Tick ∷ Tick ∷ Tick ∷ Tick ∷ Tick ∷ Tick ∷ Tick ∷ Tick ∷ Tick ∷ Tick ∷ Tick ∷ Tick ∷ Tick ∷ Tick ∷
    Tick ∷ Tick ∷ Tick ∷ Tick ∷ Tick ∷ Tick ∷ Tick ∷ Tick ∷ Tick ∷ Tick ∷ Tick ∷ Tick ∷ Tick ∷ Tick ∷ Recover 0 255 ∷ Issue 255 2147483649 ∷ Arrive 2 ∷
    Issue 255 2147483648 ∷ Arrive 3 ∷ Finish 255 ∷ Read 10737418240 ∷ Read 12884901888 ∷ Read 10737418241 ∷ Read 12884901889 ∷ Read 12884901890 ∷ Read 12884901891 ∷
    Read 12884901892 ∷ Read 12884901893 ∷ Read 12884901894 ∷ Read 12884901895 ∷ Show 0 ∷ Show 1 ∷ End ∷ []

abbrev pub seal_says : List Said
seal_says =
    answered 0 1 reply.Mounted ∷ answered 0 2 reply.Ok ∷ answered 255 3 reply.Ok ∷ answered 0 4 reply.Ok ∷ said.Dead (party 0) ∷ answered 0 5 reply.Io ∷
    said.Recovering (party 0) (party 255) ∷ said.Recovered (party 0) (record { 0 = 0 }) ∷ said.Node (codes "/") 2 1 0 ∷ said.Node (codes "/f") 1 0 1 ∷ said.End ∷ []

abbrev pub seal_puts : List (ℕ × Taken)
seal_puts = (2147483649, taken.Written) ∷ (2147483649, taken.Written) ∷ (2147483648, taken.Written) ∷ []

pub seal_runs_so : tale_of seal_run ≡ record { story = record { events = seal_events; said_lines = seal_says }; puts = seal_puts }
unfolding no_clerks no_logs any_server zeros resolve least least_from changed frame_read
seal_runs_so = refl
