-- Worked runs, computed: the events in their order and the lines said.
use Rattle.std.specs.Prelude.{◌≡◌, ℕ, List, [], ◌∷◌, codes, refl}
use Rattle.frang_base.specs.declared.lock.LockId.TheVariants.{Node, Segment}
use Rattle.frang_base.specs.declared.lock.Mode.TheVariants.{Shared, Sole}
use Rattle.frang_base.specs.declared.op.HostOp.TheVariants as host
use Rattle.frang_base.specs.declared.op.Op.TheVariants as op
use Rattle.frang_base.specs.declared.reply.Reply.{Reply}
use Rattle.frang_base.specs.declared.reply.Reply.TheVariants as reply
use Rattle.frang_base.specs.declared.said.Said.{Said}
use Rattle.frang_base.specs.declared.said.Said.TheVariants as said
use Rattle.frang_base.specs.declared.script.Line.{Line}
use Rattle.frang_base.specs.declared.sector.ServerId.{ServerId}
use Rattle.disk_definitions.specs.Resolving.{resolve}
use Rattle.lock_definitions.specs.Locks.{no_clerks, no_logs}
use Rattle.lock_definitions.specs.Servers.{any_server}
use Rattle.disk_definitions.specs.Least.{least, least_from}
use Rattle.sector_bytes.specs.Bytes.{zeros}
use Rattle.sector_bytes.specs.Changes.{changed}
use Rattle.disk_definitions.specs.Frames.{frame_read}
use Rattle.core_definitions.specs.Events.{Event, Begin, Ask, Fetch, Again, Commit, Answer, Give, Issue, Doom, Resume, Arrive, Die, Tick, Recover, Finish, HostLine, Close, Read, Show, End}
use Rattle.core_examples.specs.Driving.{Driven, driven, filed_opening, host_line, line, opening, story_of}

abbrev pub party : ℕ → ServerId
party a = record { 0 = a }

abbrev pub answered : ℕ → ℕ → Reply → Said
answered a number r = said.Answer (party a) number r

-- ---- a line refused

abbrev pub refused_lines : List Line
refused_lines = line 1 0 op.Mount ∷ line 2 0 (op.Unlink (codes "f" ∷ [])) ∷ line 3 0 (op.List ([])) ∷ []

abbrev pub refused_run : Driven
refused_run = driven 24 (opening refused_lines)

abbrev pub refused_events : List Event
refused_events =
    Begin 0 ∷ Answer 0 ∷ Begin 0 ∷ Ask 0 (Node 0) Shared ∷ Fetch 0 10737418240 ∷ Commit 0 ∷ Begin 0 ∷ Commit 0 ∷ Close 0 ∷ Read 10737418240 ∷ Show 0 ∷ End ∷ []

abbrev pub refused_says : List Said
refused_says =
    answered 0 1 reply.Mounted ∷ answered 0 2 reply.NoEnt ∷ answered 0 3 (reply.Names ([])) ∷ said.Node (codes "/") 2 0 0 ∷ said.End ∷ []

pub refused_runs_so : story_of refused_run ≡ record { events = refused_events; said_lines = refused_says }
unfolding no_clerks no_logs any_server zeros resolve least least_from changed frame_read
refused_runs_so = refl

-- ---- a line before the mount, a second mount, an unmount and a line after it, and a halt

abbrev pub ended_lines : List Line
ended_lines =
    line 1 0 (op.Stat ([])) ∷ line 2 0 op.Mount ∷ line 3 0 op.Mount ∷ host_line 4 host.Barrier ∷ line 5 0 op.Unmount ∷ line 6 0 (op.Stat ([])) ∷ host_line 7 host.Halt ∷ []

abbrev pub ended_run : Driven
ended_run = driven 24 (opening ended_lines)

abbrev pub ended_events : List Event
ended_events = Begin 0 ∷ Answer 0 ∷ Begin 0 ∷ Answer 0 ∷ Begin 0 ∷ Answer 0 ∷ HostLine 4 ∷ Begin 0 ∷ Answer 0 ∷ Begin 0 ∷ Answer 0 ∷ HostLine 7 ∷ []

abbrev pub ended_says : List Said
ended_says =
    answered 0 1 reply.Down ∷ answered 0 2 reply.Mounted ∷ answered 0 3 reply.Already ∷ answered 255 4 reply.Ok ∷ answered 0 5 reply.Ok ∷ answered 0 6 reply.Down ∷
    answered 255 7 reply.Ok ∷ []

pub ended_runs_so : story_of ended_run ≡ record { events = ended_events; said_lines = ended_says }
unfolding no_clerks no_logs any_server zeros resolve least least_from changed frame_read
ended_runs_so = refl

-- ---- a mount, a file cut, a sync, and the close

abbrev pub changed_lines : List Line
changed_lines = line 1 0 op.Mount ∷ line 2 0 (op.Truncate (codes "f" ∷ []) 0) ∷ line 3 0 op.Sync ∷ []

abbrev pub changed_run : Driven
changed_run = driven 45 (filed_opening changed_lines)

abbrev pub changed_events : List Event
changed_events =
    Begin 0 ∷ Answer 0 ∷ Begin 0 ∷ Ask 0 (Node 0) Shared ∷ Fetch 0 10737418240 ∷ Fetch 0 12884901888 ∷ Again 0 ∷ Ask 0 (Node 1) Shared ∷ Fetch 0 10737418241 ∷ Again 0 ∷
    Ask 0 (Node 1) Sole ∷ Commit 0 ∷ Begin 0 ∷ Issue 0 2147483648 ∷ Arrive 0 ∷ Answer 0 ∷ Close 0 ∷ Issue 0 10737418241 ∷ Arrive 1 ∷ Close 0 ∷ Read 10737418240 ∷
    Read 12884901888 ∷ Read 10737418241 ∷ Read 12884901889 ∷ Read 12884901890 ∷ Read 12884901891 ∷ Read 12884901892 ∷ Read 12884901893 ∷ Read 12884901894 ∷
    Read 12884901895 ∷ Show 0 ∷ Show 1 ∷ End ∷ []

abbrev pub changed_says : List Said
changed_says =
    answered 0 1 reply.Mounted ∷ answered 0 2 reply.Ok ∷ answered 0 3 reply.Ok ∷ said.Node (codes "/") 2 1 0 ∷ said.Node (codes "/f") 1 0 1 ∷ said.End ∷ []

pub changed_runs_so : story_of changed_run ≡ record { events = changed_events; said_lines = changed_says }
unfolding no_clerks no_logs any_server zeros resolve least least_from changed frame_read
changed_runs_so = refl

-- ---- a mount, a file made, a sync, and the close: the root's block has room for the name, so no block is taken

abbrev pub created_lines : List Line
created_lines = line 1 0 op.Mount ∷ line 2 0 (op.Create (codes "g" ∷ [])) ∷ line 3 0 op.Sync ∷ []

abbrev pub created_run : Driven
created_run = driven 60 (filed_opening created_lines)

abbrev pub created_events : List Event
created_events =
    Begin 0 ∷ Answer 0 ∷ Begin 0 ∷ Ask 0 (Node 0) Shared ∷ Fetch 0 10737418240 ∷ Fetch 0 12884901888 ∷ Fetch 0 12884901889 ∷ Fetch 0 12884901890 ∷
    Fetch 0 12884901891 ∷ Fetch 0 12884901892 ∷ Fetch 0 12884901893 ∷ Fetch 0 12884901894 ∷ Fetch 0 12884901895 ∷ Again 0 ∷ Ask 0 (Segment 0) Sole ∷
    Fetch 0 4294967296 ∷ Fetch 0 10737418242 ∷ Again 0 ∷ Ask 0 (Node 0) Sole ∷ Ask 0 (Node 2) Sole ∷ Commit 0 ∷ Begin 0 ∷ Issue 0 2147483648 ∷ Arrive 0 ∷ Answer 0 ∷
    Close 0 ∷ Issue 0 4294967296 ∷ Issue 0 10737418240 ∷ Issue 0 10737418242 ∷ Issue 0 12884901888 ∷ Arrive 1 ∷ Arrive 2 ∷ Arrive 3 ∷ Arrive 4 ∷ Close 0 ∷
    Read 10737418240 ∷ Read 12884901888 ∷ Read 10737418241 ∷ Read 10737418242 ∷ Read 12884901889 ∷ Read 12884901890 ∷ Read 12884901891 ∷ Read 12884901892 ∷
    Read 12884901893 ∷ Read 12884901894 ∷ Read 12884901895 ∷ Show 0 ∷ Show 1 ∷ Show 2 ∷ End ∷ []

abbrev pub created_says : List Said
created_says =
    answered 0 1 reply.Mounted ∷ answered 0 2 reply.Ok ∷ answered 0 3 reply.Ok ∷ said.Node (codes "/") 2 2 0 ∷ said.Node (codes "/f") 1 0 1 ∷ said.Node (codes "/g") 1 0 1 ∷
    said.End ∷ []

pub created_runs_so : story_of created_run ≡ record { events = created_events; said_lines = created_says }
unfolding no_clerks no_logs any_server zeros resolve least least_from changed frame_read
created_runs_so = refl

-- ---- a clean server that goes on after its lease

abbrev pub went_on_lines : List Line
went_on_lines = line 1 0 op.Mount ∷ line 2 0 (op.Stat ([])) ∷ line 3 0 op.Stall ∷ host_line 4 (host.Tick 31) ∷ line 5 0 (op.Stat ([])) ∷ []

abbrev pub went_on_run : Driven
went_on_run = driven 61 (opening went_on_lines)

abbrev pub went_on_events : List Event
went_on_events =
    Begin 0 ∷ Answer 0 ∷ Begin 0 ∷ Ask 0 (Node 0) Shared ∷ Fetch 0 10737418240 ∷ Commit 0 ∷ Begin 0 ∷ Answer 0 ∷ Tick ∷ Tick ∷ Tick ∷ Tick ∷ Tick ∷ Tick ∷ Tick ∷ Tick ∷
    Tick ∷ Tick ∷ Tick ∷ Tick ∷ Tick ∷ Tick ∷ Tick ∷ Tick ∷ Tick ∷ Tick ∷ Tick ∷ Tick ∷ Tick ∷ Tick ∷ Tick ∷ Tick ∷ Tick ∷ Tick ∷ Tick ∷ Tick ∷ Tick ∷ Tick ∷ Tick ∷
    Resume 0 ∷ HostLine 4 ∷ Begin 0 ∷ Ask 0 (Node 0) Shared ∷ Fetch 0 10737418240 ∷ Commit 0 ∷ Close 0 ∷ Read 10737418240 ∷ Show 0 ∷ End ∷ []

abbrev pub went_on_says : List Said
went_on_says =
    answered 0 1 reply.Mounted ∷ answered 0 2 (reply.Dir 0) ∷ answered 0 3 reply.Ok ∷ said.Renewed (party 0) ∷ answered 255 4 reply.Ok ∷ answered 0 5 (reply.Dir 0) ∷
    said.Node (codes "/") 2 0 0 ∷ said.End ∷ []

pub went_on_runs_so : story_of went_on_run ≡ record { events = went_on_events; said_lines = went_on_says }
unfolding no_clerks no_logs any_server zeros resolve least least_from changed frame_read
went_on_runs_so = refl

-- ---- two servers, and a lock that one gives the other

abbrev pub given_lines : List Line
given_lines = line 1 0 op.Mount ∷ line 2 1 op.Mount ∷ line 3 0 (op.Stat (codes "f" ∷ [])) ∷ line 4 1 (op.Truncate (codes "f" ∷ []) 0) ∷ line 5 0 (op.Stat (codes "f" ∷ [])) ∷ []

abbrev pub given_run : Driven
given_run = driven 67 (filed_opening given_lines)

abbrev pub given_events : List Event
given_events =
    Begin 0 ∷ Begin 1 ∷ Answer 0 ∷ Begin 0 ∷ Ask 0 (Node 0) Shared ∷ Fetch 0 10737418240 ∷ Fetch 0 12884901888 ∷ Again 0 ∷ Ask 0 (Node 1) Shared ∷ Fetch 0 10737418241 ∷
    Commit 0 ∷ Begin 0 ∷ Again 0 ∷ Commit 0 ∷ Answer 1 ∷ Begin 1 ∷ Ask 1 (Node 0) Shared ∷ Fetch 1 10737418240 ∷ Fetch 1 12884901888 ∷ Again 1 ∷ Ask 1 (Node 1) Shared ∷
    Fetch 1 10737418241 ∷ Again 1 ∷ Ask 1 (Node 1) Sole ∷ Give 0 (Node 1) ∷ Ask 1 (Node 1) Sole ∷ Commit 1 ∷ Close 0 ∷ Close 1 ∷ Issue 1 2155872256 ∷ Arrive 0 ∷
    Issue 1 10737418241 ∷ Arrive 1 ∷ Close 1 ∷ Read 10737418240 ∷ Read 12884901888 ∷ Read 10737418241 ∷ Read 12884901889 ∷ Read 12884901890 ∷ Read 12884901891 ∷
    Read 12884901892 ∷ Read 12884901893 ∷ Read 12884901894 ∷ Read 12884901895 ∷ Show 0 ∷ Show 1 ∷ End ∷ []

abbrev pub given_says : List Said
given_says =
    answered 0 1 reply.Mounted ∷ answered 0 3 (reply.File 0 1) ∷ answered 0 5 (reply.File 0 1) ∷ answered 1 2 reply.Mounted ∷ answered 1 4 reply.Ok ∷
    said.Node (codes "/") 2 1 0 ∷ said.Node (codes "/f") 1 0 1 ∷ said.End ∷ []

pub given_runs_so : story_of given_run ≡ record { events = given_events; said_lines = given_says }
unfolding no_clerks no_logs any_server zeros resolve least least_from changed frame_read
given_runs_so = refl

-- ---- a death before its record is durable, and its recovery by the host

abbrev pub lost_lines : List Line
lost_lines = line 1 0 op.Mount ∷ line 2 0 (op.Truncate (codes "f" ∷ []) 0) ∷ line 3 0 op.Crash ∷ []

abbrev pub lost_run : Driven
lost_run = driven 82 (filed_opening lost_lines)

abbrev pub lost_events : List Event
lost_events =
    Begin 0 ∷ Answer 0 ∷ Begin 0 ∷ Ask 0 (Node 0) Shared ∷ Fetch 0 10737418240 ∷ Fetch 0 12884901888 ∷ Again 0 ∷ Ask 0 (Node 1) Shared ∷ Fetch 0 10737418241 ∷ Again 0 ∷
    Ask 0 (Node 1) Sole ∷ Commit 0 ∷ Begin 0 ∷ Doom 0 ∷ Die 0 ∷ Answer 0 ∷ Tick ∷ Tick ∷ Tick ∷ Tick ∷ Tick ∷ Tick ∷ Tick ∷ Tick ∷ Tick ∷ Tick ∷ Tick ∷ Tick ∷ Tick ∷
    Tick ∷ Tick ∷ Tick ∷ Tick ∷ Tick ∷ Tick ∷ Tick ∷ Tick ∷ Tick ∷ Tick ∷ Tick ∷ Tick ∷ Tick ∷ Tick ∷ Tick ∷ Tick ∷ Tick ∷ Tick ∷ Recover 0 255 ∷ Finish 255 ∷
    Read 10737418240 ∷ Read 12884901888 ∷ Read 10737418241 ∷ Read 12884901889 ∷ Read 12884901890 ∷ Read 12884901891 ∷ Read 12884901892 ∷ Read 12884901893 ∷
    Read 12884901894 ∷ Read 12884901895 ∷ Show 0 ∷ Show 1 ∷ End ∷ []

abbrev pub lost_says : List Said
lost_says =
    answered 0 1 reply.Mounted ∷ answered 0 2 reply.Ok ∷ said.Dead (party 0) ∷ answered 0 3 reply.Ok ∷ said.Recovering (party 0) (party 255) ∷
    said.Recovered (party 0) (record { 0 = 0 }) ∷ said.Node (codes "/") 2 1 0 ∷ said.Node (codes "/f") 1 0 1 ∷ said.End ∷ []

pub lost_runs_so : story_of lost_run ≡ record { events = lost_events; said_lines = lost_says }
unfolding no_clerks no_logs any_server zeros resolve least least_from changed frame_read
lost_runs_so = refl
