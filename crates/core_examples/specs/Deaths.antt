-- Worked runs with deaths, computed: the events in their order and the lines said.
use Rattle.std.specs.Prelude.{◌≡◌, ◌==◌, List, [], ◌∷◌, codes, refl}
use Rattle.frang_base.specs.declared.lock.LockId.TheVariants.{Node}
use Rattle.frang_base.specs.declared.lock.Mode.TheVariants.{Shared, Sole}
use Rattle.frang_base.specs.declared.op.Op.TheVariants as op
use Rattle.frang_base.specs.declared.reply.Reply.TheVariants as reply
use Rattle.frang_base.specs.declared.said.Said.{Said}
use Rattle.frang_base.specs.declared.said.Said.TheVariants as said
use Rattle.frang_base.specs.declared.script.Line.{Line}
use Rattle.disk_definitions.specs.Resolving.{resolve}
use Rattle.lock_definitions.specs.Locks.{no_clerks, no_logs}
use Rattle.lock_definitions.specs.Servers.{any_server}
use Rattle.disk_definitions.specs.Least.{least, least_from}
use Rattle.sector_bytes.specs.Bytes.{zeros}
use Rattle.sector_bytes.specs.Changes.{changed}
use Rattle.disk_definitions.specs.Frames.{frame_read}
use Rattle.core_definitions.specs.Events.{Event, Begin, Ask, Fetch, Again, Commit, Answer, Issue, Doom, Arrive, Die, Renew, Tick, Recover, Look, Finish, Close, Read, Show, End}
use Rattle.core_examples.specs.Driving.{Driven, driven, driven_failing, filed_opening, line, story_of}
use Rattle.core_examples.specs.Rows.{party, answered}

-- ---- a death after its record is durable: the host writes what it says

abbrev pub kept_lines : List Line
kept_lines = line 1 0 op.Mount ∷ line 2 0 (op.Truncate (codes "f" ∷ []) 0) ∷ line 3 0 op.Sync ∷ line 4 0 op.Crash ∷ []

abbrev pub kept_run : Driven
kept_run = driven 89 (filed_opening kept_lines)

abbrev pub kept_events : List Event
kept_events =
    Begin 0 ∷ Answer 0 ∷ Begin 0 ∷ Ask 0 (Node 0) Shared ∷ Fetch 0 10737418240 ∷ Fetch 0 12884901888 ∷ Again 0 ∷ Ask 0 (Node 1) Shared ∷ Fetch 0 10737418241 ∷ Again 0 ∷
    Ask 0 (Node 1) Sole ∷ Commit 0 ∷ Begin 0 ∷ Issue 0 2147483648 ∷ Arrive 0 ∷ Answer 0 ∷ Begin 0 ∷ Doom 0 ∷ Die 0 ∷ Answer 0 ∷ Tick ∷ Tick ∷ Tick ∷ Tick ∷ Tick ∷ Tick ∷
    Tick ∷ Tick ∷ Tick ∷ Tick ∷ Tick ∷ Tick ∷ Tick ∷ Tick ∷ Tick ∷ Tick ∷ Tick ∷ Tick ∷ Tick ∷ Tick ∷ Tick ∷ Tick ∷ Tick ∷ Tick ∷ Tick ∷ Tick ∷ Tick ∷ Tick ∷ Tick ∷
    Tick ∷ Tick ∷ Recover 0 255 ∷ Look 255 10737418241 ∷ Issue 255 10737418241 ∷ Arrive 1 ∷ Finish 255 ∷ Read 10737418240 ∷ Read 12884901888 ∷ Read 10737418241 ∷
    Read 12884901889 ∷ Read 12884901890 ∷ Read 12884901891 ∷ Read 12884901892 ∷ Read 12884901893 ∷ Read 12884901894 ∷ Read 12884901895 ∷ Show 0 ∷ Show 1 ∷ End ∷ []

abbrev pub kept_says : List Said
kept_says =
    answered 0 1 reply.Mounted ∷ answered 0 2 reply.Ok ∷ answered 0 3 reply.Ok ∷ said.Dead (party 0) ∷ answered 0 4 reply.Ok ∷ said.Recovering (party 0) (party 255) ∷
    said.Recovered (party 0) (record { 0 = 8589934594 }) ∷ said.Node (codes "/") 2 1 0 ∷ said.Node (codes "/f") 1 0 1 ∷ said.End ∷ []

pub kept_runs_so : story_of kept_run ≡ record { events = kept_events; said_lines = kept_says }
unfolding no_clerks no_logs any_server zeros resolve least least_from changed frame_read
kept_runs_so = refl

-- ---- the same, recovered by another server, which the line of a third waits for

abbrev pub taken_over_lines : List Line
taken_over_lines = line 1 0 op.Mount ∷ line 2 1 op.Mount ∷ line 3 0 (op.Truncate (codes "f" ∷ []) 0) ∷ line 4 0 op.Sync ∷ line 5 0 op.Crash ∷ line 6 1 (op.Stat (codes "f" ∷ [])) ∷ []

abbrev pub taken_over_run : Driven
taken_over_run = driven 140 (filed_opening taken_over_lines)

abbrev pub taken_over_events : List Event
taken_over_events =
    Begin 0 ∷ Begin 1 ∷ Answer 0 ∷ Begin 0 ∷ Ask 0 (Node 0) Shared ∷ Fetch 0 10737418240 ∷ Fetch 0 12884901888 ∷ Again 0 ∷ Ask 0 (Node 1) Shared ∷ Fetch 0 10737418241 ∷
    Again 0 ∷ Ask 0 (Node 1) Sole ∷ Commit 0 ∷ Begin 0 ∷ Answer 1 ∷ Begin 1 ∷ Ask 1 (Node 0) Shared ∷ Fetch 1 10737418240 ∷ Fetch 1 12884901888 ∷ Again 1 ∷
    Ask 1 (Node 1) Shared ∷ Issue 0 2147483648 ∷ Arrive 0 ∷ Answer 0 ∷ Begin 0 ∷ Issue 0 10737418241 ∷ Doom 0 ∷ Arrive 1 ∷ Die 0 ∷ Answer 0 ∷ Tick ∷ Renew 1 ∷ Tick ∷
    Renew 1 ∷ Tick ∷ Renew 1 ∷ Tick ∷ Renew 1 ∷ Tick ∷ Renew 1 ∷ Tick ∷ Renew 1 ∷ Tick ∷ Renew 1 ∷ Tick ∷ Renew 1 ∷ Tick ∷ Renew 1 ∷ Tick ∷ Renew 1 ∷ Tick ∷ Renew 1 ∷
    Tick ∷ Renew 1 ∷ Tick ∷ Renew 1 ∷ Tick ∷ Renew 1 ∷ Tick ∷ Renew 1 ∷ Tick ∷ Renew 1 ∷ Tick ∷ Renew 1 ∷ Tick ∷ Renew 1 ∷ Tick ∷ Renew 1 ∷ Tick ∷ Renew 1 ∷ Tick ∷
    Renew 1 ∷ Tick ∷ Renew 1 ∷ Tick ∷ Renew 1 ∷ Tick ∷ Renew 1 ∷ Tick ∷ Renew 1 ∷ Tick ∷ Renew 1 ∷ Tick ∷ Renew 1 ∷ Tick ∷ Renew 1 ∷ Tick ∷ Renew 1 ∷ Tick ∷ Renew 1 ∷
    Tick ∷ Renew 1 ∷ Recover 0 1 ∷ Look 1 10737418241 ∷ Finish 1 ∷ Ask 1 (Node 1) Shared ∷ Fetch 1 10737418241 ∷ Commit 1 ∷ Close 1 ∷ Read 10737418240 ∷
    Read 12884901888 ∷ Read 10737418241 ∷ Read 12884901889 ∷ Read 12884901890 ∷ Read 12884901891 ∷ Read 12884901892 ∷ Read 12884901893 ∷ Read 12884901894 ∷
    Read 12884901895 ∷ Show 0 ∷ Show 1 ∷ End ∷ []

abbrev pub taken_over_says : List Said
taken_over_says =
    answered 0 1 reply.Mounted ∷ answered 0 3 reply.Ok ∷ answered 1 2 reply.Mounted ∷ answered 0 4 reply.Ok ∷ said.Dead (party 0) ∷ answered 0 5 reply.Ok ∷
    said.Recovering (party 0) (party 1) ∷ said.Recovered (party 0) (record { 0 = 8589934595 }) ∷ answered 1 6 (reply.File 0 1) ∷ said.Node (codes "/") 2 1 0 ∷
    said.Node (codes "/f") 1 0 1 ∷ said.End ∷ []

pub taken_over_runs_so : story_of taken_over_run ≡ record { events = taken_over_events; said_lines = taken_over_says }
unfolding no_clerks no_logs any_server zeros resolve least least_from changed frame_read
taken_over_runs_so = refl

-- ---- a put that fails: the server dies, and what it had not written is gone

abbrev pub failed_lines : List Line
failed_lines = line 1 0 op.Mount ∷ line 2 0 (op.Truncate (codes "f" ∷ []) 0) ∷ line 3 0 op.Sync ∷ []

abbrev pub failed_run : Driven
failed_run = driven_failing (λ ticket. ticket == 0) 84 (filed_opening failed_lines)

abbrev pub failed_events : List Event
failed_events =
    Begin 0 ∷ Answer 0 ∷ Begin 0 ∷ Ask 0 (Node 0) Shared ∷ Fetch 0 10737418240 ∷ Fetch 0 12884901888 ∷ Again 0 ∷ Ask 0 (Node 1) Shared ∷ Fetch 0 10737418241 ∷ Again 0 ∷
    Ask 0 (Node 1) Sole ∷ Commit 0 ∷ Begin 0 ∷ Issue 0 2147483648 ∷ Arrive 0 ∷ Doom 0 ∷ Die 0 ∷ Answer 0 ∷ Tick ∷ Tick ∷ Tick ∷ Tick ∷ Tick ∷ Tick ∷ Tick ∷ Tick ∷ Tick ∷
    Tick ∷ Tick ∷ Tick ∷ Tick ∷ Tick ∷ Tick ∷ Tick ∷ Tick ∷ Tick ∷ Tick ∷ Tick ∷ Tick ∷ Tick ∷ Tick ∷ Tick ∷ Tick ∷ Tick ∷ Tick ∷ Tick ∷ Tick ∷ Tick ∷ Tick ∷
    Recover 0 255 ∷ Finish 255 ∷ Read 10737418240 ∷ Read 12884901888 ∷ Read 10737418241 ∷ Read 12884901889 ∷ Read 12884901890 ∷ Read 12884901891 ∷ Read 12884901892 ∷
    Read 12884901893 ∷ Read 12884901894 ∷ Read 12884901895 ∷ Show 0 ∷ Show 1 ∷ End ∷ []

abbrev pub failed_says : List Said
failed_says =
    answered 0 1 reply.Mounted ∷ answered 0 2 reply.Ok ∷ said.Dead (party 0) ∷ answered 0 3 reply.Io ∷ said.Recovering (party 0) (party 255) ∷
    said.Recovered (party 0) (record { 0 = 0 }) ∷ said.Node (codes "/") 2 1 0 ∷ said.Node (codes "/f") 1 0 1 ∷ said.End ∷ []

pub failed_runs_so : story_of failed_run ≡ record { events = failed_events; said_lines = failed_says }
unfolding no_clerks no_logs any_server zeros resolve least least_from changed frame_read
failed_runs_so = refl

-- ---- a stalled server that is not clean: it dies when its lease ends

abbrev pub stalled_lines : List Line
stalled_lines = line 1 0 op.Mount ∷ line 2 0 (op.Truncate (codes "f" ∷ []) 0) ∷ line 3 0 op.Stall ∷ line 4 0 (op.Stat (codes "f" ∷ [])) ∷ []

abbrev pub stalled_run : Driven
stalled_run = driven 84 (filed_opening stalled_lines)

abbrev pub stalled_events : List Event
stalled_events =
    Begin 0 ∷ Answer 0 ∷ Begin 0 ∷ Ask 0 (Node 0) Shared ∷ Fetch 0 10737418240 ∷ Fetch 0 12884901888 ∷ Again 0 ∷ Ask 0 (Node 1) Shared ∷ Fetch 0 10737418241 ∷ Again 0 ∷
    Ask 0 (Node 1) Sole ∷ Commit 0 ∷ Begin 0 ∷ Answer 0 ∷ Tick ∷ Tick ∷ Tick ∷ Tick ∷ Tick ∷ Tick ∷ Tick ∷ Tick ∷ Tick ∷ Tick ∷ Tick ∷ Tick ∷ Tick ∷ Tick ∷ Tick ∷ Tick ∷
    Tick ∷ Tick ∷ Tick ∷ Tick ∷ Tick ∷ Tick ∷ Tick ∷ Tick ∷ Tick ∷ Tick ∷ Tick ∷ Tick ∷ Tick ∷ Tick ∷ Tick ∷ Doom 0 ∷ Die 0 ∷ Begin 0 ∷ Answer 0 ∷ Recover 0 255 ∷
    Finish 255 ∷ Read 10737418240 ∷ Read 12884901888 ∷ Read 10737418241 ∷ Read 12884901889 ∷ Read 12884901890 ∷ Read 12884901891 ∷ Read 12884901892 ∷ Read 12884901893 ∷
    Read 12884901894 ∷ Read 12884901895 ∷ Show 0 ∷ Show 1 ∷ End ∷ []

abbrev pub stalled_says : List Said
stalled_says =
    answered 0 1 reply.Mounted ∷ answered 0 2 reply.Ok ∷ answered 0 3 reply.Ok ∷ said.Dead (party 0) ∷ answered 0 4 reply.Expired ∷
    said.Recovering (party 0) (party 255) ∷ said.Recovered (party 0) (record { 0 = 0 }) ∷ said.Node (codes "/") 2 1 0 ∷ said.Node (codes "/f") 1 0 1 ∷ said.End ∷ []

pub stalled_runs_so : story_of stalled_run ≡ record { events = stalled_events; said_lines = stalled_says }
unfolding no_clerks no_logs any_server zeros resolve least least_from changed frame_read
stalled_runs_so = refl
