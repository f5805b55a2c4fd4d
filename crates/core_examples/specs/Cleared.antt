-- A worked run in which a block is cleared, computed in parts: the events in their order and the lines said.
use Rattle.std.proofs.Common.{◌∙◌, ap}
use Rattle.std.specs.Prelude.{◌≡◌, ℕ, Option, Some, None, List, [], ◌∷◌, ◌++◌, codes, refl}
use Rattle.frang_base.specs.Functions.{put}
use Rattle.frang_base.specs.declared.lock.LockId.{LockId}
use Rattle.frang_base.specs.declared.lock.LockId.TheVariants.{Node, Segment}
use Rattle.frang_base.specs.declared.lock.Mode.{Mode}
use Rattle.frang_base.specs.declared.lock.Mode.TheVariants.{Shared, Sole}
use Rattle.frang_base.specs.declared.op.HostOp.TheVariants as host
use Rattle.frang_base.specs.declared.op.Op.TheVariants as op
use Rattle.frang_base.specs.declared.reply.Reply.TheVariants as reply
use Rattle.frang_base.specs.declared.said.Said.{Said}
use Rattle.frang_base.specs.declared.script.Line.{Line}
use Rattle.disk_definitions.specs.Store.{StoredNode, stored_node}
use Rattle.disk_definitions.specs.Resolving.{resolve}
use Rattle.lock_definitions.specs.Locks.{no_clerks, no_logs}
use Rattle.lock_definitions.specs.Servers.{any_server}
use Rattle.disk_definitions.specs.Frames.{frame_read}
use Rattle.disk_definitions.specs.Least.{least, least_from}
use Rattle.disk_definitions.specs.NamePlans.{made_by}
use Rattle.disk_definitions.specs.Plans.{Finish}
use Rattle.disk_definitions.specs.Plans.Room.{InBlock}
use Rattle.sector_bytes.specs.Bytes.{zeros}
use Rattle.sector_bytes.specs.Changes.{changed}
use Rattle.disk_definitions.specs.Inodes.{inode_in}
use Rattle.disk_definitions.specs.Edits.{Edit}
use Rattle.tree_definitions.specs.declared.node.Node.TheVariants.{File}
use Rattle.core_definitions.specs.Cores.{stage}
use Rattle.set_definitions.specs.Seen.{SeenSectors}
use Rattle.core_definitions.specs.Lines.{Stage, Clearing, Fetching, Finishing, Growing}
use Rattle.core_definitions.specs.Plans.{Outcome, outcome_of, sight_of}
use Rattle.core_definitions.specs.Servers.{Server}
use Rattle.core_definitions.specs.Events.{Event, Begin, Ask, Fetch, Again, Clear, Commit, Answer, Issue, Arrive, HostLine}
use Rattle.core_definitions.specs.Effects.{reply_by, says_answer}
use Rattle.core_definitions.specs.LineEffects.{again_by, committed_at, fetched_by}
use Rattle.core_definitions.specs.Runs.{State}
use Rattle.core_examples.specs.Clears.{made, made_set}
use Rattle.core_examples.specs.Driving.{Driven, behind, driven, host_line, inode_block, line, story_of}
use Rattle.core_examples.specs.Parts.{OfArrival, OfIssue, WritesCome, a_run_goes_on, a_turn_goes_on, behind_all, enabled_at, first_event, left_by, left_by_one, story_behind, writes_go_on, writes_stay}
use Rattle.core_examples.specs.Rows.{answered}
use Rattle.core_examples.specs.Opening.{directory_opening}

-- ---- a mount, a file made in a directory that has no block yet, a sync, and a halt

abbrev pub cleared_lines : List Line
cleared_lines = line 1 0 op.Mount ∷ line 2 0 made ∷ line 3 0 op.Sync ∷ host_line 4 host.Halt ∷ []

unfoldable pub cleared_opening : State
cleared_opening = directory_opening cleared_lines

abbrev pub cleared_run : Driven
cleared_run = driven 48 cleared_opening

abbrev pub cleared_says : List Said
cleared_says = answered 0 1 reply.Mounted ∷ answered 0 2 reply.Ok ∷ answered 0 3 reply.Ok ∷ answered 255 4 reply.Ok ∷ []

-- ---- to the bitmap of the segment

abbrev pub start_events : List Event
start_events =
    Begin 0 ∷ Fetch 0 2147483648 ∷ Fetch 0 2147483649 ∷ Fetch 0 2147483650 ∷ Fetch 0 2147483651 ∷ Fetch 0 2147483652 ∷ Fetch 0 2147483653 ∷ Fetch 0 2147483654 ∷
    Fetch 0 2147483655 ∷ Answer 0 ∷ Begin 0 ∷ Ask 0 (Node 0) Shared ∷ Fetch 0 10737418240 ∷ Fetch 0 12884901888 ∷ Again 0 ∷ Ask 0 (Node 1) Shared ∷
    Fetch 0 10737418241 ∷ Again 0 ∷ Ask 0 (Segment 0) Sole ∷ Fetch 0 4294967296 ∷ []

pub the_bitmap_is_fetched : (driven 20 cleared_opening).events ≡ start_events
unfolding cleared_opening no_clerks no_logs any_server zeros resolve least least_from changed frame_read
the_bitmap_is_fetched = refl

unfoldable pub bitmap_fetched : State
bitmap_fetched = left_by start_events cleared_opening

-- ---- to the locks of the plan; from here on each plan looks for its block among all that a disk may have, and is made once for all turns at which it is the same

-- the plan needs the sector of the inode that it picks
abbrev pub inode_needed : Option Stage
inode_needed = Some (Fetching ((10737418242, Segment 0) ∷ []))

pub an_inode_is_needed : stage bitmap_fetched.core 0 ≡ inode_needed
unfolding bitmap_fetched cleared_opening no_clerks no_logs any_server zeros resolve least least_from changed frame_read
an_inode_is_needed = refl

pub the_inode_is_fetched : first_event (enabled_at bitmap_fetched.core inode_needed) ≡ Some (Fetch 0 10737418242)
unfolding bitmap_fetched cleared_opening no_clerks no_logs any_server zeros resolve least least_from changed frame_read
the_inode_is_fetched = refl

-- a state whose servers are those of another, but for the first
abbrev pub with_first : State → State → Server → State
with_first s before server = record s { core = record s.core { servers = put before.core.servers 0 server } }

abbrev pub fetching : Option Stage → Server
fetching at = fetched_by 0 at 10737418242 (bitmap_fetched.disk 10737418242) (bitmap_fetched.core.servers 0)

unfoldable pub inode_fetched : State
inode_fetched = with_first (left_by_one bitmap_fetched (Fetch 0 10737418242)) bitmap_fetched (fetching inode_needed)

-- it has looked at the inodes of these nodes, finds these locks by them, and has seen these sectors
abbrev pub made_nodes : List ℕ
made_nodes = 0 ∷ 1 ∷ 0 ∷ 1 ∷ 2 ∷ []

abbrev pub made_locks_found : List (LockId × Mode)
made_locks_found =
    (Node 0, Shared) ∷ (Node 1, Shared) ∷ (Node 0, Shared) ∷ (Node 1, Shared) ∷ (Node 2, Shared) ∷ (Node 1, Sole) ∷ (Node 2, Sole) ∷ (Segment 0, Sole) ∷ (Segment 0, Sole) ∷ []

abbrev pub made_seen : SeenSectors
made_seen = (10737418240, 2) ∷ (12884901888, 1) ∷ (10737418241, 1) ∷ (4294967296, 2) ∷ (10737418242, 0) ∷ []

abbrev pub locks_found : Option Stage
locks_found = Some (Growing made_locks_found made_seen)

pub the_locks_are_found : stage inode_fetched.core 0 ≡ locks_found
unfolding inode_fetched bitmap_fetched cleared_opening no_clerks no_logs any_server zeros resolve least least_from changed frame_read
the_locks_are_found = refl

pub the_set_grows : first_event (enabled_at inode_fetched.core locks_found) ≡ Some (Again 0)
unfolding inode_fetched bitmap_fetched cleared_opening no_clerks no_logs any_server zeros resolve least least_from changed frame_read
the_set_grows = refl

abbrev pub growing : Option Stage → Server
growing at = again_by inode_fetched.core.setting.logs at (inode_fetched.core.servers 0)

unfoldable pub set_grown : State
set_grown = with_first (left_by_one inode_fetched (Again 0)) inode_fetched (growing locks_found)

abbrev pub ask_events : List Event
ask_events = Ask 0 (Node 1) Sole ∷ Ask 0 (Node 2) Sole ∷ []

pub the_locks_are_asked : (driven 2 set_grown).events ≡ ask_events
unfolding set_grown inode_fetched bitmap_fetched cleared_opening no_clerks no_logs any_server zeros resolve least least_from changed frame_read
the_locks_are_asked = refl

unfoldable pub locks_held : State
locks_held = left_by ask_events set_grown

-- ---- the clear

pub the_plan_clears_a_block : stage locks_held.core 0 ≡ Some (Clearing 1)
unfolding locks_held set_grown inode_fetched bitmap_fetched cleared_opening no_clerks no_logs any_server zeros resolve least least_from changed frame_read
the_plan_clears_a_block = refl

pub the_block_is_cleared : first_event (enabled_at locks_held.core (Some (Clearing 1))) ≡ Some (Clear 0 1)
unfolding locks_held set_grown inode_fetched bitmap_fetched cleared_opening no_clerks no_logs any_server zeros resolve least least_from changed frame_read
the_block_is_cleared = refl

unfoldable pub zeros_wanted : State
zeros_wanted = left_by_one locks_held (Clear 0 1)

-- ---- the line is finished then, but waits for the writes of the zeros

-- what it does: the file gets inode 2, and the directory block 1
abbrev pub made_edits : Option StoredNode → List Edit
made_edits None = []
made_edits (Some directory) = (made_by 1 directory (codes "x") 8589934594 (File [] 1 0) (0 ∷ 1 ∷ []) 2 (InBlock 1)).edits

abbrev pub made_finish : Finish
made_finish = record { reply = reply.Ok; edits = made_edits (stored_node (inode_in (inode_block 1 2 1 0 4294967298 []))); locks = [] }

abbrev pub made_outcome : Outcome
made_outcome = outcome_of zeros_wanted.core.setting (line 2 0 made) made_nodes (sight_of 1 made_set (zeros_wanted.core.servers 0).cache) made_finish

abbrev pub finished : Option Stage
finished = Some (Finishing made_outcome)

pub the_plan_is_finished : stage zeros_wanted.core 0 ≡ finished
unfolding zeros_wanted locks_held set_grown inode_fetched bitmap_fetched cleared_opening no_clerks no_logs any_server zeros resolve least least_from changed frame_read
the_plan_is_finished = refl

-- ---- the writes of its zeros, and their arrivals

abbrev pub issue_events : List Event
issue_events =
    Issue 0 12884901896 ∷ Issue 0 12884901897 ∷ Issue 0 12884901898 ∷ Issue 0 12884901899 ∷ Issue 0 12884901900 ∷ Issue 0 12884901901 ∷
    Issue 0 12884901902 ∷ Issue 0 12884901903 ∷ []

pub the_zeros_are_issued : WritesCome finished zeros_wanted issue_events
unfolding zeros_wanted locks_held set_grown inode_fetched bitmap_fetched cleared_opening no_clerks no_logs any_server zeros resolve least least_from changed frame_read
the_zeros_are_issued = (OfIssue, refl, (OfIssue, refl, (OfIssue, refl, (OfIssue, refl, (OfIssue, refl, (OfIssue, refl, (OfIssue, refl, (OfIssue, refl, tt))))))))

unfoldable pub zeros_issued : State
zeros_issued = left_by issue_events zeros_wanted

abbrev pub arrive_events : List Event
arrive_events = Arrive 0 ∷ Arrive 1 ∷ Arrive 2 ∷ Arrive 3 ∷ Arrive 4 ∷ Arrive 5 ∷ Arrive 6 ∷ Arrive 7 ∷ []

pub the_zeros_arrive : WritesCome finished zeros_issued arrive_events
unfolding zeros_issued zeros_wanted locks_held set_grown inode_fetched bitmap_fetched cleared_opening no_clerks no_logs any_server zeros resolve least least_from changed frame_read
the_zeros_arrive = (OfArrival, refl, (OfArrival, refl, (OfArrival, refl, (OfArrival, refl, (OfArrival, refl, (OfArrival, refl, (OfArrival, refl, (OfArrival, refl, tt))))))))

unfoldable pub zeros_written : State
zeros_written = left_by arrive_events zeros_issued

-- ---- and only then the commit, the sync and the halt

pub the_line_is_committed : first_event (enabled_at zeros_written.core finished) ≡ Some (Commit 0)
unfolding zeros_written zeros_issued zeros_wanted locks_held set_grown inode_fetched bitmap_fetched cleared_opening no_clerks no_logs any_server zeros resolve least least_from changed frame_read
the_line_is_committed = refl

-- the commit of a line that has come so far
abbrev pub committed_so : State → Option Stage → State
committed_so s at = record { core = committed_at s.core 0 at; disk = s.disk; record_ = s.record_ ++ says_answer 0 (s.core.servers 0).under (reply_by at) }

unfoldable pub line_done : State
line_done = committed_so zeros_written finished

abbrev pub end_events : List Event
end_events = Begin 0 ∷ Issue 0 2147483648 ∷ Arrive 8 ∷ Answer 0 ∷ HostLine 4 ∷ []

pub then_it_ends : story_of (driven 6 line_done) ≡ record { events = end_events; said_lines = cleared_says }
unfolding line_done zeros_written zeros_issued zeros_wanted locks_held set_grown inode_fetched bitmap_fetched cleared_opening no_clerks no_logs any_server zeros resolve least least_from changed frame_read
then_it_ends = refl

-- ---- the parts make the run

start_goes_on : driven 48 cleared_opening ≡ behind_all start_events (driven 28 bitmap_fetched)
unfolding bitmap_fetched
start_goes_on = a_run_goes_on start_events 28 cleared_opening the_bitmap_is_fetched

inode_leaves : left_by_one bitmap_fetched (Fetch 0 10737418242) ≡ inode_fetched
unfolding inode_fetched
inode_leaves = ap (λ at. with_first (left_by_one bitmap_fetched (Fetch 0 10737418242)) bitmap_fetched (fetching at)) an_inode_is_needed

inode_goes_on : driven 28 bitmap_fetched ≡ behind (Fetch 0 10737418242) (driven 27 inode_fetched)
inode_goes_on =
    a_turn_goes_on (Fetch 0 10737418242) 27 bitmap_fetched inode_needed (record { come = an_inode_is_needed; first = the_inode_is_fetched })
    ∙ ap (λ s. behind (Fetch 0 10737418242) (driven 27 s)) inode_leaves

set_leaves : left_by_one inode_fetched (Again 0) ≡ set_grown
unfolding set_grown
set_leaves = ap (λ at. with_first (left_by_one inode_fetched (Again 0)) inode_fetched (growing at)) the_locks_are_found

set_goes_on : driven 27 inode_fetched ≡ behind (Again 0) (driven 26 set_grown)
set_goes_on =
    a_turn_goes_on (Again 0) 26 inode_fetched locks_found (record { come = the_locks_are_found; first = the_set_grows })
    ∙ ap (λ s. behind (Again 0) (driven 26 s)) set_leaves

locks_go_on : driven 26 set_grown ≡ behind_all ask_events (driven 24 locks_held)
unfolding locks_held
locks_go_on = a_run_goes_on ask_events 24 set_grown the_locks_are_asked

clear_goes_on : driven 24 locks_held ≡ behind (Clear 0 1) (driven 23 zeros_wanted)
unfolding zeros_wanted
clear_goes_on = a_turn_goes_on (Clear 0 1) 23 locks_held (Some (Clearing 1)) (record { come = the_plan_clears_a_block; first = the_block_is_cleared })

issues_go_on : driven 23 zeros_wanted ≡ behind_all issue_events (driven 15 zeros_issued)
unfolding zeros_issued
issues_go_on = writes_go_on issue_events 15 zeros_wanted finished the_plan_is_finished the_zeros_are_issued

still_finished : stage zeros_issued.core 0 ≡ finished
unfolding zeros_issued
still_finished = writes_stay issue_events zeros_wanted finished the_plan_is_finished the_zeros_are_issued

arrivals_go_on : driven 15 zeros_issued ≡ behind_all arrive_events (driven 7 zeros_written)
unfolding zeros_written
arrivals_go_on = writes_go_on arrive_events 7 zeros_issued finished still_finished the_zeros_arrive

finished_at_last : stage zeros_written.core 0 ≡ finished
unfolding zeros_written
finished_at_last = writes_stay arrive_events zeros_issued finished still_finished the_zeros_arrive

commit_leaves : left_by_one zeros_written (Commit 0) ≡ line_done
unfolding line_done
commit_leaves = ap (committed_so zeros_written) finished_at_last

commit_goes_on : driven 7 zeros_written ≡ behind (Commit 0) (driven 6 line_done)
commit_goes_on =
    a_turn_goes_on (Commit 0) 6 zeros_written finished (record { come = finished_at_last; first = the_line_is_committed })
    ∙ ap (λ s. behind (Commit 0) (driven 6 s)) commit_leaves

zeros_go_on : driven 23 zeros_wanted ≡ behind_all (issue_events ++ arrive_events) (behind (Commit 0) (driven 6 line_done))
zeros_go_on = issues_go_on ∙ ap (behind_all issue_events) (arrivals_go_on ∙ ap (behind_all arrive_events) commit_goes_on)

-- from the bitmap to the end of the line
abbrev pub line_events : List Event
line_events = Fetch 0 10737418242 ∷ Again 0 ∷ ask_events ++ Clear 0 1 ∷ issue_events ++ arrive_events ++ Commit 0 ∷ []

line_goes_on : driven 28 bitmap_fetched ≡ behind_all line_events (driven 6 line_done)
line_goes_on =
    inode_goes_on ∙ ap (behind (Fetch 0 10737418242))
    (set_goes_on ∙ ap (behind (Again 0)) (locks_go_on ∙ ap (behind_all ask_events) (clear_goes_on ∙ ap (behind (Clear 0 1)) zeros_go_on)))

in_parts : cleared_run ≡ behind_all start_events (behind_all line_events (driven 6 line_done))
in_parts = start_goes_on ∙ ap (behind_all start_events) line_goes_on

abbrev pub cleared_events : List Event
cleared_events =
    Begin 0 ∷ Answer 0 ∷ Begin 0 ∷ Ask 0 (Node 0) Shared ∷ Fetch 0 10737418240 ∷ Fetch 0 12884901888 ∷ Again 0 ∷ Ask 0 (Node 1) Shared ∷ Fetch 0 10737418241 ∷
    Again 0 ∷ Ask 0 (Segment 0) Sole ∷ Fetch 0 4294967296 ∷ line_events ++ end_events

pub cleared_runs_so : story_of cleared_run ≡ record { events = cleared_events; said_lines = cleared_says }
cleared_runs_so = ap story_of in_parts ∙ ap (λ story. story_behind start_events (story_behind line_events story)) then_it_ends
