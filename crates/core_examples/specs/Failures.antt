-- Worked runs in which calls fail, computed: of a server, of one that recovers another, and of the host.
use Rattle.std.specs.Prelude.{replicate, ◌≡◌, ℕ, ◌==◌, ◌&&◌, Bool, true, false, if◌then◌else◌, Option, Some, None, List, [], ◌∷◌, ◌++◌, codes, refl}
use Rattle.frang_base.specs.declared.lock.LockId.TheVariants.{Node}
use Rattle.frang_base.specs.declared.lock.Mode.TheVariants.{Shared, Sole}
use Rattle.frang_base.specs.declared.op.Op.TheVariants as op
use Rattle.frang_base.specs.declared.reply.Reply.TheVariants as reply
use Rattle.frang_base.specs.declared.said.Said.{Said}
use Rattle.frang_base.specs.declared.said.Said.TheVariants as said
use Rattle.frang_base.specs.declared.script.Line.{Line}
use Rattle.frang_outside.specs.declared.act.Taken.TheVariants as taken
use Rattle.disk_definitions.specs.Resolving.{resolve}
use Rattle.lock_definitions.specs.Locks.{no_clerks, no_logs}
use Rattle.lock_definitions.specs.Servers.{any_server}
use Rattle.disk_definitions.specs.Least.{least, least_from}
use Rattle.sector_bytes.specs.Bytes.{zeros}
use Rattle.sector_bytes.specs.Changes.{changed}
use Rattle.disk_definitions.specs.Frames.{frame_read}
use Rattle.core_definitions.specs.Events.{Event, Begin, Ask, Fetch, Again, Commit, Answer, Issue, Doom, Arrive, Die, Tick, Recover, Load, Look, Finish, Read, Show, End}
use Rattle.core_definitions.specs.Runs.{State, peek_failed}
use Rattle.core_examples.specs.Choices.{at_tick, dead, having, idle, open_now, up}
use Rattle.core_examples.specs.Choosing.{tale_of}
use Rattle.core_examples.specs.Driving.{Driven, filed_opening, line, opening, says, story_of}
use Rattle.core_examples.specs.Failing.{driven_promptly, no_get, no_put}
use Rattle.core_examples.specs.Rows.{answered, party}
use Rattle.core_examples.specs.Turns.{logged_disk, recovering_over}

-- the clock goes on until the lease of who died has ended
abbrev pub then_recovered : List Event → List Event
then_recovered events = replicate 31 Tick ++ events

abbrev pub tree_reads : List Event
tree_reads =
    Read 10737418240 ∷ Read 12884901888 ∷ Read 10737418241 ∷ Read 12884901889 ∷ Read 12884901890 ∷ Read 12884901891 ∷ Read 12884901892 ∷ Read 12884901893 ∷
    Read 12884901894 ∷ Read 12884901895 ∷ Show 0 ∷ Show 1 ∷ End ∷ []

abbrev pub tree_says : List Said
tree_says = said.Node (codes "/") 2 1 0 ∷ said.Node (codes "/f") 1 0 1 ∷ said.End ∷ []

-- ---- a get of a server that is up fails: it dies, its line is answered `io`, and it is recovered

abbrev pub is_file_get : Event → Bool
is_file_get (Fetch a sector) = sector == 10737418241
is_file_get event = false

abbrev pub got_lines : List Line
got_lines = line 1 0 op.Mount ∷ line 2 0 (op.Stat (codes "f" ∷ [])) ∷ []

abbrev pub got_run : Driven
got_run = driven_promptly (record { get = is_file_get; put = no_put }) 83 (filed_opening got_lines)

abbrev pub got_events : List Event
got_events =
    Begin 0 ∷ Answer 0 ∷ Begin 0 ∷ Ask 0 (Node 0) Shared ∷ Fetch 0 10737418240 ∷ Fetch 0 12884901888 ∷ Again 0 ∷ Ask 0 (Node 1) Shared ∷ Fetch 0 10737418241 ∷
    Doom 0 ∷ Die 0 ∷ Answer 0 ∷ then_recovered (Recover 0 255 ∷ Finish 255 ∷ tree_reads)

abbrev pub got_says : List Said
got_says =
    answered 0 1 reply.Mounted ∷ said.Dead (party 0) ∷ answered 0 2 reply.Io ∷ said.Recovering (party 0) (party 255) ∷ said.Recovered (party 0) (record { 0 = 0 }) ∷ tree_says

pub a_server_whose_get_fails_dies : story_of got_run ≡ record { events = got_events; said_lines = got_says }
unfolding no_clerks no_logs any_server zeros resolve least least_from changed frame_read
a_server_whose_get_fails_dies = refl

-- ---- a get under a mount fails: the line is answered `io`, and the server stays off

abbrev pub is_slot_get : Event → Bool
is_slot_get (Fetch a sector) = sector == 2147483651
is_slot_get event = false

abbrev pub mount_lines : List Line
mount_lines = line 1 0 op.Mount ∷ line 2 0 (op.Stat []) ∷ []

abbrev pub mount_run : Driven
mount_run = driven_promptly (record { get = is_slot_get; put = no_put }) 12 (opening mount_lines)

-- no slot is read behind the fourth, whose get failed
abbrev pub mount_events : List Event
mount_events =
    Begin 0 ∷ Fetch 0 2147483648 ∷ Fetch 0 2147483649 ∷ Fetch 0 2147483650 ∷ Fetch 0 2147483651 ∷ Answer 0 ∷ Begin 0 ∷ Answer 0 ∷ Read 10737418240 ∷ Show 0 ∷ End ∷ []

abbrev pub mount_says : List Said
mount_says = answered 0 1 reply.Io ∷ answered 0 2 reply.Down ∷ said.Node (codes "/") 2 0 0 ∷ said.End ∷ []

pub a_mount_whose_get_fails_is_refused : mount_run.events ≡ mount_events
unfolding no_clerks no_logs any_server zeros
a_mount_whose_get_fails_is_refused = refl

pub it_is_answered_io : says mount_run ≡ mount_says
unfolding no_clerks no_logs any_server zeros
it_is_answered_io = refl

-- ---- a get of a recoverer fails: it dies, its hold on the log lasts as long as its lease, and the host recovers both

abbrev pub is_load_by_one : Event → Bool
is_load_by_one (Load by slot) = by == 1 && slot == 3
is_load_by_one event = false

-- the first server is dead, and the second is up
abbrev pub recoverer : State
recoverer = at_tick 31 (having (having idle 0 dead) 1 (record up { expiry = 61 }))

abbrev pub recoverer_run : Driven
recoverer_run = driven_promptly (record { get = is_load_by_one; put = no_put }) 62 recoverer

abbrev pub recoverer_events : List Event
recoverer_events =
    Recover 0 1 ∷ Doom 1 ∷ Die 1 ∷ then_recovered (Recover 0 255 ∷ Finish 255 ∷ Recover 1 255 ∷ Finish 255 ∷ Read 10737418240 ∷ Show 0 ∷ End ∷ [])

abbrev pub recoverer_says : List Said
recoverer_says =
    said.Recovering (party 0) (party 1) ∷ said.Dead (party 1) ∷ said.Recovering (party 0) (party 255) ∷ said.Recovered (party 0) (record { 0 = 0 }) ∷
    said.Recovering (party 1) (party 255) ∷ said.Recovered (party 1) (record { 0 = 0 }) ∷ said.Node (codes "/") 2 0 0 ∷ said.End ∷ []

pub a_recoverer_whose_get_fails_dies : story_of recoverer_run ≡ record { events = recoverer_events; said_lines = recoverer_says }
unfolding no_clerks no_logs any_server zeros
a_recoverer_whose_get_fails_dies = refl

-- ---- a call of the host fails: it is over, with nothing said any more

abbrev pub is_read : Event → Bool
is_read (Read sector) = true
is_read event = false

abbrev pub read_run : Driven
read_run = driven_promptly (record { get = is_read; put = no_put }) 5 (opening (line 1 0 (op.Stat []) ∷ []))

-- a get of the tree: neither a line of it nor the end comes
pub a_failed_read_ends_it : story_of read_run ≡ record { events = Begin 0 ∷ Answer 0 ∷ Read 10737418240 ∷ []; said_lines = answered 0 1 reply.Down ∷ [] }
unfolding no_clerks no_logs any_server zeros
a_failed_read_ends_it = refl

abbrev pub is_second_load : Event → Bool
is_second_load (Load by slot) = slot == 1
is_second_load event = false

abbrev pub host_load_run : Driven
host_load_run = driven_promptly (record { get = is_second_load; put = no_put }) 5 (at_tick 31 (having idle 0 dead))

-- a slot of a log that it recovers
pub a_failed_load_of_the_host_ends_it : host_load_run.events ≡ Recover 0 255 ∷ Load 255 0 ∷ Load 255 1 ∷ []
unfolding no_clerks no_logs any_server zeros
a_failed_load_of_the_host_ends_it = refl

abbrev pub is_look : Event → Bool
is_look (Look by sector) = true
is_look event = false

abbrev pub host_look_run : Driven
host_look_run = driven_promptly (record { get = is_look; put = no_put }) 5 (recovering_over logged_disk)

-- a sector that the log names
pub a_failed_look_of_the_host_ends_it : host_look_run.events ≡ Look 255 10737418241 ∷ []
unfolding no_clerks no_logs any_server zeros changed frame_read
a_failed_look_of_the_host_ends_it = refl

-- the put with the first ticket fails, and leaves the new block
abbrev pub first_put : ℕ → Option Bool
first_put ticket = if ticket == 0 then Some true else None

abbrev pub host_put_run : Driven
host_put_run = driven_promptly (record { get = no_get; put = first_put }) 5 (recovering_over logged_disk)

-- a write of its recovery
pub a_failed_put_of_the_host_ends_it : host_put_run.events ≡ Look 255 10737418241 ∷ Issue 255 10737418241 ∷ Arrive 0 ∷ []
unfolding no_clerks no_logs any_server zeros changed frame_read
a_failed_put_of_the_host_ends_it = refl

-- a sector at which it peeks beside the events
pub a_failed_peek_ends_it : open_now (peek_failed idle) ≡ []
unfolding no_clerks no_logs any_server zeros
a_failed_peek_ends_it = refl

-- ---- a failed put that leaves the new sector: its server dies, and what the record in its log says is kept

abbrev pub left_lines : List Line
left_lines = line 1 0 op.Mount ∷ line 2 0 (op.Truncate (codes "f" ∷ []) 0) ∷ line 3 0 op.Sync ∷ []

abbrev pub left_run : Driven
left_run = driven_promptly (record { get = no_get; put = first_put }) 92 (filed_opening left_lines)

abbrev pub left_events : List Event
left_events =
    Begin 0 ∷ Answer 0 ∷ Begin 0 ∷ Ask 0 (Node 0) Shared ∷ Fetch 0 10737418240 ∷ Fetch 0 12884901888 ∷ Again 0 ∷ Ask 0 (Node 1) Shared ∷ Fetch 0 10737418241 ∷ Again 0 ∷
    Ask 0 (Node 1) Sole ∷ Commit 0 ∷ Begin 0 ∷ Issue 0 2147483648 ∷ Arrive 0 ∷ Doom 0 ∷ Die 0 ∷ Answer 0 ∷
    then_recovered (Recover 0 255 ∷ Look 255 10737418241 ∷ Issue 255 10737418241 ∷ Arrive 1 ∷ Finish 255 ∷ tree_reads)

abbrev pub left_says : List Said
left_says =
    answered 0 1 reply.Mounted ∷ answered 0 2 reply.Ok ∷ said.Dead (party 0) ∷ answered 0 3 reply.Io ∷ said.Recovering (party 0) (party 255) ∷
    said.Recovered (party 0) (record { 0 = 8589934594 }) ∷ tree_says

-- the record has the recovery's write alone
pub what_a_failed_put_leaves_is_kept :
    tale_of left_run ≡ record { story = record { events = left_events; said_lines = left_says }; puts = (10737418241, taken.Written) ∷ [] }
unfolding no_clerks no_logs any_server zeros resolve least least_from changed frame_read
what_a_failed_put_leaves_is_kept = refl
