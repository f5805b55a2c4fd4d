-- What may happen in states stated by hand, computed: each condition of an event, where it lacks and where it holds.
use Rattle.std.specs.Prelude.{◌≡◌, ℕ, Bool, true, false, Some, None, List, [], ◌∷◌, codes, refl}
use Rattle.frang_base.specs.Functions.{put}
use Rattle.frang_base.specs.declared.lock.LockId.TheVariants.{Node, Segment}
use Rattle.frang_base.specs.declared.lock.Mode.TheVariants.{Shared, Sole}
use Rattle.frang_base.specs.declared.op.Op.{Op}
use Rattle.frang_base.specs.declared.op.Op.TheVariants as op
use Rattle.frang_base.specs.declared.reply.Reply.TheVariants as reply
use Rattle.disk_definitions.specs.Resolving.{resolve}
use Rattle.lock_definitions.specs.Locks.{Locks, no_clerks, no_locks, no_logs}
use Rattle.lock_definitions.specs.Calls.{taken, wanted}
use Rattle.lock_definitions.specs.Servers.{any_server}
use Rattle.disk_definitions.specs.Frames.{frame_read}
use Rattle.disk_definitions.specs.Least.{least, least_from}
use Rattle.ring_definitions.specs.Rings.{Ring, ring_at}
use Rattle.sector_bytes.specs.Bytes.{zeros}
use Rattle.sector_bytes.specs.Changes.{changed}
use Rattle.disk_definitions.specs.LogSectors.{empty_sector}
use Rattle.cache_definitions.specs.Caches.{CachedSector, clean, dirty}
use Rattle.core_definitions.specs.Flights.{Flight, InPlace}
use Rattle.core_definitions.specs.Lines.{under_at_first}
use Rattle.core_definitions.specs.Plans.{Outcome}
use Rattle.core_definitions.specs.Servers.{Server, Off}
use Rattle.core_definitions.specs.Events.{Event, Again, Commit, Give, Issue, Doom, Resume, Arrive, Lose, Renew, Tick, Recover, Close, Read, Nothing, Written}
use Rattle.core_definitions.specs.LineEffects.{committed}
use Rattle.core_definitions.specs.Runs.{State, held_on, next}
use Rattle.core_examples.specs.Driving.{entries_block, entry, filed_opening, inode_block, line, opening}
use Rattle.core_examples.specs.Choices.{at_tick, choices, dead, flying, having, idle, locked_so, open_now, still, up, with_core}

-- the block of a file's inode, and its sector
abbrev pub file_block : List ℕ
file_block = inode_block 2 1 1 0 4294967298 []

abbrev pub file_sector : ℕ
file_sector = 10737418241

-- the file's inode in a cache: clean, and dirty with a mark that is reached
abbrev pub clean_file : CachedSector
clean_file = clean file_block (Node 1)

abbrev pub dirty_file : CachedSector
dirty_file = dirty file_block (Node 1) 255 false

abbrev pub holding_file : CachedSector → Server → Server
holding_file file server = record server { cache = (file_sector, file) ∷ [] }

-- its write in flight, of a server's present mount or of an earlier one, up to tick 15
abbrev pub file_flight : Bool → Flight
file_flight present = record { server = 0; behalf = 0; stamp = 15; sector = file_sector; block = file_block; purpose = InPlace (Node 1); present = present }

-- a server that has it dirty, and wants it written
abbrev pub writing : Server
writing = record (holding_file dirty_file up) { staying = file_sector ∷ [] }

-- ---- Issue

-- a wanted sector whose mark is reached is issued
pub what_is_wanted_is_issued : open_now (having idle 0 writing) ≡ Issue 0 file_sector ∷ Close 0 ∷ []
unfolding no_clerks no_logs any_server zeros
what_is_wanted_is_issued = refl

-- not past its stamp: only once the lease is renewed
pub none_is_issued_past_its_stamp : choices 2 (at_tick 16 (having idle 0 writing)) ≡ (Renew 0 ∷ Close 0 ∷ []) ∷ (Issue 0 file_sector ∷ Close 0 ∷ []) ∷ []
unfolding no_clerks no_logs any_server zeros
none_is_issued_past_its_stamp = refl

-- not once a call has failed
pub none_is_issued_after_a_failure : open_now (having idle 0 (record writing { failed = true })) ≡ Doom 0 ∷ Close 0 ∷ []
unfolding no_clerks no_logs any_server zeros
none_is_issued_after_a_failure = refl

-- a log whose next number waits, and of which so many before it are in flight
abbrev pub sending : List Bool → Server
sending above = record up { ring = record (ring_at 255) { above = above; waiting = empty_sector 257 ∷ [] }; staying_log = 258 }

-- with two in flight the next one waits
pub two_are_in_flight_at_most : open_now (having idle 0 (sending (false ∷ false ∷ []))) ≡ Close 0 ∷ []
unfolding no_clerks no_logs any_server zeros
two_are_in_flight_at_most = refl

-- with one it is issued
pub the_second_is_issued : open_now (having idle 0 (sending (false ∷ []))) ≡ Issue 0 2147483649 ∷ Close 0 ∷ []
unfolding no_clerks no_logs any_server zeros
the_second_is_issued = refl

-- ---- Commit and Again: a log with no room

abbrev pub cut : Op
cut = op.Truncate (codes "f" ∷ []) 0

-- a line under way that has its locks, over sectors that are all cached
abbrev pub cutting : Ring → CachedSector → Server
cutting ring file = record up {
  ring = ring;
  cache =
      (10737418240, clean (inode_block 2 2 1 1 0 (0 ∷ [])) (Node 0)) ∷ (file_sector, file) ∷
      (12884901888, clean (entries_block 1 (entry 1 1 (codes "f") ∷ [])) (Node 0)) ∷ [];
  under = Some (record (under_at_first (line 1 0 cut) cut None) { set = (Node 0, Shared) ∷ (Node 1, Sole) ∷ [] });
}

abbrev pub cutting_locks : Locks
cutting_locks = wanted (wanted no_locks 0 (Node 0) Shared) 0 (Node 1) Sole

abbrev pub cutting_with : Ring → CachedSector → State
cutting_with ring file = locked_so (having (filed_opening (line 1 0 cut ∷ [])) 0 (cutting ring file)) cutting_locks

-- where the log has room the line is committed
pub a_line_with_room_is_committed : open_now (cutting_with (ring_at 255) clean_file) ≡ Commit 0 ∷ []
unfolding no_clerks no_logs any_server zeros resolve least least_from changed frame_read
a_line_with_room_is_committed = refl

-- six numbers aren't given up; the oldest record names the file
abbrev pub full_ring : Ring
full_ring = record (ring_at 261) { given_up = 255; named = record { sector = record { 0 = file_sector }; version = 2; first = 256 } ∷ [] }

-- its sector is written first, and then the ring reclaims
abbrev pub full_turns : List (List Event)
full_turns = (Issue 0 file_sector ∷ []) ∷ (Arrive 0 ∷ []) ∷ (Again 0 ∷ []) ∷ (Commit 0 ∷ []) ∷ []

pub a_full_log_reclaims_first : choices 4 (cutting_with full_ring (dirty file_block (Node 1) 261 false)) ≡ full_turns
unfolding no_clerks no_logs any_server zeros resolve least least_from changed frame_read
a_full_log_reclaims_first = refl

-- not after a failure
pub none_reclaims_after_a_failure : open_now (locked_so (having (filed_opening (line 1 0 cut ∷ [])) 0 (record (cutting full_ring clean_file) { failed = true })) cutting_locks) ≡ Doom 0 ∷ []
unfolding no_clerks no_logs any_server zeros resolve least least_from changed frame_read
none_reclaims_after_a_failure = refl

-- ---- Give: a sector counts under the lock that covers it now

-- the first server has the locks of the file and of its segment, sole, and the second wants both; the file's inode is dirty and in flight
abbrev pub giving : State
giving =
    locked_so (flying (having (having idle 0 (holding_file dirty_file up)) 1 up) ((0, file_flight true) ∷ []))
    (wanted (wanted (wanted (wanted no_locks 0 (Node 1) Sole) 0 (Segment 0) Sole) 1 (Node 1) Sole) 1 (Segment 0) Sole)

-- a line is committed that moves the inode under the segment
abbrev pub moving : Outcome
moving = record { reply = reply.Ok; redo = None; bytes = []; freed = []; moves = put (λ sector. None) file_sector (Some (Segment 0)) }

abbrev pub moved : State
moved = with_core giving (committed giving.core 0 moving)

-- only the lock without dirty sectors or writes in flight may be given
pub a_lock_waits_for_its_writes : open_now giving ≡ Give 0 (Segment 0) ∷ Arrive 0 ∷ Close 0 ∷ Close 1 ∷ []
unfolding no_clerks no_logs any_server zeros
a_lock_waits_for_its_writes = refl

-- behind it the other one
pub a_moved_sector_counts_under_its_new_lock : open_now moved ≡ Give 0 (Node 1) ∷ Arrive 0 ∷ Close 0 ∷ Close 1 ∷ []
unfolding no_clerks no_logs any_server zeros
a_moved_sector_counts_under_its_new_lock = refl

-- and both once the write has arrived
pub a_lock_is_given_once_all_is_written : open_now (next moved (Arrive 0) Written) ≡ Give 0 (Segment 0) ∷ Give 0 (Node 1) ∷ Close 0 ∷ Close 1 ∷ []
unfolding no_clerks no_logs any_server zeros
a_lock_is_given_once_all_is_written = refl

-- the write alone, where the cache has the sector clean
pub a_write_in_flight_keeps_a_lock :
    open_now (having giving 0 (holding_file clean_file up)) ≡ Give 0 (Segment 0) ∷ Arrive 0 ∷ Close 0 ∷ Close 1 ∷ []
unfolding no_clerks no_logs any_server zeros
a_write_in_flight_keeps_a_lock = refl

-- ---- Lose: of the writes of a dead server alone

abbrev pub one_in_flight : Server → State
one_in_flight server = flying (having idle 0 server) ((0, file_flight false) ∷ [])

-- a write of a dead server may arrive or be lost, and the clock doesn't wait for it
pub a_write_of_the_dead_may_be_lost : open_now (one_in_flight dead) ≡ Arrive 0 ∷ Lose 0 ∷ Tick ∷ []
unfolding no_clerks no_logs any_server zeros
a_write_of_the_dead_may_be_lost = refl

-- one of a server that is up only arrives
pub one_of_a_server_that_is_up_is_not : open_now (one_in_flight up) ≡ Arrive 0 ∷ Close 0 ∷ []
unfolding no_clerks no_logs any_server zeros
one_of_a_server_that_is_up_is_not = refl

-- one of a stalled server too, and the clock doesn't wait for it
pub one_of_a_stalled_server_is_not : open_now (one_in_flight still) ≡ Arrive 0 ∷ Tick ∷ []
unfolding no_clerks no_logs any_server zeros
one_of_a_stalled_server_is_not = refl

-- nothing of a lost write is left
pub what_is_lost_is_gone : open_now (next (one_in_flight dead) (Lose 0) Nothing) ≡ Tick ∷ []
unfolding no_clerks no_logs any_server zeros
what_is_lost_is_gone = refl

-- ---- Read: once nothing is in flight

abbrev pub landing_turns : List (List Event)
landing_turns = (Arrive 0 ∷ []) ∷ (Read 10737418240 ∷ []) ∷ []

-- a write of an earlier mount is waited for
pub the_tree_is_read_once_all_has_landed : choices 2 (one_in_flight (record up { phase = Off })) ≡ landing_turns
unfolding no_clerks no_logs any_server zeros
the_tree_is_read_once_all_has_landed = refl

-- ---- Doom and Resume, of a stalled server: once its lease has ended, by whether it is clean

-- at its last tick nothing happens to it
pub a_lease_lasts_to_its_expiry : open_now (at_tick 30 (having idle 0 still)) ≡ Tick ∷ []
unfolding no_clerks no_logs any_server zeros
a_lease_lasts_to_its_expiry = refl

-- behind it a clean one goes on
pub a_clean_server_goes_on : open_now (at_tick 31 (having idle 0 still)) ≡ Resume 0 ∷ []
unfolding no_clerks no_logs any_server zeros
a_clean_server_goes_on = refl

-- and one with a dirty sector dies
pub one_that_is_not_clean_dies : open_now (at_tick 31 (having idle 0 (holding_file dirty_file still))) ≡ Doom 0 ∷ []
unfolding no_clerks no_logs any_server zeros
one_that_is_not_clean_dies = refl

-- ---- Recover: once the lease of who has taken the log has ended

abbrev pub taken_log : State
taken_log = locked_so (having (having idle 0 dead) 1 (record dead { expiry = 40 })) (taken no_locks 0 1 5 40)

-- at the last tick of the taker's lease nobody takes it
pub a_log_is_held_to_the_end_of_the_lease : open_now (at_tick 40 taken_log) ≡ Tick ∷ []
unfolding no_clerks no_logs any_server zeros
a_log_is_held_to_the_end_of_the_lease = refl

-- behind it the host does
pub then_it_is_taken_again : open_now (at_tick 41 taken_log) ≡ Recover 0 255 ∷ []
unfolding no_clerks no_logs any_server zeros
then_it_is_taken_again = refl

-- ---- the gate, and servers that are held

abbrev pub gated : State
gated = let s = opening (line 1 0 op.Mount ∷ []) in with_core s (record s.core { passed = λ number. false })

-- the clock waits for a line at the gate
pub nothing_happens_at_the_gate : open_now gated ≡ []
unfolding no_clerks no_logs any_server zeros
nothing_happens_at_the_gate = refl

-- a server that is held keeps its lines, and the clock goes on
pub a_held_server_begins_nothing : open_now (held_on (opening (line 1 0 op.Mount ∷ [])) 0 true) ≡ Tick ∷ []
unfolding no_clerks no_logs any_server zeros
a_held_server_begins_nothing = refl

-- it isn't closed
pub a_held_server_is_not_closed : open_now (held_on (having idle 0 up) 0 true) ≡ Tick ∷ []
unfolding no_clerks no_logs any_server zeros
a_held_server_is_not_closed = refl

-- and no tree is read
pub no_tree_is_read_beside_it : open_now (held_on idle 0 true) ≡ Tick ∷ []
unfolding no_clerks no_logs any_server zeros
no_tree_is_read_beside_it = refl
