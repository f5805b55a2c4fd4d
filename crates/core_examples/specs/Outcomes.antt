-- What an event leaves, computed in states stated by hand: locks given and taken, writes that arrive, answers that wait.
use Rattle.std.specs.Prelude.{◌≡◌, Bool, true, false, Some, None, List, [], ◌∷◌, refl}
use Rattle.frang_base.specs.declared.lock.LockId.TheVariants.{Node}
use Rattle.frang_base.specs.declared.lock.Mode.TheVariants.{Shared, Sole}
use Rattle.frang_base.specs.declared.op.HostOp.TheVariants as host
use Rattle.frang_base.specs.declared.op.Op.{Op}
use Rattle.frang_base.specs.declared.op.Op.TheVariants as op
use Rattle.lock_definitions.specs.Locks.{Locks, held, log_hold, no_clerks, no_locks, no_logs}
use Rattle.lock_definitions.specs.Calls.{hold_of, taken, wanted}
use Rattle.lock_definitions.specs.Servers.{any_server}
use Rattle.ring_definitions.specs.Rings.{ring_at}
use Rattle.sector_bytes.specs.Blocks.{Block, zero_block}
use Rattle.sector_bytes.specs.Bytes.{zeros}
use Rattle.cache_definitions.specs.Caches.{dirty}
use Rattle.core_definitions.specs.Lines.{under_at_first}
use Rattle.core_definitions.specs.Flights.{Flights, OfLog}
use Rattle.core_definitions.specs.Recoveries.{recovery_of}
use Rattle.core_definitions.specs.Servers.{Server}
use Rattle.core_definitions.specs.Effects.{after}
use Rattle.core_definitions.specs.Events.{Event, Answer, Give, Issue, Arrive, Renew, Tick, Recover, HostLine, Close, Nothing, Written}
use Rattle.core_definitions.specs.Runs.{State, next}
use Rattle.core_examples.specs.Driving.{host_line, line, opening}
use Rattle.core_examples.specs.Choices.{at_tick, choices, dead, flying, having, idle, locked_so, open_now, still, up}
use Rattle.core_examples.specs.Moments.{clean_file, file_block, file_flight, file_sector, holding_file, writing}
use Rattle.core_examples.specs.Turns.{two_dead}

-- ---- locks

-- the first server has the file's lock sole, and the second wishes it shared
abbrev pub shared_locks : Locks
shared_locks = wanted (wanted no_locks 0 (Node 1) Sole) 1 (Node 1) Shared

abbrev pub sharing : Server → State
sharing server = locked_so (having (having idle 0 server) 1 up) shared_locks

-- the lock is downgraded: it is held on, shared
pub a_sole_lock_is_shared : held (after (sharing (holding_file clean_file up)).core (Give 0 (Node 1)) Nothing).locks 0 (Node 1) ≡ Some Shared
unfolding no_clerks no_logs any_server
a_sole_lock_is_shared = refl

-- and its sectors stay
pub a_shared_lock_keeps_its_sectors : ((after (sharing (holding_file clean_file up)).core (Give 0 (Node 1)) Nothing).servers 0).cache ≡ (holding_file clean_file up).cache
unfolding no_clerks no_logs any_server zeros
a_shared_lock_keeps_its_sectors = refl

-- a stalled server gives nothing
pub a_stalled_server_gives_nothing : open_now (sharing still) ≡ Tick ∷ []
unfolding no_clerks no_logs any_server zeros
a_stalled_server_gives_nothing = refl

-- ---- logs that are taken

-- the log is held until the lease of its taker ends
pub a_taken_log_is_held : log_hold (after two_dead.core (Recover 0 2) Nothing).locks 0 ≡ Some (hold_of 2 61)
unfolding no_clerks no_logs any_server
a_taken_log_is_held = refl

-- a server that is up has taken it
abbrev pub holding_log : State
holding_log = at_tick 20 (locked_so (having (having idle 0 dead) 1 up) (taken no_locks 0 1 0 30))

-- and renews its hold with its lease
pub a_hold_is_renewed : log_hold (after holding_log.core (Renew 1) Nothing).locks 0 ≡ Some (hold_of 1 50)
unfolding no_clerks no_logs any_server
a_hold_is_renewed = refl

-- the host's lasts with each tick
pub the_hosts_hold_lasts : log_hold (after (at_tick 31 (locked_so (having idle 0 dead) (taken no_locks 0 255 31 61))).core Tick Nothing).locks 0 ≡ Some (hold_of 255 62)
unfolding no_clerks no_logs any_server
the_hosts_hold_lasts = refl

-- a stalled server goes on with no recovery
pub a_stalled_server_recovers_nothing : open_now (having (having idle 0 dead) 1 (record still { recovery = Some (recovery_of 0) })) ≡ Tick ∷ []
unfolding no_clerks no_logs any_server zeros
a_stalled_server_recovers_nothing = refl

-- ---- writes that arrive

-- a write of this mount or an earlier one, with this block, while the sector is dirty
abbrev pub arriving : Bool → Block → State
arriving present block = flying (having idle 0 writing) ((0, record (file_flight present) { block = block }) ∷ [])

-- with the block that is cached: it is clean
pub a_written_sector_is_clean : open_now (next (arriving true file_block) (Arrive 0) Written) ≡ Close 0 ∷ []
unfolding no_clerks no_logs any_server zeros
a_written_sector_is_clean = refl

-- with another one: it is written again
pub a_changed_sector_stays_dirty : open_now (next (arriving true zero_block) (Arrive 0) Written) ≡ Issue 0 file_sector ∷ Close 0 ∷ []
unfolding no_clerks no_logs any_server zeros
a_changed_sector_stays_dirty = refl

-- changed anew with the block that it had, while the log's number of the change is in flight
abbrev pub changed_back : Server
changed_back = record (holding_file (dirty file_block (Node 1) 256 false) up) { staying = file_sector ∷ []; ring = record (ring_at 255) { above = false ∷ [] } }

-- its older write and that of the log
abbrev pub older_flights : Flights
older_flights = (0, file_flight true) ∷ (1, record (file_flight true) { sector = 2147483648; purpose = OfLog 256 }) ∷ []

-- the older write comes before its mark is reached: it stays dirty, and is written again once the log is acknowledged
pub a_sector_waits_for_its_mark : choices 2 (next (flying (having idle 0 changed_back) older_flights) (Arrive 0) Written) ≡ (Arrive 1 ∷ Close 0 ∷ []) ∷ (Issue 0 file_sector ∷ Close 0 ∷ []) ∷ []
unfolding no_clerks no_logs any_server zeros
a_sector_waits_for_its_mark = refl

-- a write of an earlier mount acknowledges nothing
pub an_earlier_write_acknowledges_nothing : open_now (next (arriving false file_block) (Arrive 0) Written) ≡ Issue 0 file_sector ∷ Close 0 ∷ []
unfolding no_clerks no_logs any_server zeros
an_earlier_write_acknowledges_nothing = refl

-- ---- answers that wait

-- a server with this line under way, and one dirty sector, of file bytes or not
abbrev pub waiting : Op → Bool → State
waiting operation is_bytes =
    having (opening (line 1 0 operation ∷ [])) 0
    (record up { cache = (12884901888, dirty zero_block (Node 1) 255 is_bytes) ∷ []; under = Some (under_at_first (line 1 0 operation) operation None) })

abbrev pub waiting_turns : List (List Event)
waiting_turns = (Issue 0 12884901888 ∷ []) ∷ (Arrive 0 ∷ []) ∷ (Answer 0 ∷ []) ∷ []

-- a sync waits for file bytes
pub a_sync_waits_for_bytes : choices 3 (waiting op.Sync true) ≡ waiting_turns
unfolding no_clerks no_logs any_server zeros
a_sync_waits_for_bytes = refl

-- and for no other sector
pub a_sync_waits_for_no_other : open_now (waiting op.Sync false) ≡ Answer 0 ∷ []
unfolding no_clerks no_logs any_server zeros
a_sync_waits_for_no_other = refl

-- an unmount waits for all
pub an_unmount_waits_for_all : choices 3 (waiting op.Unmount false) ≡ waiting_turns
unfolding no_clerks no_logs any_server zeros
an_unmount_waits_for_all = refl

-- each line of the host counts its own ticks
pub each_line_counts_its_own_ticks :
    choices 4 (opening (host_line 1 (host.Tick 1) ∷ host_line 2 (host.Tick 1) ∷ [])) ≡ (Tick ∷ []) ∷ (HostLine 1 ∷ []) ∷ (Tick ∷ []) ∷ (HostLine 2 ∷ []) ∷ []
unfolding no_clerks no_logs any_server zeros
each_line_counts_its_own_ticks = refl
