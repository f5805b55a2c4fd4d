-- First facts of the core: what its guards keep, and what holds over every run.
use Rattle.std.specs.Prelude.{◌≡◌, ℕ, ◌≤◌, ◌<◌, ◌+◌, ◌==◌, true, false, not, ◌||◌, if◌then◌else◌, IsTrue, Option, Some, None, List, [], ◌∷◌, nat_lt}
use Rattle.std.specs.List.{Contains, filter_map}
use Rattle.std.specs.List.Sorted.{IsStrictlySortedBy}
use Rattle.std.specs.Map.{keys_of}
use Rattle.frang_base.specs.declared.limits.TheConstants.{LAST_TICK}
use Rattle.frang_base.specs.declared.lock.LockId.{LockId}
use Rattle.frang_base.specs.declared.lock.Mode.{Mode}
use Rattle.frang_outside.specs.declared.act.Taken.TheVariants as taken
use Rattle.lock_definitions.specs.Lease.{HasEnded, IsInTime}
use Rattle.lock_definitions.specs.declared.claim.LogHold.{LogHold}
use Rattle.lock_definitions.specs.Locks.{claims_of, held, is_wished, log_hold}
use Rattle.lock_definitions.specs.Order.{lock_cmp}
use Rattle.ring_definitions.specs.Rings.{Ring, last, sent}
use Rattle.sector_bytes.specs.SectorMaps.{value_at}
use Rattle.sector_bytes.specs.Sectors.{Sectors}
use Rattle.core_definitions.specs.Settings.{LogRules, Setting, slot_of}
use Rattle.core_definitions.specs.Logs.{log_sector}
use Rattle.core_definitions.specs.Recoveries.{Recovery}
use Rattle.core_definitions.specs.Servers.{Server, is_dead, is_off}
use Rattle.core_definitions.specs.Cores.{Core, writes}
use Rattle.core_definitions.specs.Flights.{Flight, Flights, InPlace, OfLog, OfRecovery, Purpose, has_flights}
use Rattle.core_definitions.specs.Writes.{Write}
use Rattle.core_definitions.specs.Events.{Issue}
use Rattle.core_definitions.specs.LineGuards.{is_server}
use Rattle.core_definitions.specs.WriteGuards.{is_worker}
use Rattle.core_definitions.specs.Guards.{Can, has_line_at_gate}
use Rattle.core_definitions.specs.WriteEffects.{flight_of}
use Rattle.core_definitions.specs.Effects.{Deed, Made, Says}
use Rattle.core_definitions.specs.Enabled.{enabled}
use Rattle.core_definitions.specs.Runs.{State, Run, first_state}
use Rattle.core_laws.specs.Laws.{AreOnce}

-- nothing is in a server's memory that it would write, recover or die by
pub record HasNothing (server : Server) : Type 0 where
  pub cache : server.cache ≡ []
  pub staying : server.staying ≡ []
  pub staying_log : server.staying_log ≡ 0
  pub pending : server.pending ≡ []
  pub recovery : server.recovery ≡ None
  pub arming : server.arming ≡ None

-- over every run a server that is Off or Dead has nothing in memory
abbrev pub OffHasNothing : Type 0
OffHasNothing =
    (setting : Setting) (disk : Sectors) (s : State) → Run (first_state setting disk) s → (a : ℕ) → IsTrue (is_server a) →
    IsTrue (is_off (s.core.servers a).phase || is_dead (s.core.servers a).phase) → HasNothing (s.core.servers a)

-- and no write of its present mount is in flight
abbrev pub OffHasNoFlights : Type 0
OffHasNoFlights =
    (setting : Setting) (disk : Sectors) (s : State) → Run (first_state setting disk) s → (a : ℕ) → IsTrue (is_server a) →
    IsTrue (is_off (s.core.servers a).phase || is_dead (s.core.servers a).phase) → has_flights s.core.flights a ≡ false

-- over every run the locks that a server has or wishes ascend
abbrev pub ClaimsStandOnce : Type 0
ClaimsStandOnce =
    (setting : Setting) (disk : Sectors) (s : State) → Run (first_state setting disk) s → (server : ℕ) →
    IsStrictlySortedBy lock_cmp (keys_of (claims_of s.core.locks server))

-- what a write is in flight as when it is issued is in time
abbrev pub WritesAreIssuedInTime : Type 0
WritesAreIssuedInTime = (c : Core) (a sector : ℕ) (write : Write) → Can c (Issue a sector) → IsInTime (flight_of c a sector write).stamp c.now

-- a write of a log is issued only where its number is no further past the one up to which all are acknowledged than the log's limit of numbers in flight
abbrev pub LogWritesKeepTheWindow : Type 0
LogWritesKeepTheWindow =
    (c : Core) (a sector : ℕ) (write : Write) (number : ℕ) → Can c (Issue a sector) → value_at (writes c a) sector ≡ Some write → write.purpose ≡ OfLog number →
    number ≤ (c.servers a).ring.reached + c.setting.logs.in_flight

-- a put is recorded as written where it came no later than its stamp, and as late where it came after
abbrev pub IsTimely : Deed → Type 0
IsTimely (Made put taken.Written) = IsInTime put.stamp put.now
IsTimely (Made put taken.Late) = HasEnded put.now put.stamp
IsTimely (Says line) = Unit {0}

abbrev pub AreTimely : List Deed → Type 0
AreTimely [] = Unit {0}
AreTimely (deed ∷ deeds) = IsTimely deed × AreTimely deeds

-- over every run
abbrev pub PutsComeInTime : Type 0
PutsComeInTime = (setting : Setting) (disk : Sectors) (s : State) → Run (first_state setting disk) s → AreTimely s.record_

-- where nothing may happen, it is over, a line is kept by the gate, or the clock is at its last moment
abbrev pub NothingToDoIsTheEnd : Type 0
NothingToDoIsTheEnd = (c : Core) → enabled c ≡ [] → IsTrue (c.over || has_line_at_gate c || not (nat_lt c.now LAST_TICK))

-- over every run a server that is Off holds no lock
abbrev pub OffHoldsNoLock : Type 0
OffHoldsNoLock =
    (setting : Setting) (disk : Sectors) (s : State) → Run (first_state setting disk) s → (a : ℕ) → IsTrue (is_server a) →
    IsTrue (is_off (s.core.servers a).phase) → (lock : LockId) →
    held s.core.locks a lock ≡ None

-- it wishes none
abbrev pub OffWishesNoLock : Type 0
OffWishesNoLock =
    (setting : Setting) (disk : Sectors) (s : State) → Run (first_state setting disk) s → (a : ℕ) → IsTrue (is_server a) →
    IsTrue (is_off (s.core.servers a).phase) → (lock : LockId) (mode : Mode) →
    is_wished s.core.locks a lock mode ≡ false

-- and it has taken no log
abbrev pub OffHasTakenNoLog : Type 0
OffHasTakenNoLog =
    (setting : Setting) (disk : Sectors) (s : State) → Run (first_state setting disk) s → (a : ℕ) → IsTrue (is_server a) →
    IsTrue (is_off (s.core.servers a).phase) → (dead : ℕ) (hold : LogHold) →
    log_hold s.core.locks dead ≡ Some hold → hold.by.0 ≡ a → ⊥

-- over every run a recovery that is under way by a server that is Up, or by the host, is of a server that is Dead
abbrev pub RecoveriesAreOfTheDead : Type 0
RecoveriesAreOfTheDead =
    (setting : Setting) (disk : Sectors) (s : State) → Run (first_state setting disk) s → (by : ℕ) (recovery : Recovery) → IsTrue (is_worker s.core by) →
    (s.core.servers by).recovery ≡ Some recovery → IsTrue (is_server recovery.dead) × IsTrue (is_dead (s.core.servers recovery.dead).phase)

-- and there is one of these at most
abbrev pub OneRecoveryAtMost : Type 0
OneRecoveryAtMost =
    (setting : Setting) (disk : Sectors) (s : State) → Run (first_state setting disk) s → (by other : ℕ) (recovery further : Recovery) → IsTrue (is_worker s.core by) →
    IsTrue (is_worker s.core other) → (s.core.servers by).recovery ≡ Some recovery → (s.core.servers other).recovery ≡ Some further → by ≡ other

-- ---- logs

-- no more numbers are issued past the one up to which all are acknowledged than may be in flight, and no more aren't given up than there is room for: of a disk's log 64 and 192
pub record KeepsWindows (logs : LogRules) (ring : Ring) : Type 0 where
  pub window : sent ring ≤ ring.reached + logs.in_flight
  pub kept : last ring ≤ ring.given_up + logs.room
  pub given : ring.given_up ≤ sent ring

-- over every run each ring does
abbrev pub RingsKeepTheirWindows : Type 0
RingsKeepTheirWindows = (setting : Setting) (disk : Sectors) (s : State) → Run (first_state setting disk) s → (a : ℕ) → KeepsWindows setting.logs (s.core.servers a).ring

-- not acknowledged yet, and no further past the one up to which all are than numbers may be in flight
pub record IsInFlightWindow (logs : LogRules) (ring : Ring) (number : ℕ) : Type 0 where
  pub above : ring.reached < number
  pub within : number ≤ ring.reached + logs.in_flight

-- over every run so is each number in flight of the log of a server's present mount
abbrev pub LogFlightsStayInTheWindow : Type 0
LogFlightsStayInTheWindow =
    (setting : Setting) (disk : Sectors) (s : State) → Run (first_state setting disk) s → (one : ℕ × Flight) (number : ℕ) →
    Contains s.core.flights one → one.1.present ≡ true →
    one.1.purpose ≡ OfLog number → IsInFlightWindow setting.logs (s.core.servers one.1.server).ring number

-- and each write of a log is of the slot of its number
abbrev pub LogFlightsAreAtTheirSlots : Type 0
LogFlightsAreAtTheirSlots =
    (setting : Setting) (disk : Sectors) (s : State) → Run (first_state setting disk) s → (one : ℕ × Flight) (number : ℕ) →
    Contains s.core.flights one → one.1.purpose ≡ OfLog number →
    one.1.sector ≡ log_sector s.core.setting.logs one.1.server number

-- the slots of a server's log that its writes in flight are of, those of earlier mounts too
abbrev pub slot_in : LogRules → Purpose → Option ℕ
slot_in logs (OfLog number) = Some (slot_of logs number)
slot_in logs (InPlace cover) = None
slot_in logs OfRecovery = None

abbrev pub log_slot : LogRules → ℕ → Flight → Option ℕ
log_slot logs server flight = if flight.server == server then slot_in logs flight.purpose else None

abbrev pub log_slots : LogRules → ℕ → Flights → List ℕ
log_slots logs server flights = filter_map (λ one. log_slot logs server one.1) flights

-- over every run each of them is in flight once
abbrev pub LogSlotsStandOnce : Type 0
LogSlotsStandOnce =
    (setting : Setting) (disk : Sectors) (s : State) → Run (first_state setting disk) s → (a : ℕ) → AreOnce (log_slots s.core.setting.logs a s.core.flights)
