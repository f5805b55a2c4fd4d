-- What stands in order and once in the core: the list of its enabled events, and what its servers and the host keep by lock, sector, slot and ticket.
use Rattle.std.specs.Prelude.{◌≡◌, ℕ, ◌⊎◌, not, IsTrue, Option, Some, None, List, [], ◌∷◌, ◌++◌, nat_lt}
use Rattle.std.specs.List.{Contains}
use Rattle.std.specs.List.Sorted.{IsStrictlySortedBy}
use Rattle.std.specs.Map.{keys_of}
use Rattle.std.specs.Ordering.{nat_cmp}
use Rattle.frang_base.specs.declared.limits.TheConstants.{LAST_TICK}
use Rattle.lock_definitions.specs.Order.{lock_cmp}
use Rattle.sector_bytes.specs.SectorMaps.{Ascend}
use Rattle.sector_bytes.specs.Sectors.{Sectors}
use Rattle.sorted_entries.specs.Places.{IsKeyOrder}
use Rattle.core_definitions.specs.Lines.{Under}
use Rattle.core_definitions.specs.Recoveries.{Recovery}
use Rattle.core_definitions.specs.Servers.{Server}
use Rattle.core_definitions.specs.Settings.{Setting}
use Rattle.core_definitions.specs.Cores.{Core}
use Rattle.core_definitions.specs.Events.{Event, Tick}
use Rattle.core_definitions.specs.Guards.{Can, has_line_at_gate, is_stale}
use Rattle.core_definitions.specs.Enabled.{enabled}
use Rattle.core_definitions.specs.Runs.{State, Run, first_state}
use Rattle.core_laws.specs.Laws.{AreOnce}
use Rattle.core_laws.specs.EventOrder.{event_cmp}

-- ---- events

-- events are in a total order in which only the same event is equal
abbrev pub EventsAreInOrder : Type 0
EventsAreInOrder = IsKeyOrder event_cmp

-- over every run the enabled events ascend
abbrev pub EnabledAscends : Type 0
EnabledAscends = (setting : Setting) (disk : Sectors) (s : State) → Run (first_state setting disk) s → IsStrictlySortedBy event_cmp (enabled s.core)

-- each once
abbrev pub AreEventsOnce : List Event → Type 0
AreEventsOnce [] = Unit {0}
AreEventsOnce (event ∷ events) = (Contains events event → ⊥) × AreEventsOnce events

-- over every run each enabled event is listed once
abbrev pub EnabledStandsOnce : Type 0
EnabledStandsOnce = (setting : Setting) (disk : Sectors) (s : State) → Run (first_state setting disk) s → AreEventsOnce (enabled s.core)

-- where a Tick may happen, every other event that may is an arrival or a loss of a write whose server is Still or Dead
abbrev pub TickWaits : Type 0
TickWaits = (c : Core) (event : Event) → Can c Tick → Can c event → (event ≡ Tick) ⊎ IsTrue (is_stale c event)

-- and where every event that may happen is one of these, nothing but the end, the gate or the clock keeps a Tick back
abbrev pub TickComes : Type 0
TickComes =
    (c : Core) → ((event : Event) → Can c event → (event ≡ Tick) ⊎ IsTrue (is_stale c event)) → IsTrue (not c.over) →
    IsTrue (not (has_line_at_gate c)) → IsTrue (nat_lt c.now LAST_TICK) → Can c Tick

-- the Tick is the last in the list
abbrev pub TickIsLast : Type 0
TickIsLast = (c : Core) → Can c Tick → (others : List Event) × (enabled c ≡ others ++ Tick ∷ [])

-- ---- what is kept by lock, sector, slot and ticket

abbrev pub Ascending : List ℕ → Type 0
Ascending numbers = IsStrictlySortedBy nat_cmp numbers

-- of a line under way: the locks of its set ascend, the slots read ascend, and each sector was seen once
pub record IsLineInOrder (under : Under) : Type 0 where
  pub set : IsStrictlySortedBy lock_cmp (keys_of under.set)
  pub slots : Ascend under.slots
  pub seen : AreOnce (keys_of under.seen)

abbrev pub AreLinesInOrder : Option Under → Type 0
AreLinesInOrder None = Unit {0}
AreLinesInOrder (Some under) = IsLineInOrder under

-- of a recovery: the slots that were read ascend, and the sectors that were looked at
pub record IsRecoveryInOrder (recovery : Recovery) : Type 0 where
  pub slots : Ascend recovery.slots
  pub looked : Ascend recovery.looked

abbrev pub AreRecoveriesInOrder : Option Recovery → Type 0
AreRecoveriesInOrder None = Unit {0}
AreRecoveriesInOrder (Some recovery) = IsRecoveryInOrder recovery

-- of a server: its cached sectors ascend, those that stay wanted and those that are pending
pub record IsServerInOrder (server : Server) : Type 0 where
  pub cache : Ascend server.cache
  pub staying : Ascending server.staying
  pub pending : Ascending server.pending
  pub under : AreLinesInOrder server.under
  pub recovery : AreRecoveriesInOrder server.recovery

-- of the core: the tickets of the writes in flight ascend, and the sectors that the host has read of the tree
pub record IsInOrder (c : Core) : Type 0 where
  pub servers : (a : ℕ) → IsServerInOrder (c.servers a)
  pub flights : Ascend c.flights
  pub read : Ascend c.read

-- over every run
abbrev pub CoresAreInOrder : Type 0
CoresAreInOrder = (setting : Setting) (disk : Sectors) (s : State) → Run (first_state setting disk) s → IsInOrder s.core
