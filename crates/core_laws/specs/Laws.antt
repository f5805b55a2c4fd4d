-- Laws of the core: what its list of enabled events has, and what holds over every run.
use Rattle.std.specs.Prelude.{◌≡◌, ◌≤◌, ◌↔◌, ℕ, IsTrue, List, [], ◌∷◌, map}
use Rattle.std.specs.List.{Contains}
use Rattle.std.specs.Map.{keys_of}
use Rattle.lock_definitions.specs.Locks.{AreCompatible}
use Rattle.sector_bytes.specs.Sectors.{Sectors}
use Rattle.core_definitions.specs.Settings.{Setting}
use Rattle.core_definitions.specs.Cores.{Core}
use Rattle.core_definitions.specs.Events.{Event}
use Rattle.core_definitions.specs.Guards.{Can}
use Rattle.core_definitions.specs.Enabled.{enabled}
use Rattle.core_definitions.specs.Runs.{State, Run, first_state}

-- an event is listed exactly where it may happen
abbrev pub EnabledIsExact : Type 0
EnabledIsExact = (c : Core) (event : Event) → Contains (enabled c) event ↔ Can c event

-- no step turns the clock back
abbrev pub ClockRises : Type 0
ClockRises = (s v : State) → Run s v → s.core.now ≤ v.core.now

-- once it is over nothing follows: no run from there makes a step
abbrev pub NothingFollowsTheEnd : Type 0
NothingFollowsTheEnd = (s v : State) → IsTrue s.core.over → Run s v → v ≡ s

-- over every run no lock is held sole by one server and in any mode by another
abbrev pub HoldersAreCompatible : Type 0
HoldersAreCompatible = (setting : Setting) (disk : Sectors) (s : State) → Run (first_state setting disk) s → AreCompatible s.core.locks

-- each once
abbrev pub AreOnce : List ℕ → Type 0
AreOnce [] = Unit {0}
AreOnce (x ∷ xs) = (Contains xs x → ⊥) × AreOnce xs

-- over every run no two writes in flight have the same ticket
abbrev pub TicketsStandOnce : Type 0
TicketsStandOnce = (setting : Setting) (disk : Sectors) (s : State) → Run (first_state setting disk) s → AreOnce (keys_of s.core.flights)

-- and no two are of the same sector
abbrev pub SectorsStandOnce : Type 0
SectorsStandOnce = (setting : Setting) (disk : Sectors) (s : State) → Run (first_state setting disk) s → AreOnce (map (λ one. one.1.sector) s.core.flights)
