-- The writes in flight and the leases under which they were issued, over every run.
use Rattle.std.specs.Prelude.{◌≡◌, ◌≤◌, ◌⊎◌, ℕ, true, false, IsTrue, Some}
use Rattle.std.specs.List.{Contains}
use Rattle.lock_definitions.specs.Lease.{HasEnded, IsInTime}
use Rattle.sector_bytes.specs.Sectors.{Sectors}
use Rattle.core_definitions.specs.Cores.{Core}
use Rattle.core_definitions.specs.Flights.{Flight}
use Rattle.core_definitions.specs.Recoveries.{Recovery}
use Rattle.core_definitions.specs.Runs.{State, Run, first_state}
use Rattle.core_definitions.specs.Scripts.{host_party}
use Rattle.core_definitions.specs.Servers.{is_dead}
use Rattle.core_definitions.specs.Settings.{Setting}
use Rattle.core_definitions.specs.WriteGuards.{is_worker}

-- over every run a write of an earlier mount is late, where its server isn't Dead
abbrev pub StaleAreLate : Type 0
StaleAreLate =
    (setting : Setting) (disk : Sectors) (s : State) → Run (first_state setting disk) s → (one : ℕ × Flight) → Contains s.core.flights one → one.1.present ≡ false →
    IsTrue (is_dead (s.core.servers one.1.server).phase) ⊎ HasEnded s.core.now one.1.stamp

-- what is in time of a server is of its present mount
abbrev pub InTimeAreFresh : Core → ℕ → Type 0
InTimeAreFresh c a = (one : ℕ × Flight) → Contains c.flights one → one.1.server ≡ a → IsInTime one.1.stamp c.now → one.1.present ≡ true

-- over every run that is so of each server that isn't Dead
abbrev pub WhoLivesHasFreshWrites : Type 0
WhoLivesHasFreshWrites =
    (setting : Setting) (disk : Sectors) (s : State) → Run (first_state setting disk) s → (a : ℕ) → is_dead (s.core.servers a).phase ≡ false → InTimeAreFresh s.core a

-- over every run a write of a server has no later stamp than its server's lease, also where it is of an earlier mount
abbrev pub StampsAreWithinLeases : Type 0
StampsAreWithinLeases =
    (setting : Setting) (disk : Sectors) (s : State) → Run (first_state setting disk) s → (one : ℕ × Flight) → Contains s.core.flights one → (one.1.server ≡ host_party → ⊥) →
    one.1.stamp ≤ (s.core.servers one.1.server).expiry

-- over every run the lease of who is recovered, by a server that is Up or by the host, is over
abbrev pub RecoveredAreOver : Type 0
RecoveredAreOver =
    (setting : Setting) (disk : Sectors) (s : State) → Run (first_state setting disk) s → (by : ℕ) (recovery : Recovery) → IsTrue (is_worker s.core by) →
    (s.core.servers by).recovery ≡ Some recovery → HasEnded s.core.now (s.core.servers recovery.dead).expiry
