-- Who has taken whose log, over every run.
use Rattle.std.specs.Prelude.{◌≡◌, ℕ, ◌==◌, ◌||◌, IsTrue, Some}
use Rattle.lock_definitions.specs.declared.claim.LogHold.{LogHold}
use Rattle.lock_definitions.specs.Locks.{log_hold}
use Rattle.sector_bytes.specs.Sectors.{Sectors}
use Rattle.core_definitions.specs.Cores.{expiry_of}
use Rattle.core_definitions.specs.Recoveries.{Recovery}
use Rattle.core_definitions.specs.Runs.{State, Run, first_state}
use Rattle.core_definitions.specs.Scripts.{host_party}
use Rattle.core_definitions.specs.Servers.{is_dead, is_in_mount}
use Rattle.core_definitions.specs.Settings.{Setting}
use Rattle.core_definitions.specs.WriteGuards.{is_worker}

-- over every run a log that is taken is that of a server that is Dead
abbrev pub HoldsAreOnTheDead : Type 0
HoldsAreOnTheDead =
    (setting : Setting) (disk : Sectors) (s : State) → Run (first_state setting disk) s → (dead : ℕ) (hold : LogHold) → log_hold s.core.locks dead ≡ Some hold →
    IsTrue (is_dead (s.core.servers dead).phase)

-- its taker, where it is in a mount or the host, recovers it
abbrev pub HoldsAreOfRecoveries : Type 0
HoldsAreOfRecoveries =
    (setting : Setting) (disk : Sectors) (s : State) → Run (first_state setting disk) s → (a dead : ℕ) (hold : LogHold) → log_hold s.core.locks dead ≡ Some hold → hold.by.0 ≡ a →
    IsTrue (is_in_mount (s.core.servers a).phase || a == host_party) → (recovery : Recovery) × ((s.core.servers a).recovery ≡ Some recovery) × (recovery.dead ≡ dead)

-- it is taken until its taker's lease ends
abbrev pub HoldsLastAsLeases : Type 0
HoldsLastAsLeases =
    (setting : Setting) (disk : Sectors) (s : State) → Run (first_state setting disk) s → (dead : ℕ) (hold : LogHold) → log_hold s.core.locks dead ≡ Some hold →
    hold.expiry ≡ expiry_of s.core hold.by.0

-- and who recovers a log, a server that is Up or the host, has taken it
abbrev pub WhoRecoversHolds : Type 0
WhoRecoversHolds =
    (setting : Setting) (disk : Sectors) (s : State) → Run (first_state setting disk) s → (by : ℕ) (recovery : Recovery) → IsTrue (is_worker s.core by) →
    (s.core.servers by).recovery ≡ Some recovery → (hold : LogHold) × (log_hold s.core.locks recovery.dead ≡ Some hold) × (hold.by.0 ≡ by)
