-- A recovery that is under way is of a server that is Dead, and there is one at most.
use Rattle.std.proofs.Common.{◌≡◌, ℕ, IsTrue, Some, ap}
use Rattle.sector_bytes.specs.Sectors.{Sectors}
use Rattle.core_definitions.specs.Recoveries.{Recovery}
use Rattle.core_definitions.specs.Servers.{is_dead}
use Rattle.core_definitions.specs.Settings.{Setting}
use Rattle.core_definitions.specs.LineGuards.{is_server}
use Rattle.core_definitions.specs.WriteGuards.{is_worker}
use Rattle.core_definitions.specs.Runs.{State, Run, first_state}
use Rattle.core_laws.proofs.Memory.{dead_of}
use Rattle.core_laws.proofs.Resting.{good_of_run}

module _ (setting : Setting) (disk : Sectors) (s : State) (run : Run (first_state setting disk) s) where
  pub of_the_dead : (by : ℕ) (recovery : Recovery) → IsTrue (is_worker s.core by) → (s.core.servers by).recovery ≡ Some recovery →
      IsTrue (is_server recovery.dead) × IsTrue (is_dead (s.core.servers recovery.dead).phase)
  of_the_dead by recovery who e =
      let saved : IsTrue (is_dead (s.core.servers recovery.dead).phase) × IsTrue (is_server recovery.dead) = (good_of_run setting disk s run).saved by recovery.dead who (ap dead_of e) in
      (saved.1, saved.0)

  pub one_at_most : (by other : ℕ) (recovery further : Recovery) → IsTrue (is_worker s.core by) → IsTrue (is_worker s.core other) → (s.core.servers by).recovery ≡ Some recovery →
      (s.core.servers other).recovery ≡ Some further → by ≡ other
  one_at_most by other recovery further who others e f =
      (good_of_run setting disk s run).one by other recovery.dead further.dead who others (ap dead_of e) (ap dead_of f)
