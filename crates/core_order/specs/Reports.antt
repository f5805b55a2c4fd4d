-- Over every run over the logs of a disk each recovery says the greatest operation that its log had on the disk where it last began.
use Rattle.std.specs.Prelude.{◌≡◌, ℕ, IsTrue, take}
use Rattle.core_definitions.specs.Runs.{State as RunMoment, Run, first_state}
use Rattle.headline_definitions.specs.AllLogs.{disk_logs}
use Rattle.headline_definitions.specs.Beginning.{Beginning}
use Rattle.headline_definitions.specs.Headline.{say_greatest}
use Rattle.headline_definitions.specs.Runs.{witnessed_in}
use Rattle.headline_definitions.specs.Laws.{setting_by}

-- of what is witnessed along a run
abbrev pub RecoveriesSayTheGreatest : Type 0
RecoveriesSayTheGreatest =
    (b : Beginning) (s : RunMoment) (run : Run (first_state (setting_by b) b.disk) s) → b.logs ≡ disk_logs →
    IsTrue (say_greatest b (witnessed_in (first_state (setting_by b) b.disk) s run))

-- and at every prefix of it
abbrev pub RecoveriesAlwaysSayTheGreatest : Type 0
RecoveriesAlwaysSayTheGreatest =
    (b : Beginning) (s : RunMoment) (run : Run (first_state (setting_by b) b.disk) s) → b.logs ≡ disk_logs → (k : ℕ) →
    IsTrue (say_greatest b (take k (witnessed_in (first_state (setting_by b) b.disk) s run)))
