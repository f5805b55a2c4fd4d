-- What is to be shown: every run keeps the headline; and the clause of a call whose record is that of a run.
use Rattle.std.specs.Prelude.{◌≡◌, ℕ, Ok, List, ◌++◌}
use Rattle.frang_outside.specs.declared.act.Act.{Act}
use Rattle.tree_definitions.specs.Transcript.{AreFaultsOf, Faults}
use Rattle.script_definitions.specs.ScriptText.{script_of}
use Rattle.core_definitions.specs.Effects.{Deed}
use Rattle.core_definitions.specs.Runs.{State as RunMoment, Run, acts_of, first_state}
use Rattle.core_definitions.specs.Settings.{Setting, setting_of}
use Rattle.core_transcripts.specs.Faults.{run_faults}
use Rattle.headline_definitions.specs.AllLogs.{disk_logs}
use Rattle.headline_definitions.specs.Beginning.{Beginning, IsOpening}
use Rattle.headline_definitions.specs.Headline.{AlwaysHeadline}
use Rattle.headline_definitions.specs.Runs.{witnessed_in}
use Rattle.headline_definitions.specs.Witnessed.{told}

-- a run begins so: its script was read, its disk is one of its opening, and its logs are those of a disk
pub record Begins (b : Beginning) : Type 0 where
  pub bytes : List ℕ
  pub script : script_of bytes ≡ Ok b.script
  pub opening : IsOpening b.opening b.disk
  pub logs : b.logs ≡ disk_logs

-- the setting of the run
abbrev pub setting_by : Beginning → Setting
setting_by b = setting_of b.script b.opening.tree.segments b.opening.run

-- the law over runs: what is witnessed along a run of the core keeps the headline at every prefix, by the run's own faults. Only stated so far
abbrev pub RunsKeepTheHeadline : Type 0
RunsKeepTheHeadline =
    (b : Beginning) (s : RunMoment) (run : Run (first_state (setting_by b) b.disk) s) → Begins b →
    AlwaysHeadline b (run_faults (first_state (setting_by b) b.disk) s run) (witnessed_in (first_state (setting_by b) b.disk) s run)

-- the clause of the call that runs a script: behind the acts of the opening its record has deeds that keep the headline at every prefix, by faults of which only
-- the counts that rose in the call tell
pub record AreOfRun (b : Beginning) (before : List Act) (rose : ℕ → Type 0) (acts : List Act) : Type 0 where
  pub deeds : List Deed
  pub are : acts ≡ before ++ acts_of deeds
  pub faults : Faults
  pub counted : AreFaultsOf rose faults
  pub headline : AlwaysHeadline b faults (told deeds)
