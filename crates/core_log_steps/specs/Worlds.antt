-- What stands of the logs beside the worlds of a run: over any run by whose steps events lead on, with the journals that are named.
use Rattle.std.specs.Prelude.{◌≡◌, ℕ, IsTrue, List, Ok}
use Rattle.frang_base.specs.declared.script.Line.{Line}
use Rattle.script_definitions.specs.ScriptText.{script_of}
use Rattle.sector_bytes.specs.Sectors.{Sectors}
use Rattle.core_definitions.specs.Runs.{State as RunMoment, Step, first_state}
use Rattle.core_definitions.specs.Settings.{setting_of}
use Rattle.sector_world.specs.Kinds.{Good}
use Rattle.sector_world.specs.World.{World}
use Rattle.core_lives.specs.Cleared.{is_shown}
use Rattle.core_lives.specs.Steps.{GoesOn, journals_behind}
use Rattle.core_world.specs.Journals.{AreZero, Journal}
use Rattle.core_world.specs.Steps.{IsReached, IsWorldOf, Leads}
use Rattle.core_readings.specs.Logs.{AreSealedBehind}
use Rattle.core_log_steps.specs.Journals.{HaveSameLogs, journals_next}
use Rattle.core_log_steps.specs.Steps.{AreFit, AreStanding}

-- a good world of a moment of a run, with its journals: each log stands as its journal has it, and seals come behind the replay
pub record AreBeside (s : RunMoment) (w : World) (journal : ℕ → Journal) : Type 0 where
  pub reached : IsReached s
  pub world : IsWorldOf s w journal
  pub good : Good w
  pub logs : AreStanding s journal
  pub behind : AreSealedBehind s w journal

-- each step leads on, by whatever events, with the journals that are named
pub data AlongWorlds : RunMoment → World → (ℕ → Journal) → RunMoment → World → (ℕ → Journal) → Type 0 where
  Stays : {s : RunMoment} {w : World} {journal : ℕ → Journal} → AlongWorlds s w journal s w journal
  Goes : {s v x : RunMoment} {w u : World} {journal further last : ℕ → Journal} (step : Step s v) → AreFit s → HaveSameLogs further (journals_next s v step journal) → (leads : Leads w v further) →
      AlongWorlds v leads.world further x u last → AlongWorlds s w journal x u last

-- so it is beside each world of such a run
abbrev pub LogsStandBeside : Type 0
LogsStandBeside = (s v : RunMoment) (w u : World) (journal further : ℕ → Journal) → AreBeside s w journal → AlongWorlds s w journal v u further → AreBeside v u further

-- so it is behind each step on locks and lives, by the law of these steps
abbrev pub LivesStandBeside : Type 0
LivesStandBeside =
    (s v : RunMoment) (w : World) (journal : ℕ → Journal) (step : Step s v) → IsTrue (is_shown s v step) → AreFit s → AreBeside s w journal → (on : GoesOn w v (journals_behind s v step journal)) →
    AreBeside v on.leads.world (journals_behind s v step journal)

-- and so it is at the first moment over zero logs, beside each good world of it
abbrev pub FirstMomentsAreBeside : Type 0
FirstMomentsAreBeside =
    (bytes : List ℕ) (script : List Line) (segments number : ℕ) (disk : Sectors) (w : World) (journal : ℕ → Journal) → script_of bytes ≡ Ok script → AreZero disk →
    IsWorldOf (first_state (setting_of script segments number) disk) w journal → Good w → AreBeside (first_state (setting_of script segments number) disk) w journal
