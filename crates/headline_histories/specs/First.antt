-- What these laws ask of a moment is met at the first moment of each start, over a fresh disk and over that of an image.
use Rattle.std.specs.Prelude.{◌≡◌, ◌<◌, ◌+◌, ℕ, Ok, List, length}
use Rattle.frang_base.specs.declared.limits.TheConstants.{RUN_VERSIONS_MAX}
use Rattle.script_definitions.specs.ScriptText.{script_of}
use Rattle.sector_world.specs.Claims.{IsQuiet}
use Rattle.sector_world.specs.World.{World}
use Rattle.line_histories.specs.Trees.{AreTimes}
use Rattle.core_definitions.specs.Opening.{IsStart, Start, moment_of}
use Rattle.core_world.specs.Journals.{Journal}
use Rattle.core_world.specs.Steps.{IsWorldOf}
use Rattle.core_readings.specs.Logs.{AreLogs, AreSealedBehind}
use Rattle.opening_laws.specs.Bytes.{AreBytes}
use Rattle.headline_definitions.specs.AllLogs.{disk_logs}
use Rattle.headline_definitions.specs.Beginning.{Beginning}
use Rattle.headline_histories.specs.Closed.{OffLogsHaveTheirRecords}
use Rattle.headline_histories.specs.Left.{LogsKeepAll}
use Rattle.headline_histories.specs.Moments.{IsMomentOf}
use Rattle.headline_histories.specs.Replays.{NameRegions}

-- a start as the beginning of a headline
abbrev pub beginning_of : Start → Beginning
beginning_of start = record { script = start.script; opening = start.opening; disk = start.disk; logs = disk_logs }

-- a world with journals that is all that is asked
pub record MeetsWhatIsAsked (start : Start) (when : ℕ → ℕ) (numbers : List ℕ) : Type 0 where
  pub world : World
  pub journal : ℕ → Journal
  pub moment : IsMomentOf (beginning_of start) (moment_of start) world when numbers
  pub is : IsWorldOf (moment_of start) world journal
  pub logs : AreLogs (moment_of start) journal
  pub sealed : AreSealedBehind (moment_of start) world journal
  pub regions : NameRegions start.opening.tree.segments world
  pub keep : LogsKeepAll start.opening.tree (moment_of start) world moment.told.happened
  pub off : OffLogsHaveTheirRecords (moment_of start) world
  pub quiet : IsQuiet world

-- at the first moment of a script that was read, over sectors of bytes
abbrev pub FirstMomentsMeetWhatIsAsked : Type 0
FirstMomentsMeetWhatIsAsked =
    (start : Start) (bytes : List ℕ) (when : ℕ → ℕ) (numbers : List ℕ) → IsStart start → script_of bytes ≡ Ok start.script → ((sector : ℕ) → AreBytes (start.disk sector)) → AreTimes when →
    1 + length numbers < RUN_VERSIONS_MAX → MeetsWhatIsAsked start when numbers
