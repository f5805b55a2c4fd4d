-- What a run begins with: at the first moment of each start all that stands beside does; so it does along each run from there.
use Rattle.std.specs.Prelude.{◌≡◌, ◌<◌, ◌+◌, ℕ, Ok, List, length}
use Rattle.frang_base.specs.declared.limits.TheConstants.{RUN_VERSIONS_MAX}
use Rattle.script_definitions.specs.ScriptText.{script_of}
use Rattle.line_histories.specs.Trees.{AreTimes}
use Rattle.opening_laws.specs.Bytes.{AreBytes}
use Rattle.core_definitions.specs.Opening.{IsStart, Start, moment_of}
use Rattle.core_definitions.specs.Runs.{State as RunMoment, Run}
use Rattle.core_definitions.specs.Settings.{setting_of}
use Rattle.sector_world.specs.World.{World}
use Rattle.core_world.specs.Journals.{Journal}
use Rattle.core_histories.specs.Tellings.{IsTold}
use Rattle.core_line_steps.specs.Numbers.{IsAskedWell}
use Rattle.core_runs.specs.Kept.{Further, LogsStand, StandsBeside}
use Rattle.core_runs.specs.Steps.{IsKeptAt, StepsAreKept}

-- a start of a script that was read and may be asked, over sectors of bytes; with so few numbers that the versions of a run are enough
pub record MayBegin (start : Start) (when : ℕ → ℕ) (numbers : List ℕ) : Type 0 where
  pub bytes : List ℕ
  pub read : script_of bytes ≡ Ok start.script
  pub is : IsStart start
  pub sectors : (sector : ℕ) → AreBytes (start.disk sector)
  pub times : AreTimes when
  pub few : 1 + length numbers < RUN_VERSIONS_MAX
  pub asked : IsAskedWell (setting_of start.script start.opening.tree.segments start.opening.run) when start.opening.tree numbers

-- what else is to stand beside does at first
abbrev pub FurtherBegins : Further → Type 0
FurtherBegins Beside =
    (start : Start) (when : ℕ → ℕ) (numbers : List ℕ) (w : World) (journal : ℕ → Journal) → MayBegin start when numbers → StandsBeside (moment_of start) w journal when start.opening.tree numbers →
    LogsStand (moment_of start) w journal → IsTold when start.opening.tree numbers (moment_of start) w → Beside (moment_of start) w journal

-- then all of it does, over a fresh disk and over that of an image
abbrev pub FirstMomentsAreKept : Further → Type 0
FirstMomentsAreKept Beside =
    (start : Start) (when : ℕ → ℕ) (numbers : List ℕ) → FurtherBegins Beside → MayBegin start when numbers → IsKeptAt Beside when start.opening.tree numbers (moment_of start)

-- so where each step keeps it, it is so at each moment of each run
abbrev pub RunsFromStartsAreKept : Further → Type 0
RunsFromStartsAreKept Beside =
    (start : Start) (when : ℕ → ℕ) (numbers : List ℕ) (s : RunMoment) → StepsAreKept Beside → FurtherBegins Beside → MayBegin start when numbers → Run (moment_of start) s →
    IsKeptAt Beside when start.opening.tree numbers s
