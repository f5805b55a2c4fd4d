-- What a finished line of the core is: an outcome over the logical sectors, as histories of lines have it.
use Rattle.std.specs.Prelude.{◌≡◌, ◌<◌, ◌^◌, ℕ, Some}
use Rattle.std.specs.List.Sorted.{IsStrictlySortedBy}
use Rattle.std.specs.Map.{keys_of}
use Rattle.frang_base.specs.declared.op.Op.{Op}
use Rattle.lock_definitions.specs.Locks.{Locks}
use Rattle.lock_definitions.specs.Order.{lock_cmp}
use Rattle.sector_bytes.specs.SectorMaps.{Ascend}
use Rattle.tree_definitions.specs.Live.{number_of as operation_number, script_time, time_in}
use Rattle.tree_definitions.specs.Tree.{FileTree}
use Rattle.disk_definitions.specs.Allowed.{IsAllowed}
use Rattle.disk_definitions.specs.Naming.{Naming}
use Rattle.disk_definitions.specs.Plans.{Finish}
use Rattle.line_laws.specs.Laws.{HasPath}
use Rattle.core_definitions.specs.Plans as plans
use Rattle.core_definitions.specs.Plans.{Sight}
use Rattle.core_definitions.specs.Servers.{Server}
use Rattle.core_definitions.specs.Settings.{Setting}
use Rattle.sector_world.specs.Kinds.{Good}
use Rattle.sector_world.specs.Logged.{now_of}
use Rattle.sector_world.specs.Plans.{Outcome, made_of}
use Rattle.sector_world.specs.World.{World}
use Rattle.line_histories.specs.Done.{IsOutcomeOf}
use Rattle.line_histories.specs.Guards.{KeepsGuards}
use Rattle.line_histories.specs.LinePlans.{fill_by, sector_plan}
use Rattle.line_histories.specs.Owned.{LooksWhereItLies, OwnsWhatItWrites}
use Rattle.line_histories.specs.Places.{shown_of}
use Rattle.core_world.specs.Ties.{AreCached}
use Rattle.core_world.specs.Sights.{AreStood}
use Rattle.core_commits.specs.Stages.{IsFinished, sight_in}
use Rattle.core_commits.specs.Standing.{AreSegmentsOf, AreWhole, StandsWhole}

-- the number of the operation that a line is, and its time
abbrev pub number_in : Setting → ℕ → ℕ
number_in setting line = operation_number setting.run line

abbrev pub time_of : Setting → ℕ → ℕ
time_of setting line = time_in setting.run (script_time setting.script line)

-- the plan over the logical sectors comes to an outcome that says what the finished line does, and that keeps the guards of plans
pub record IsOutcomeNow (segments : ℕ) (when : ℕ → ℕ) (w : World) (sight : Sight) (naming : Naming) (n : ℕ) (operation : Op) (finish : Finish) : Type 0 where
  pub o : Outcome
  pub comes : sector_plan segments when (keys_of sight.held) n operation (now_of w) ≡ Some o
  pub says : IsOutcomeOf segments sight.cached sight.held finish o
  pub made : (number : ℕ) → made_of (o.makes number) (shown_of sight.cached o number) ≡ fill_by finish.edits number
  pub keeps : KeepsGuards segments (now_of w) naming o
  pub owns : OwnsWhatItWrites segments naming o
  pub lies : LooksWhereItLies segments naming o

-- so it is of each finished line over paths
abbrev pub FinishedLinesAreOutcomes : Type 0
FinishedLinesAreOutcomes =
    (setting : Setting) (when : ℕ → ℕ) (locks : Locks) (servers : ℕ → Server) (a : ℕ) (w : World) (tree : FileTree) (outcome : plans.Outcome) →
    (on : StandsWhole setting.segments w tree) → Good w → AreCached servers w → AreStood servers w → AreWhole (servers a).cache → Ascend (servers a).cache →
    (f : IsFinished setting locks a (servers a) outcome) → AreSegmentsOf setting.segments f.line.under.set → IsStrictlySortedBy lock_cmp (keys_of f.line.under.set) →
    IsAllowed f.line.operation → HasPath f.line.operation → number_in setting f.line.under.line.number < 2 ^ 64 → when (number_in setting f.line.under.line.number) < 2 ^ 64 →
    when (number_in setting f.line.under.line.number) ≡ time_of setting f.line.under.line.number →
    IsOutcomeNow setting.segments when w (sight_in setting (servers a) f.line.under) on.now.stands.naming (number_in setting f.line.under.line.number) f.line.operation f.finish
