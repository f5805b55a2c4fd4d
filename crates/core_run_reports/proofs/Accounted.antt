-- What recoveries keep, by what accounts for their logs.
use Rattle.std.proofs.Common.{ℕ, List}
use Rattle.tree_definitions.specs.Tree.{FileTree}
use Rattle.core_definitions.specs.Runs.{State as RunMoment}
use Rattle.sector_world.specs.World.{World}
use Rattle.core_world.specs.Journals.{Journal}
use Rattle.core_log_marks.specs.Keeping.{IsAccounted, RecoveriesKeepWhatTheyReport}
use Rattle.core_run_ties.specs.Ties.{StandsFurther}
use Rattle.core_runs.specs.Kept.{IsKeptAlong}
use Rattle.core_run_reports.specs.Laws.{ReportsAreKept}

pub accounted : (first : World) (s : RunMoment) (w : World) (journal : ℕ → Journal) (when : ℕ → ℕ) (first_tree : FileTree) (numbers : List ℕ) →
    IsKeptAlong (StandsFurther first) s w journal when first_tree numbers → IsAccounted s w journal when first_tree numbers
accounted first s w journal when first_tree numbers kept = record {
  world = kept.beside.run.world;
  good = kept.beside.run.good;
  lines = kept.beside.run.lines;
  logs = kept.logs.logs;
  accounts = kept.further.accounts;
  reports = kept.further.reports;
}

pub reports_kept : RecoveriesKeepWhatTheyReport → ReportsAreKept
reports_kept keep first s w journal when first_tree numbers by recovery kept makes has =
    keep s w journal when first_tree numbers kept.beside.run.reached (accounted first s w journal when first_tree numbers kept) kept.told by recovery makes has
