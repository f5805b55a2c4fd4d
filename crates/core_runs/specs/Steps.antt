-- The step law over runs, as it is to be cited: from a moment with all that stands beside it each step leads by events of the theorem on sectors to the next, with all of it.
use Rattle.std.specs.Prelude.{ℕ, List}
use Rattle.tree_definitions.specs.Tree.{FileTree}
use Rattle.sector_world.specs.World.{World}
use Rattle.core_definitions.specs.Runs.{State as RunMoment, Run, Step}
use Rattle.core_world.specs.Journals.{Journal}
use Rattle.core_world.specs.Steps.{Leads}
use Rattle.core_histories.specs.Steps.{HasStoryAt}
use Rattle.core_runs.specs.Journals.{journals_next}
use Rattle.core_runs.specs.Kept.{Further, IsKeptAlong}
use Rattle.core_runs.specs.Open.{DirtGoesOn, FurtherGoesOn, LinesLeadOn, LogsGoOn, RecoveriesKeepTheirReports}

-- events that may happen lead to a world of the next moment, with the journals that are named, and the history goes on as its step says
pub record LeadsAlong (s v : RunMoment) (w : World) (journal : ℕ → Journal) (when : ℕ → ℕ) (first_tree : FileTree) (numbers : List ℕ) (Beside : Further)
    (kept : IsKeptAlong Beside s w journal when first_tree numbers) (step : Step s v) : Type 0 where
  pub leads : Leads w v (journals_next s v w step journal)
  pub story : HasStoryAt when first_tree numbers s v w leads.world kept.told step
  pub all : IsKeptAlong Beside v leads.world (journals_next s v w step journal) when first_tree numbers

-- so does each step
abbrev pub StepsAreKept : Further → Type 0
StepsAreKept Beside =
    (s v : RunMoment) (w : World) (journal : ℕ → Journal) (when : ℕ → ℕ) (first_tree : FileTree) (numbers : List ℕ) (step : Step s v) →
    (kept : IsKeptAlong Beside s w journal when first_tree numbers) → LeadsAlong s v w journal when first_tree numbers Beside kept step

-- where that is so of what is open still, each by its own law: of the logs, of the events of lines, of what is dirty, and of what recoveries keep
abbrev pub StepsAreKeptByParts : Further → Type 0
StepsAreKeptByParts Beside = LogsGoOn Beside → LinesLeadOn Beside → DirtGoesOn Beside → FurtherGoesOn Beside → RecoveriesKeepTheirReports Beside → StepsAreKept Beside

-- ---- along runs

-- a moment with a world and journals, and all that stands beside
pub record IsKeptAt (Beside : Further) (when : ℕ → ℕ) (first_tree : FileTree) (numbers : List ℕ) (s : RunMoment) : Type 0 where
  pub world : World
  pub journal : ℕ → Journal
  pub kept : IsKeptAlong Beside s world journal when first_tree numbers

-- from one moment to each later one
abbrev pub RunsAreKept : Further → Type 0
RunsAreKept Beside =
    StepsAreKept Beside → (when : ℕ → ℕ) (first_tree : FileTree) (numbers : List ℕ) (s v : RunMoment) → Run s v → IsKeptAt Beside when first_tree numbers s →
    IsKeptAt Beside when first_tree numbers v
