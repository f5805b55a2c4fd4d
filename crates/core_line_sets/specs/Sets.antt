-- The segments of the sets of lines are of the disk, step by step.
use Rattle.std.specs.Prelude.{◌≡◌, ℕ, List, Some}
use Rattle.tree_definitions.specs.Tree.{FileTree}
use Rattle.disk_definitions.specs.Plans.{Lock}
use Rattle.set_definitions.specs.Seen.{SeenSectors}
use Rattle.core_definitions.specs.Cores.{stage}
use Rattle.core_definitions.specs.Lines.{Growing}
use Rattle.core_definitions.specs.Runs.{State as RunMoment, Step}
use Rattle.sector_world.specs.World.{World}
use Rattle.core_world.specs.Journals.{Journal}
use Rattle.core_commits.specs.Moments.{IsOfARun, LinesAreNumbered, SetsAreOfTheDisk}

-- a step from a moment of a run keeps it, where each line whose set grows is numbered
abbrev pub SetsStayOfTheDisk : Type 0
SetsStayOfTheDisk =
    (s v : RunMoment) (w : World) (journal : ℕ → Journal) (when : ℕ → ℕ) (first_tree : FileTree) (numbers : List ℕ) → IsOfARun s w journal when first_tree numbers → Step s v →
    ((a : ℕ) (needs : List Lock) (seen : SeenSectors) → stage s.core a ≡ Some (Growing needs seen) → LinesAreNumbered s w when first_tree numbers a) → SetsAreOfTheDisk v.core
