-- The disk, and what is acknowledged, after a Commit.
use Rattle.std.specs.Prelude.{◌≡◌, ℕ, List, Some}
use Rattle.frang_base.specs.declared.change.Redo.{Redo}
use Rattle.tree_definitions.specs.Tree.{FileTree}
use Rattle.core_definitions.specs.Cores.{stage}
use Rattle.core_definitions.specs.Events as core
use Rattle.core_definitions.specs.Events.{Nothing}
use Rattle.core_definitions.specs.Lines.{Finishing}
use Rattle.core_definitions.specs.Plans as plans
use Rattle.core_definitions.specs.Runs.{State as RunMoment, next}
use Rattle.sector_world.specs.Steps.{after}
use Rattle.sector_world.specs.Steps.Event.{Do}
use Rattle.sector_world.specs.World.{World}
use Rattle.core_world.specs.Journals.{Journal}
use Rattle.core_world.specs.Ties.{AreLogged, IsOnDisk}
use Rattle.core_commits.specs.Commits.{AreClaimedClean, fetched_world}
use Rattle.core_commits.specs.Moments.{IsOfARun, IsOperation, claimed_in, operation_at}
use Rattle.core_commits.specs.Standing.{tree_now}

-- the side of each sector that counts then is the disk's: what is claimed is zeros on both sides
abbrev pub CommitsKeepTheDisk : Type 0
CommitsKeepTheDisk =
    (s : RunMoment) (w : World) (journal : ℕ → Journal) (when : ℕ → ℕ) (first_tree : FileTree) (numbers : List ℕ) (a : ℕ) (outcome : plans.Outcome) → IsOfARun s w journal when first_tree numbers →
    (op : IsOperation s w when (tree_now when first_tree w) a outcome) → AreClaimedClean (s.core.servers a).cache (operation_at s w when (tree_now when first_tree w) a outcome op) →
    IsOnDisk s.core.setting.segments (next s (core.Commit a) Nothing).disk
    (after (fetched_world w a (claimed_in (s.core.servers a).cache op.out.o.claims)) (Do (operation_at s w when (tree_now when first_tree w) a outcome op)))

-- with a record the server's log isn't acknowledged to its end
abbrev pub CommitsAreLogged : Type 0
CommitsAreLogged =
    (s : RunMoment) (w : World) (journal : ℕ → Journal) (when : ℕ → ℕ) (first_tree : FileTree) (numbers : List ℕ) (a : ℕ) (outcome : plans.Outcome) (redo : Redo) →
    IsOfARun s w journal when first_tree numbers → stage s.core a ≡ Some (Finishing outcome) → (op : IsOperation s w when (tree_now when first_tree w) a outcome) → outcome.redo ≡ Some redo →
    AreLogged (next s (core.Commit a) Nothing).core.servers
    (after (fetched_world w a (claimed_in (s.core.servers a).cache op.out.o.claims)) (Do (operation_at s w when (tree_now when first_tree w) a outcome op)))
