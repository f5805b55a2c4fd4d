-- What is dirty of free sectors: the zeros of blocks that are cleared, until their writes are acknowledged. So what a line claims is clean once nothing is pending.
use Rattle.std.specs.Prelude.{◌≡◌, ℕ, true, IsTrue, List, Some}
use Rattle.frang_base.specs.Functions.{member}
use Rattle.sector_bytes.specs.Blocks.{Block}
use Rattle.tree_definitions.specs.Tree.{FileTree}
use Rattle.core_definitions.specs.Cores.{stage}
use Rattle.core_definitions.specs.Events as core
use Rattle.core_definitions.specs.Events.{Nothing}
use Rattle.core_definitions.specs.Lines.{Finishing}
use Rattle.core_definitions.specs.Logs.{is_none}
use Rattle.core_definitions.specs.Plans as plans
use Rattle.core_definitions.specs.Runs.{State as RunMoment, next}
use Rattle.core_definitions.specs.Servers.{Server}
use Rattle.sector_world.specs.Histories.{settled}
use Rattle.sector_world.specs.HistoryBytes.{is_free}
use Rattle.sector_world.specs.Steps.{after}
use Rattle.sector_world.specs.Steps.Event.{Do}
use Rattle.sector_world.specs.World.{World, DirtyPage}
use Rattle.core_world.specs.Journals.{Journal}
use Rattle.core_lives.specs.Cleared.{ClearedAreFree}
use Rattle.core_commits.specs.Clears.{IsFreshBlock, cleared_world}
use Rattle.core_commits.specs.Commits.{AreClaimedClean, fetched_world}
use Rattle.core_commits.specs.Moments.{IsOfARun, IsOperation, LinesAreNumbered, claimed_in, operation_at}
use Rattle.core_commits.specs.Standing.{StandsWhole, tree_now}
use Rattle.core_definitions.specs.Trees.{block_sectors}

-- each dirty page of a free sector is one that Clear wanted written and that isn't acknowledged
abbrev pub FreeDirtIsPending : (ℕ → Server) → World → Type 0
FreeDirtIsPending servers w =
    (a s : ℕ) (block : Block) (m : ℕ) → w.page a s ≡ DirtyPage block m → is_free w.first (settled w.history) s ≡ true → member s (servers a).pending ≡ true

-- then what a line that may commit claims is cached clean
abbrev pub ClaimedAreClean : Type 0
ClaimedAreClean =
    (s : RunMoment) (w : World) (journal : ℕ → Journal) (when : ℕ → ℕ) (first_tree : FileTree) (numbers : List ℕ) (a : ℕ) (outcome : plans.Outcome) → IsOfARun s w journal when first_tree numbers →
    FreeDirtIsPending s.core.servers w → IsTrue (is_none (s.core.servers a).pending) → LinesAreNumbered s w when first_tree numbers a → (op : IsOperation s w when (tree_now when first_tree w) a outcome) →
    AreClaimedClean (s.core.servers a).cache (operation_at s w when (tree_now when first_tree w) a outcome op)

-- both that and that cleared blocks are free
pub record AreClearedSo (servers : ℕ → Server) (w : World) : Type 0 where
  pub pending : FreeDirtIsPending servers w
  pub free : ClearedAreFree servers w

-- a Commit keeps them
abbrev pub CommitsKeepCleared : Type 0
CommitsKeepCleared =
    (s : RunMoment) (w : World) (journal : ℕ → Journal) (when : ℕ → ℕ) (first_tree : FileTree) (numbers : List ℕ) (a : ℕ) (outcome : plans.Outcome) → IsOfARun s w journal when first_tree numbers →
    stage s.core a ≡ Some (Finishing outcome) → IsTrue (is_none (s.core.servers a).pending) → LinesAreNumbered s w when first_tree numbers a →
    (op : IsOperation s w when (tree_now when first_tree w) a outcome) → AreClearedSo s.core.servers w →
    AreClearedSo (next s (core.Commit a) Nothing).core.servers
    (after (fetched_world w a (claimed_in (s.core.servers a).cache op.out.o.claims)) (Do (operation_at s w when (tree_now when first_tree w) a outcome op)))

-- a Clear of a fresh block keeps them
abbrev pub ClearsKeepCleared : Type 0
ClearsKeepCleared =
    (s : RunMoment) (w : World) (tree : FileTree) (a block : ℕ) → StandsWhole s.core.setting.segments w tree → IsFreshBlock s.core.setting.segments w a block → AreClearedSo s.core.servers w →
    AreClearedSo (next s (core.Clear a block) Nothing).core.servers (cleared_world w a (block_sectors block))
