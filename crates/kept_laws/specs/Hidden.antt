-- Of a history that is told twice, deed by deed: no later deed shows anything of what a recovery removes, nor makes any of it sure.
use Rattle.std.specs.Prelude.{◌≡◌, ℕ, Bool, true, false, Option, List, [], ◌∷◌}
use Rattle.frang_base.specs.declared.lock.LockId.{LockId}
use Rattle.tree_definitions.specs.History.{Settled, Stays}
use Rattle.tree_definitions.specs.Removal.{keeps_known}
use Rattle.tree_definitions.specs.Tree.{FileTree}
use Rattle.tree_laws.specs.Syncing.{stalled_along}
use Rattle.known_laws.specs.Knowing.{is_hidden, makes_sure}
use Rattle.sector_bytes.specs.Blocks.{Block}
use Rattle.sector_world.specs.Histories.{Each, OpsRise}
use Rattle.sector_world.specs.Plans.{IsByPlan, Legal}
use Rattle.sector_world.specs.Seen.{IsLost, Unmet}
use Rattle.sector_world.specs.Trees.{Distinct}
use Rattle.line_histories.specs.LinePlans.{sector_plan}
use Rattle.line_histories.specs.Standing.{StandsNumbered}
use Rattle.line_histories.specs.Trees.{AreTimes, MayNumber}
use Rattle.byte_trees.specs.Deeds.{Deed, Does, Says, Doubts, items, step_of, steps, tree_after}
use Rattle.stop_laws.specs.Happened.{has_lost}
use Rattle.stop_laws.specs.Paired.{AreLines, IsKeptBy}
use Rattle.stop_laws.specs.Sight.{Begins}
use Rattle.stop_laws.specs.Sure.{AllSure}

-- a step, before which the tree is `last`, shows nothing of the operations of the server above the number
abbrev pub HidesLost : (server durable : ℕ) → FileTree → (last : FileTree) → Settled → List Deed → Type 0
HidesLost server durable first_tree last s [] = Unit {0}
HidesLost server durable first_tree last s (Does c e ∷ older) =
    (IsLost server durable c → is_hidden server last s (tree_after first_tree older) (Stays e) ≡ true) × HidesLost server durable first_tree last s older
HidesLost server durable first_tree last s (Says e ∷ older) = HidesLost server durable first_tree last s older
HidesLost server durable first_tree last s (Doubts marked runs ∷ older) = HidesLost server durable first_tree last s older

-- so it is of each deed; and where it makes sure what the server did before it, none of that is above the number
abbrev pub AllHide : (server durable : ℕ) → FileTree → List Deed → Type 0
AllHide server durable first_tree [] = Unit {0}
AllHide server durable first_tree (deed ∷ older) =
    HidesLost server durable first_tree (tree_after first_tree older) (step_of deed) older
    × (makes_sure server (stalled_along server false (steps older)) (step_of deed) ≡ true → has_lost server durable older ≡ false) × AllHide server durable first_tree older

-- Along each legal history of lines with new numbers it is so of what nobody met and no entry made sure. The locks show it: an entry that touches a node uses its
-- lock, which who changed the node had alone, and one that is refused for want of room uses that of each segment, of which who made or freed room had one alone
abbrev pub UnmetDeedsAreHidden : Type 0
UnmetDeedsAreHidden =
    (segments : ℕ) (when : ℕ → ℕ) (opening : ℕ → Block) (first_tree : FileTree) (numbers : List ℕ) (home : ℕ → LockId) (logged : ℕ → Bool) (first : ℕ → Option Block) →
    Begins segments when opening first_tree numbers home logged first → (server durable : ℕ) (deeds : List Deed) → Legal (sector_plan segments when) opening (items deeds) →
    Distinct (MayNumber numbers) first_tree (items deeds) → Each IsByPlan (items deeds) → AreLines when deeds → Unmet server durable (items deeds) →
    AllSure server durable deeds → AllHide server durable first_tree deeds

-- then a recovery removes nothing that is seen or synced
abbrev pub HiddenDeedsMayGo : Type 0
HiddenDeedsMayGo =
    (segments : ℕ) (when : ℕ → ℕ) (opening : ℕ → Block) (first_tree : FileTree) (numbers : List ℕ) → AreTimes when →
    StandsNumbered segments opening (record { tree = first_tree; numbers = numbers }) → (server greatest durable : ℕ) (deeds : List Deed) →
    Legal (sector_plan segments when) opening (items deeds) → Distinct (MayNumber numbers) first_tree (items deeds) → OpsRise (items deeds) → AreLines when deeds →
    IsKeptBy server greatest durable deeds → AllSure server durable deeds → AllHide server durable first_tree deeds →
    keeps_known server greatest false first_tree (steps deeds) ≡ true
