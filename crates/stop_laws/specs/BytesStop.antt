-- What a stop of all servers leaves: the disk with all logs replayed, and the tree of what recoveries of all logs would leave.
use Rattle.std.specs.Prelude.{◌≡◌, ℕ, true, List, []}
use Rattle.tree_definitions.specs.Touched.{shape_of}
use Rattle.tree_definitions.specs.Tree.{FileTree}
use Rattle.tree_definitions.specs.WellFormed.{IsWellFormed}
use Rattle.sector_world.specs.Histories.{settled}
use Rattle.sector_world.specs.Claims.{left, replayed}
use Rattle.sector_world.specs.Kinds.{Good}
use Rattle.sector_world.specs.Planned.{IsLegal}
use Rattle.sector_world.specs.Trees.{Distinct, tree_of}
use Rattle.sector_world.specs.World.{World}
use Rattle.disk_definitions.specs.Naming.{Naming}
use Rattle.disk_definitions.specs.Standing.{StandsFor}
use Rattle.disk_definitions.specs.Store.{store_of}
use Rattle.disk_definitions.specs.Meets.{IsOfTree}
use Rattle.line_histories.specs.LinePlans.{sector_plan}
use Rattle.line_histories.specs.Following.{Follows, store_after}
use Rattle.line_histories.specs.Standing.{StandsNumbered}
use Rattle.line_histories.specs.Trees.{AreTimes, MayNumber, performed}
use Rattle.byte_trees.specs.Standing.{HasItsBytes}

-- by whatever naming of what the sectors with versions say after what recoveries of all logs would leave, the replayed disk has the bytes of the tree's files
abbrev pub HasBytesWhenReplayed : ℕ → World → FileTree → Type 0
HasBytesWhenReplayed segments w tree =
    (naming : Naming) → IsOfTree (store_after segments w.opening (left w w.servers)) (shape_of tree) naming →
    HasItsBytes (store_of segments (replayed w w.servers)) tree naming

-- At each moment of servers whose operations are lines: a tree of the shape of what recoveries of all logs would leave, whose bytes the disk with all logs
-- replayed has, is one for which this disk stands. Sector 0 counts as one with a version
abbrev pub AStopLeavesTheTree : Type 0
AStopLeavesTheTree =
    (segments : ℕ) (when : ℕ → ℕ) (first_tree : FileTree) (numbers : List ℕ) (w : World) → AreTimes when →
    StandsNumbered segments w.opening (record { tree = first_tree; numbers = numbers }) → IsLegal (sector_plan segments when) w →
    Distinct (MayNumber numbers) first_tree (settled w.history) → Good w → Follows segments w.opening w.home w.logged w.first [] → w.logged 0 ≡ true →
    (tree : FileTree) → IsWellFormed tree → shape_of tree ≡ shape_of (tree_of (performed when) first_tree (left w w.servers)) → HasBytesWhenReplayed segments w tree →
    StandsFor (replayed w w.servers) tree
