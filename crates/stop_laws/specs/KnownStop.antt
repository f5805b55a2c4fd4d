-- What a stop of all servers leaves, by the entries of the file tree.
use Rattle.std.specs.Prelude.{◌≡◌, ℕ, true, List, []}
use Rattle.tree_definitions.specs.Tree.{FileTree}
use Rattle.sector_world.specs.Histories.{settled}
use Rattle.sector_world.specs.Claims.{left, replayed}
use Rattle.sector_world.specs.Kinds.{Good}
use Rattle.sector_world.specs.Planned.{IsLegal}
use Rattle.sector_world.specs.Trees.{Distinct}
use Rattle.sector_world.specs.World.{World}
use Rattle.disk_definitions.specs.Standing.{StandsFor}
use Rattle.line_histories.specs.LinePlans.{sector_plan}
use Rattle.line_histories.specs.Following.{Follows}
use Rattle.line_histories.specs.Standing.{StandsNumbered}
use Rattle.line_histories.specs.Trees.{AreTimes, MayNumber}
use Rattle.byte_trees.specs.Deeds.{Deed, items, tree_after}
use Rattle.stop_laws.specs.Along.{AllTold}
use Rattle.stop_laws.specs.Known.{KnowsCells}
use Rattle.stop_laws.specs.Cells.{AllShown}

-- at each moment of servers whose operations are lines: where what recoveries of all logs would leave is told twice, and cells are known of the first disk, the
-- disk with all logs replayed stands for the tree after the entries. Sector 0 counts as one with a version
abbrev pub AStopLeavesTheToldTree : Type 0
AStopLeavesTheToldTree =
    (segments : ℕ) (when : ℕ → ℕ) (first_tree : FileTree) (numbers : List ℕ) (w : World) (server number : ℕ) (deeds : List Deed) → AreTimes when →
    StandsNumbered segments w.opening (record { tree = first_tree; numbers = numbers }) → IsLegal (sector_plan segments when) w →
    Distinct (MayNumber numbers) first_tree (settled w.history) → Good w → Follows segments w.opening w.home w.logged w.first [] → w.logged 0 ≡ true →
    items deeds ≡ left w w.servers → AllTold segments when w.opening w.home first_tree server number deeds → AllShown segments when w.opening first_tree deeds →
    KnowsCells segments w.opening w.logged w.first first_tree [] → StandsFor (replayed w w.servers) (tree_after first_tree deeds)
