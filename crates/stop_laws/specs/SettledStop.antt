-- What a stop of all servers leaves: the tree of the history with the recoveries of all logs.
use Rattle.std.specs.Prelude.{◌≡◌, ◌≢◌, ℕ, true, List, []}
use Rattle.tree_definitions.specs.Removal.{tree_from}
use Rattle.tree_definitions.specs.Tree.{FileTree}
use Rattle.sector_world.specs.Histories.{settled}
use Rattle.sector_world.specs.Claims.{replayed}
use Rattle.sector_world.specs.Kinds.{Good}
use Rattle.sector_world.specs.Planned.{IsLegal}
use Rattle.sector_world.specs.Trees.{Distinct}
use Rattle.sector_world.specs.World.{World}
use Rattle.sector_world.specs.World.Phase.{Off}
use Rattle.disk_definitions.specs.Standing.{StandsFor}
use Rattle.line_histories.specs.LinePlans.{sector_plan}
use Rattle.line_histories.specs.Following.{Follows}
use Rattle.line_histories.specs.Standing.{StandsNumbered}
use Rattle.line_histories.specs.Trees.{AreTimes, MayNumber}
use Rattle.stop_laws.specs.Known.{KnowsCells}
use Rattle.stop_laws.specs.Happened.{Happening, on_sectors, on_tree, settle}
use Rattle.stop_laws.specs.Paired.{ArePaired, IsKeptBy}
use Rattle.stop_laws.specs.Settling.{stopped}

-- At each moment of servers whose operations are lines: where cells are known after the deeds that recoveries of all logs would leave, the disk with all logs
-- replayed stands for the tree that the rules on histories give, a cell in doubt allowing any byte. Sector 0 counts as one with a version
abbrev pub StopsLeaveTheTree : Type 0
StopsLeaveTheTree =
    (segments : ℕ) (when : ℕ → ℕ) (first_tree : FileTree) (numbers : List ℕ) (w : World) (greatest : ℕ → ℕ) (h : List Happening) → AreTimes when →
    StandsNumbered segments w.opening (record { tree = first_tree; numbers = numbers }) → IsLegal (sector_plan segments when) w →
    Distinct (MayNumber numbers) first_tree (settled w.history) → Good w → Follows segments w.opening w.home w.logged w.first [] → w.logged 0 ≡ true →
    on_sectors h ≡ w.history → ArePaired segments when w.opening first_tree numbers h →
    ((server : ℕ) → w.phase server ≢ Off → IsKeptBy server (greatest server) (w.durable server) (settle first_tree h)) →
    KnowsCells segments w.opening w.logged w.first first_tree (settle first_tree (stopped w greatest w.servers h)) →
    StandsFor (replayed w w.servers) (tree_from first_tree (on_tree (stopped w greatest w.servers h)))
