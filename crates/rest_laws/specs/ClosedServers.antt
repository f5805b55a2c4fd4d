-- Servers that were closed, which are up by the lines said, keep all that they did in the recoveries of a stop: so the disk stands for the tree of the history that a stop leaves by the lines.
use Rattle.std.specs.Prelude.{◌≡◌, ◌<◌, ℕ, Bool, true, false, List, filter}
use Rattle.std.specs.List.{list_any}
use Rattle.frang_base.specs.declared.said.Said.{Said}
use Rattle.frang_base.specs.declared.script.Line.{Line}
use Rattle.tree_definitions.specs.Live.{live_history}
use Rattle.tree_definitions.specs.Numbers.{below}
use Rattle.tree_definitions.specs.Removal.{settled, tree_from}
use Rattle.tree_definitions.specs.Transcript.{is_mounted_or_dead, is_node, left_history}
use Rattle.tree_definitions.specs.Tree.{FileTree}
use Rattle.sector_world.specs.Claims.{replayed}
use Rattle.sector_world.specs.World.{World}
use Rattle.disk_definitions.specs.Standing.{StandsFor}
use Rattle.stop_laws.specs.ClosedStop.{ClosedKeepAll, is_closed}
use Rattle.stop_laws.specs.Happened.{Happening, on_tree, settle}
use Rattle.stop_laws.specs.LinesStop.{is_on}
use Rattle.stop_laws.specs.Paired.{IsKeptBy}
use Rattle.rest_laws.specs.Done.{AreLinesOf}

-- these servers of a world count as mounted: all that aren't off do, and each has a log by which its recovery goes
pub record AreMounted (first_tree : FileTree) (w : World) (greatest : ℕ → ℕ) (h : List Happening) (mounted : ℕ → Bool) : Type 0 where
  pub active : (server : ℕ) → server < w.servers → is_on (w.phase server) ≡ true → mounted server ≡ true
  pub logs : (server : ℕ) → mounted server ≡ true → IsKeptBy server (greatest server) (w.durable server) (settle first_tree h)

-- then the recoveries of all of them, in their order, remove nothing of what one that is off did
abbrev pub ClosedServersKeepAll : Type 0
ClosedServersKeepAll =
    (segments : ℕ) (when : ℕ → ℕ) (first_tree : FileTree) (numbers : List ℕ) (w : World) (greatest : ℕ → ℕ) (h : List Happening) (mounted : ℕ → Bool) →
    AreLinesOf segments when first_tree numbers w h → AreMounted first_tree w greatest h mounted →
    ClosedKeepAll first_tree (is_closed w) greatest (filter mounted (below w.servers)) (settled first_tree (on_tree h))

-- so before the first line of the tree the disk with all logs replayed stands for the tree of the history that a stop leaves by the lines said, where these tell as mounted or dead each
-- server that isn't off
abbrev pub StopsStandByTheLines : Type 0
StopsStandByTheLines =
    (segments : ℕ) (when : ℕ → ℕ) (first_tree : FileTree) (numbers : List ℕ) (w : World) (greatest : ℕ → ℕ) (h : List Happening) (script : List Line) (run : ℕ) (saids : List Said) →
    AreLinesOf segments when first_tree numbers w h → w.servers ≡ 16 → list_any is_node saids ≡ false → on_tree h ≡ live_history script run saids →
    AreMounted first_tree w greatest h (is_mounted_or_dead script saids) → StandsFor (replayed w w.servers) (tree_from first_tree (left_history script run saids greatest))
