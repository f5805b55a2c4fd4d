-- Where nothing is dirty, and where all servers are off, the disk itself stands for the tree of the history.
use Rattle.std.specs.Prelude.{◌≡◌, ℕ, List}
use Rattle.tree_definitions.specs.Removal.{tree_from}
use Rattle.tree_definitions.specs.Tree.{FileTree}
use Rattle.sector_world.specs.Claims.{IsQuiet, replayed}
use Rattle.sector_world.specs.Kinds.{Good}
use Rattle.sector_world.specs.World.{World, block_at}
use Rattle.sector_world.specs.World.Phase.{Off}
use Rattle.disk_definitions.specs.Standing.{StandsFor}
use Rattle.stop_laws.specs.Happened.{Happening, on_tree}
use Rattle.rest_laws.specs.Done.{AreLinesOf, HasWhatWasDone}

-- where no server is dead and none has anything dirty the disk has what was done
abbrev pub QuietDisksHaveWhatWasDone : Type 0
QuietDisksHaveWhatWasDone = (w : World) → Good w → IsQuiet w → HasWhatWasDone w (block_at w)

-- so it stands for the tree of the history, with nothing removed
abbrev pub QuietDisksStand : Type 0
QuietDisksStand =
    (segments : ℕ) (when : ℕ → ℕ) (first_tree : FileTree) (numbers : List ℕ) (w : World) (h : List Happening) → AreLinesOf segments when first_tree numbers w h → IsQuiet w →
    StandsFor (block_at w) (tree_from first_tree (on_tree h))

-- all servers are off
abbrev pub AreOff : World → Type 0
AreOff w = (server : ℕ) → w.phase server ≡ Off

-- then nothing is dirty
abbrev pub RestIsQuiet : Type 0
RestIsQuiet = (w : World) → Good w → AreOff w → IsQuiet w

-- and a replay of all logs changes nothing
abbrev pub RestIsReplayed : Type 0
RestIsReplayed = (w : World) → Good w → AreOff w → (sector : ℕ) → replayed w w.servers sector ≡ block_at w sector

-- so the disk at rest stands for the tree of the history, with nothing removed
abbrev pub DisksAtRestStand : Type 0
DisksAtRestStand =
    (segments : ℕ) (when : ℕ → ℕ) (first_tree : FileTree) (numbers : List ℕ) (w : World) (h : List Happening) → AreLinesOf segments when first_tree numbers w h → AreOff w →
    StandsFor (block_at w) (tree_from first_tree (on_tree h))
