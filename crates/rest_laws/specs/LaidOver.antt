-- The disk with each server's cache laid over it, while no server is dead.
use Rattle.std.specs.Prelude.{◌≢◌, ℕ, zero, suc, if◌then◌else◌, List}
use Rattle.tree_definitions.specs.Removal.{tree_from}
use Rattle.tree_definitions.specs.Tree.{FileTree}
use Rattle.sector_bytes.specs.Blocks.{Block}
use Rattle.sector_world.specs.Kinds.{Good}
use Rattle.sector_world.specs.World.{World, Page, Slot, has_version}
use Rattle.sector_world.specs.World.Page.{CleanPage, DirtyPage, FreedPage, NoPage}
use Rattle.sector_world.specs.World.Phase.{Dead}
use Rattle.sector_world.specs.World.Slot.{Absent, Clean, Dirty}
use Rattle.disk_definitions.specs.Standing.{StandsFor}
use Rattle.stop_laws.specs.Happened.{Happening, on_tree}
use Rattle.rest_laws.specs.Done.{AreLinesOf, HasWhatWasDone}

-- what is cached as dirty lies over what is below it
abbrev pub slot_over : Slot → Block → Block
slot_over Absent below = below
slot_over (Clean block) below = below
slot_over (Dirty block mark) below = block

abbrev pub page_over : Page → Block → Block
page_over NoPage below = below
page_over (CleanPage block) below = below
page_over (DirtyPage block mark) below = block
page_over (FreedPage mark) below = below

-- the caches of the servers below a number, over the sectors with versions and over those of bytes
abbrev pub slots_over : World → ℕ → ℕ → Block
slots_over w zero s = w.disk s
slots_over w (suc n) s = slot_over (w.slot n s) (slots_over w n s)

abbrev pub pages_over : World → ℕ → ℕ → Block
pages_over w zero s = w.bytes s
pages_over w (suc n) s = page_over (w.page n s) (pages_over w n s)

-- the disk with all caches laid over it
abbrev pub laid_over : World → ℕ → Block
laid_over w s = if has_version w s then slots_over w w.servers s else pages_over w w.servers s

-- no server is dead
abbrev pub NoneIsDead : World → Type 0
NoneIsDead w = (server : ℕ) → w.phase server ≢ Dead

-- then it has what was done
abbrev pub CachesAreLaidOver : Type 0
CachesAreLaidOver = (w : World) → Good w → NoneIsDead w → HasWhatWasDone w (laid_over w)

-- so without deaths it stands for the tree of the history as it is
abbrev pub CachesLaidOverStand : Type 0
CachesLaidOverStand =
    (segments : ℕ) (when : ℕ → ℕ) (first_tree : FileTree) (numbers : List ℕ) (w : World) (h : List Happening) → AreLinesOf segments when first_tree numbers w h → NoneIsDead w →
    StandsFor (laid_over w) (tree_from first_tree (on_tree h))
