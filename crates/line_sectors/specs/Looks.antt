-- At which sectors with a version lines look, and which of them they need.
use Rattle.std.specs.Prelude.{◌≡◌, ◌⊎◌, ℕ, Bool, true, IsTrue, List, Some}
use Rattle.std.specs.List.{Contains}
use Rattle.frang_base.specs.declared.op.Op.{Op}
use Rattle.sector_bytes.specs.Sectors.{Sectors}
use Rattle.tree_definitions.specs.Tree.{FileTree}
use Rattle.disk_definitions.specs.Ask.{Sector, DirectoryAt, Needs, looks, meet}
use Rattle.disk_definitions.specs.Held.{Segments}
use Rattle.disk_definitions.specs.Lines.{plan_of_line}
use Rattle.disk_definitions.specs.Meets.{IsHandOf, IsOfTree, is_directory_use}
use Rattle.disk_definitions.specs.Naming.{Naming}
use Rattle.disk_definitions.specs.Numbered.{sector_at}
use Rattle.disk_definitions.specs.OnDisk.{AreOfDisk}
use Rattle.disk_definitions.specs.Plans.{Hand}
use Rattle.disk_definitions.specs.Store.{Store}
use Rattle.disk_definitions.specs.Store.Use.{Fresh}
use Rattle.disk_definitions.specs.Written.{Cached, at_hand, hand_of}
use Rattle.sector_world.specs.Plans as plans
use Rattle.sector_world.specs.Plans.{Outcome}
use Rattle.line_histories.specs.Done.{IsWholeDisk}
use Rattle.line_histories.specs.Following.{is_versioned}
use Rattle.line_histories.specs.LinePlans.{sector_plan, store_on}

-- a directory's sector is of a block that is or was a directory's, or of one that nobody has, that never was a directory's and that is known to be zero
abbrev pub IsOfDirectory : Hand → Store → Sector → Type 0
IsOfDirectory hand store (DirectoryAt block part) = (is_directory_use (store.use_of block) ≡ true) ⊎ ((store.use_of block ≡ Fresh) × (hand.zeroed block ≡ true))
IsOfDirectory hand store sector = Unit {0}

-- so is each at which a line looks, over the disk of a tree
abbrev pub LinesLookAtDirectories : Type 0
LinesLookAtDirectories =
    (operation : Op) (hand : Hand) (store : Store) (tree : FileTree) (naming : Naming) (birth when : ℕ) → IsOfTree store tree naming → IsHandOf hand store tree.segments → (sector : Sector) →
    Contains (looks (plan_of_line hand birth when operation) store) sector → IsOfDirectory hand store sector

-- the sector is of a block that nobody has and that never was a directory's
abbrev pub IsOfFresh : Store → Sector → Type 0
IsOfFresh store (DirectoryAt block part) = store.use_of block ≡ Fresh
IsOfFresh store sector = ⊥

-- over the whole disk of a tree, each sector with a version at which a line looks, or that it changes, has one by what the disk says, or is of such a block
abbrev pub LinesLookAtVersions : Type 0
LinesLookAtVersions =
    (segments : ℕ) (when : ℕ → ℕ) (hint : List ℕ) (n : ℕ) (operation : Op) (disk : Sectors) (tree : FileTree) (naming : Naming) (o : Outcome) → IsWholeDisk segments disk tree naming →
    sector_plan segments when hint n operation disk ≡ Some o → (number : ℕ) (sector : Sector) → IsTrue (plans.looks o number) → sector_at segments number ≡ Some sector →
    (is_versioned (store_on segments disk) sector ≡ true) ⊎ IsOfFresh (store_on segments disk) sector

-- over the whole disk of a tree, a directory's sector that a line needs is of a block that is or was a directory's: one that never was is known to be zero, or has to be cleared first
abbrev pub LinesNeedDirectories : Type 0
LinesNeedDirectories =
    (operation : Op) (cached : Cached) (held : Segments) (all : Bool) (segments birth when : ℕ) (disk : Sectors) (tree : FileTree) (naming : Naming) (block part : ℕ) →
    AreOfDisk cached held all segments disk → IsWholeDisk segments disk tree naming →
    meet (plan_of_line (hand_of cached held all) birth when operation) (at_hand cached held) ≡ Needs (DirectoryAt block part) → is_directory_use ((store_on segments disk).use_of block) ≡ true
