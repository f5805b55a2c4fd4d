-- A disk of a tree is one of its shape: what it says of the bytes of files doesn't matter.
use Rattle.std.specs.Prelude.{ℕ}
use Rattle.tree_definitions.specs.Tree.{FileTree}
use Rattle.tree_definitions.specs.Touched.{shape_of}
use Rattle.sector_bytes.specs.Sectors.{Sectors}
use Rattle.disk_definitions.specs.Store.{Store}
use Rattle.disk_definitions.specs.Naming.{Naming}
use Rattle.disk_definitions.specs.Standing.{StandsFor}
use Rattle.disk_definitions.specs.Plans.{Hand}
use Rattle.disk_definitions.specs.Meets.{IsOfTree, IsHandOf}
use Rattle.disk_definitions.specs.OnDisk.{StandsBelow}
use Rattle.plan_laws.specs.FilesPlanned.{HasFiles}

-- the store with other bytes of files
abbrev pub with_bytes : Store → (ℕ → ℕ → ℕ) → (ℕ → ℕ → ℕ) → Store
with_bytes store byte large_byte = record store { byte = byte; large_byte = large_byte }

-- the store with each byte of a file zero
abbrev pub blank : Store → Store
blank store = with_bytes store (λ block index. 0) (λ large index. 0)

-- a store that is the picture of a tree is that of its shape, with its bytes, blank, and with any others
pub record AreOfShape (store : Store) (tree : FileTree) (naming : Naming) : Type 0 where
  pub left : IsOfTree store (shape_of tree) naming
  pub blank : IsOfTree (blank store) (shape_of tree) naming
  pub others : (byte large_byte : ℕ → ℕ → ℕ) → IsOfTree (with_bytes store byte large_byte) (shape_of tree) naming

abbrev pub ShapesStand : Type 0
ShapesStand = (store : Store) (tree : FileTree) (naming : Naming) → IsOfTree store tree naming → AreOfShape store tree naming

-- so are the segments at hand those of the blank store, and its files fit into their blocks
abbrev pub BlankHandsStay : Type 0
BlankHandsStay = (hand : Hand) (store : Store) (segments : ℕ) → IsHandOf hand store segments → IsHandOf hand (blank store) segments

abbrev pub BlankFilesStay : Type 0
BlankFilesStay = (store : Store) (tree : FileTree) (ever_directories : ℕ) → HasFiles store tree ever_directories → HasFiles (blank store) (shape_of tree) ever_directories

-- a disk that stands for a tree stands for its shape, with versions below their bound if they were
abbrev pub DisksStandForShapes : Type 0
DisksStandForShapes = (sectors : Sectors) (tree : FileTree) → StandsFor sectors tree → StandsFor sectors (shape_of tree)

abbrev pub DisksStandBelowForShapes : Type 0
DisksStandBelowForShapes = (sectors : Sectors) (tree : FileTree) → StandsBelow sectors tree → StandsBelow sectors (shape_of tree)
