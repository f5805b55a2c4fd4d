-- A disk that stands for the shape of a tree, with the bytes of its files.
use Rattle.std.specs.Prelude.{◌≡◌, ◌<◌, ℕ, ◌*◌, Some}
use Rattle.frang_base.specs.declared.limits.TheConstants.{SEGMENT_BLOCKS, SEGMENT_INODES, SMALL_BLOCK_SECTORS}
use Rattle.tree_definitions.specs.declared.cells.Cell.{Cell}
use Rattle.tree_definitions.specs.Touched.{shape_of}
use Rattle.tree_definitions.specs.Tree.{FileTree, node_at}
use Rattle.tree_definitions.specs.WellFormed.{IsWellFormed}
use Rattle.sector_bytes.specs.Sectors.{Sectors}
use Rattle.disk_definitions.specs.declared.region.Region.TheVariants as region
use Rattle.disk_definitions.specs.Regions.{sector_of}
use Rattle.disk_definitions.specs.Naming.{Naming, Allows, cell_in, file_byte}
use Rattle.disk_definitions.specs.Standing.{IsMetadata, StandsFor}
use Rattle.disk_definitions.specs.Store.{Store, store_of}
use Rattle.disk_definitions.specs.OnDisk.{StandsBelow}

-- each cell that is a byte stands at its place in the blocks that its file has by the naming; one in doubt allows any byte there
abbrev pub HasItsBytes : Store → FileTree → Naming → Type 0
HasItsBytes store tree naming = (birth at : ℕ) (cell : Cell) → cell_in (node_at tree birth) at ≡ Some cell → Allows cell (file_byte store naming birth at)

-- two disks have the same sectors with versions: parameters, segments, inodes, and those of the blocks that are or were a directory's
pub record HaveTheSameVersioned (segments : ℕ) (disk other : Sectors) : Type 0 where
  pub parameters : other 0 ≡ disk 0
  pub bitmaps : (segment : ℕ) → segment < segments → other (sector_of (region.Segment segment)) ≡ disk (sector_of (region.Segment segment))
  pub inodes : (inode : ℕ) → inode < SEGMENT_INODES * segments → other (sector_of (region.Inode inode)) ≡ disk (sector_of (region.Inode inode))
  pub directories : (block part : ℕ) → block < SEGMENT_BLOCKS * segments → part < SMALL_BLOCK_SECTORS → IsMetadata ((store_of segments disk).use_of block) →
      other (sector_of (region.Small block part)) ≡ disk (sector_of (region.Small block part))

-- the first stands for the shape of a tree, and the second has the bytes of its files: then it stands for the tree
abbrev pub ADiskStandsWithItsBytes : Type 0
ADiskStandsWithItsBytes =
    (disk other : Sectors) (tree : FileTree) (below : StandsBelow disk (shape_of tree)) → IsWellFormed tree → HaveTheSameVersioned below.stands.param.segments disk other →
    HasItsBytes (store_of below.stands.param.segments other) tree below.stands.naming → StandsFor other tree
