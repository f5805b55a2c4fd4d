-- A disk stands for a tree by its segments, inodes and blocks; of its parameters it takes how many segments there are and the number of the run.
use Rattle.std.specs.Prelude.{◌≡◌, ◌≤◌, ℕ, Bool, true, false, Some, length}
use Rattle.frang_base.specs.declared.limits.TheConstants.{SECTOR_BYTES}
use Rattle.tree_definitions.specs.Tree.{FileTree}
use Rattle.sector_bytes.specs.Sectors.{Sectors}
use Rattle.disk_definitions.specs.declared.param.Param.{Param}
use Rattle.disk_definitions.specs.declared.region.Region.{Region}
use Rattle.disk_definitions.specs.declared.region.Region.TheVariants as region
use Rattle.disk_definitions.specs.Params.{param_in}
use Rattle.disk_definitions.specs.Regions.{is_in_range, sector_of}
use Rattle.disk_definitions.specs.Standing.{StandsFor}

-- the place of a segment, an inode, or a sector of a block
abbrev pub holds_tree : Region → Bool
holds_tree region.Param = false
holds_tree (region.Log server slot) = false
holds_tree (region.Segment k) = true
holds_tree (region.Inode i) = true
holds_tree (region.Small block part) = true
holds_tree (region.Large block part) = true

-- at each such place of so many segments another disk has the sector of the first
abbrev pub HasTheTreeOf : ℕ → Sectors → Sectors → Type 0
HasTheTreeOf segments disk other = (place : Region) → is_in_range segments place ≡ true → holds_tree place ≡ true → other (sector_of place) ≡ disk (sector_of place)

-- parameters of as many segments, of this run or a later one
pub record MayFollow (count last : ℕ) (param : Param) : Type 0 where
  pub segments : param.segments ≡ count
  pub run : last ≤ param.run

-- where a disk stands for a tree, so does each other that has its sectors and such parameters
abbrev pub RegionsStand : Type 0
RegionsStand =
    (disk other : Sectors) (tree : FileTree) (param : Param) (stands : StandsFor disk tree) → ((sector : ℕ) → length (other sector) ≡ SECTOR_BYTES) →
    HasTheTreeOf tree.segments disk other → param_in (other 0) ≡ Some param → MayFollow tree.segments stands.param.run param → StandsFor other tree
