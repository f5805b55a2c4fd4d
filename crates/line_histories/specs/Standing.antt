-- The sectors with versions stand for the shape of a tree, and are zeros where they have none.
use Rattle.std.specs.Prelude.{ℕ, ◌≡◌, ◌<◌, ◌+◌, ◌*◌, false, length}
use Rattle.frang_base.specs.declared.limits.TheConstants.{RUN_VERSIONS_MAX, SEGMENT_BLOCKS, SMALL_BLOCK_SECTORS}
use Rattle.tree_definitions.specs.Tree.{FileTree}
use Rattle.tree_definitions.specs.Touched.{shape_of}
use Rattle.tree_definitions.specs.WellFormed.{IsWellFormed}
use Rattle.sector_bytes.specs.Blocks.{zero_block}
use Rattle.sector_bytes.specs.Sectors.{Sectors}
use Rattle.disk_definitions.specs.declared.region.Region.TheVariants as region
use Rattle.disk_definitions.specs.Regions.{sector_of}
use Rattle.disk_definitions.specs.Store.{store_of}
use Rattle.disk_definitions.specs.Meets.{is_directory_use}
use Rattle.disk_definitions.specs.OnDisk.{StandsBelow}
use Rattle.line_histories.specs.Trees.{NumberedTree}

-- the sectors of each small block that is no directory's, and never was one's, are zeros
abbrev pub HasZeros : ℕ → Sectors → Type 0
HasZeros segments disk =
    (block part : ℕ) → block < SEGMENT_BLOCKS * segments → part < SMALL_BLOCK_SECTORS → is_directory_use ((store_of segments disk).use_of block) ≡ false →
    disk (sector_of (region.Small block part)) ≡ zero_block

-- they stand for the tree without the bytes of its files, with versions below their bound
pub record StandsForShape (segments : ℕ) (disk : Sectors) (tree : FileTree) : Type 0 where
  pub well_formed : IsWellFormed tree
  pub as_many : tree.segments ≡ segments
  pub below : StandsBelow disk (shape_of tree)
  pub zeros : HasZeros tree.segments disk

-- and versions are left for as many operations as there are numbers
pub record StandsNumbered (segments : ℕ) (disk : Sectors) (state : NumberedTree) : Type 0 where
  pub stands : StandsForShape segments disk state.tree
  pub enough : stands.below.most + length state.numbers < RUN_VERSIONS_MAX * stands.below.stands.param.run
