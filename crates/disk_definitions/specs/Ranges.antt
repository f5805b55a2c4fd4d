-- What the fields of an inode can hold, whether or not it fits a sector.
use Rattle.std.specs.Prelude.{ℕ, ◌<◌, ◌≡◌, ◌^◌, length, slice_index}
use Rattle.frang_base.specs.declared.limits.TheConstants.{INODE_BLOCKS_MAX, TARGET_BYTES_MAX}
use Rattle.disk_definitions.specs.declared.inode.Inode.{Inode}

-- the numbers and lengths of its fields
pub record InodeRange (x : Inode) : Type 0 where
  pub version : x.version < 2 ^ 64
  pub kind : x.kind < 2 ^ 8
  pub links : x.links < 2 ^ 16
  pub blocks : x.blocks < 2 ^ 16
  pub size : x.size < 2 ^ 64
  pub birth : x.birth < 2 ^ 64
  pub small : (i : ℕ) → slice_index x.small i < 2 ^ 32
  pub small_len : length x.small ≡ INODE_BLOCKS_MAX
  pub large : x.large < 2 ^ 32
  pub when : x.when < 2 ^ 64
  pub target_len : length x.target ≡ TARGET_BYTES_MAX
