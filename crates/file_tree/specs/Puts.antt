-- When bytes may be put into a file.
use Rattle.std.specs.Prelude.{ℕ, ◌+◌, ◌*◌, ◌≤◌, max, Option, Some, None}
use Rattle.frang_base.specs.declared.limits.TheConstants.{FILE_BYTES_MAX, SEGMENT_BLOCKS}
use Rattle.frang_base.specs.declared.reply.Reply.{Reply}
use Rattle.frang_base.specs.declared.reply.Reply.TheVariants as reply
use Rattle.tree_definitions.specs.Tree.{FileTree, count_of, file_blocks, dir_blocks, large_blocks, small_blocks_of, large_blocks_of}
use Rattle.tree_definitions.specs.Apply.{Applied, says}
use Rattle.file_tree.specs.Replies.{gives}

-- a refusal that leaves the tree, or none, and then this tree
abbrev pub by_refusal : FileTree → Option Reply → FileTree → Applied
by_refusal tree (Some r) after = gives tree r
by_refusal tree None after = says after reply.Ok

-- so many bytes have room in a file of these cells from an offset on, and in the tree
pub record CanGrow (tree : FileTree) (size off len : ℕ) : Type 0 where
  pub begins : off ≤ size
  pub ends : off + len ≤ FILE_BYTES_MAX
  pub files : count_of file_blocks tree + small_blocks_of (max size (off + len)) ≤ SEGMENT_BLOCKS * tree.segments + small_blocks_of size
  pub dirs : count_of dir_blocks tree ≤ SEGMENT_BLOCKS * tree.segments
  pub larges : count_of large_blocks tree + large_blocks_of (max size (off + len)) ≤ tree.segments + large_blocks_of size
