-- What trees take of the disk.
use Rattle.std.specs.Prelude.{◌≡◌, length}
use Rattle.tree_definitions.specs.Tree.{FileTree, count_of, dir_blocks, file_blocks, small_blocks, large_blocks}

-- the same number of segments, of nodes, and of blocks of each sort
pub record SameRoom (one two : FileTree) : Type 0 where
  pub segments : one.segments ≡ two.segments
  pub nodes : length one.nodes ≡ length two.nodes
  pub small : count_of small_blocks one ≡ count_of small_blocks two
  pub large : count_of large_blocks one ≡ count_of large_blocks two
  pub files : count_of file_blocks one ≡ count_of file_blocks two
  pub dirs : count_of dir_blocks one ≡ count_of dir_blocks two
