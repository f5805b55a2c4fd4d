-- The small blocks of a node are those of a directory and those of a file.
use Rattle.std.proofs.Common.{◌≡◌, ℕ, ◌+◌, length, refl, arith}
use Rattle.tree_definitions.specs.declared.node.Node.{Node}
use Rattle.tree_definitions.specs.declared.node.Node.TheVariants.{Dir, File, Link}
use Rattle.tree_definitions.specs.Tree.{small_blocks, dir_blocks, file_blocks, small_blocks_of}

pub none_before : (n : ℕ) → n ≡ 0 + n
none_before n = omega arith

pub small_blocks_are : (node : Node) → small_blocks node ≡ dir_blocks node + file_blocks node
small_blocks_are (Dir entries blocks) = omega arith
small_blocks_are (File cells links when) = none_before (small_blocks_of (length cells))
small_blocks_are (Link target links) = refl
