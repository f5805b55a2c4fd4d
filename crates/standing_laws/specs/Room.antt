-- What a sound disk has room for: the tree that is read off it takes no more of the disk than there is.
use Rattle.std.specs.Prelude.{◌≡◌, ◌≤◌, ℕ, ◌*◌, true, Some, List, length}
use Rattle.std.specs.List.{list_all}
use Rattle.frang_base.specs.declared.limits.TheConstants.{SEGMENT_BLOCKS, TARGET_BYTES_MAX}
use Rattle.tree_definitions.specs.declared.node.Node.TheVariants.{Link}
use Rattle.tree_definitions.specs.Tree.{FileTree, node_at, count_of, small_blocks, large_blocks}
use Rattle.frang_base.specs.Name.{is_target_byte}
use Rattle.sector_bytes.specs.Sectors.{Sectors}
use Rattle.standing_laws.specs.ReadTree.{read_tree}
use Rattle.standing_laws.specs.Soundness.{IsSound}

-- the blocks of the nodes are at most those of the segments, and targets have 1 to 384 bytes that may stand in one
pub record FitsDisk (tree : FileTree) : Type 0 where
  pub small : count_of small_blocks tree ≤ SEGMENT_BLOCKS * tree.segments
  pub large : count_of large_blocks tree ≤ tree.segments
  pub targets : (b : ℕ) (target : List ℕ) (links : ℕ) → node_at tree b ≡ Some (Link target links) → (1 ≤ length target) × (length target ≤ TARGET_BYTES_MAX) × (list_all is_target_byte target ≡ true)

-- the tree of a sound disk fits
abbrev pub SoundFits : Type 0
SoundFits = (most segments : ℕ) (sectors : Sectors) → IsSound most segments sectors → FitsDisk (read_tree segments sectors)
