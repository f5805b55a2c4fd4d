-- What the nodes of a tree take of the disk, as it is counted.
use Rattle.std.specs.Prelude.{◌≡◌, ℕ, ◌+◌, ◌*◌, ◌≤◌, ◌<◌, ◌^◌, List, sum_by}
use Rattle.std.specs.Ordering.{nat_cmp}
use Rattle.std.specs.Option.{option_map, unwrap_or}
use Rattle.std.specs.Map.{lookup, values_of}
use Rattle.std.specs.BTreeMap.{is_at}
use Rattle.frang_base.specs.declared.limits.TheConstants.{SEGMENT_BLOCKS, SEGMENTS_MAX}
use Rattle.tree_definitions.specs.declared.node.Node.{Node}
use Rattle.tree_definitions.specs.Tree.{FileTree, file_blocks, dir_blocks, large_blocks, count_of}
use Rattle.tree_edits.specs.declared.counts.Blocks.{Blocks}

-- what a node takes
abbrev pub blocks_of : Node → Blocks
blocks_of node = record { files = file_blocks node; dirs = dir_blocks node; larges = large_blocks node }

-- what the node of a birth takes, or nothing
abbrev pub taken_in : (Node → ℕ) → List (ℕ × Node) → ℕ → ℕ
taken_in count nodes birth = unwrap_or (option_map count (lookup (is_at (nat_cmp birth)) nodes)) 0

abbrev pub blocks_in : List (ℕ × Node) → ℕ → Blocks
blocks_in nodes birth = record { files = taken_in file_blocks nodes birth; dirs = taken_in dir_blocks nodes birth; larges = taken_in large_blocks nodes birth }

-- every count changes as the one birth's node does
abbrev pub IsSwapped : List (ℕ × Node) → ℕ → List (ℕ × Node) → Type 0
IsSwapped nodes birth after = (count : Node → ℕ) → sum_by count (values_of after) + taken_in count nodes birth ≡ sum_by count (values_of nodes) + taken_in count after birth

-- what is taken of a disk of at most 64 segments is at most what it has, of small blocks by files and by directories alike
pub record IsWithin (tree : FileTree) : Type 0 where
  pub few : tree.segments ≤ SEGMENTS_MAX
  pub files : count_of file_blocks tree ≤ SEGMENT_BLOCKS * tree.segments
  pub dirs : count_of dir_blocks tree ≤ SEGMENT_BLOCKS * tree.segments
  pub larges : count_of large_blocks tree ≤ tree.segments

-- these are the counts
pub record IsCounted (taken : Blocks) (tree : FileTree) : Type 0 where
  pub files : taken.files ≡ count_of file_blocks tree
  pub dirs : taken.dirs ≡ count_of dir_blocks tree
  pub larges : taken.larges ≡ count_of large_blocks tree
  pub within : IsWithin tree

-- there is room for what takes this at a birth, in place of what it has
pub record HasRoom (tree : FileTree) (birth : ℕ) (blocks : Blocks) : Type 0 where
  pub files : count_of file_blocks tree + blocks.files ≤ SEGMENT_BLOCKS * tree.segments + taken_in file_blocks tree.nodes birth
  pub dirs : count_of dir_blocks tree + blocks.dirs ≤ SEGMENT_BLOCKS * tree.segments + taken_in dir_blocks tree.nodes birth
  pub larges : count_of large_blocks tree + blocks.larges ≤ tree.segments + taken_in large_blocks tree.nodes birth

-- blocks may be counted in place of others
pub record CanCount (taken before after : Blocks) : Type 0 where
  pub files : before.files ≤ taken.files + after.files
  pub files_fit : taken.files + after.files < 2 ^ 64
  pub dirs : before.dirs ≤ taken.dirs + after.dirs
  pub dirs_fit : taken.dirs + after.dirs < 2 ^ 64
  pub larges : before.larges ≤ taken.larges + after.larges
  pub larges_fit : taken.larges + after.larges < 2 ^ 64

pub record Counts (taken before after result : Blocks) : Type 0 where
  pub files : result.files + before.files ≡ taken.files + after.files
  pub dirs : result.dirs + before.dirs ≡ taken.dirs + after.dirs
  pub larges : result.larges + before.larges ≡ taken.larges + after.larges
