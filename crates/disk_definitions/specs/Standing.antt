-- A disk stands for a tree.
use Rattle.std.specs.Prelude.{◌≡◌, ◌≤◌, ◌<◌, ℕ, ◌*◌, ◌^◌, Bool, true, Option, Some, None, List, [], ◌∷◌, is_some}
use Rattle.std.specs.List.{slice_get}
use Rattle.std.specs.Option.{option_and_then}
use Rattle.frang_base.specs.declared.limits.TheConstants.{RUN_LINES_END, RUN_VERSIONS_MAX, SEGMENT_BLOCKS, SEGMENT_INODES, SMALL_BLOCK_SECTORS}
use Rattle.tree_definitions.specs.declared.cells.Cell.{Cell}
use Rattle.tree_definitions.specs.declared.cells.Cell.TheVariants as cell
use Rattle.tree_definitions.specs.declared.node.Node.{Node}
use Rattle.tree_definitions.specs.declared.node.Node.TheVariants.{Dir, File, Link}
use Rattle.tree_definitions.specs.Tree.{FileTree, node_at}
use Rattle.tree_definitions.specs.WellFormed.{IsWellFormed}
use Rattle.disk_definitions.specs.declared.param.Param.{Param}
use Rattle.disk_definitions.specs.declared.region.Region.TheVariants as region
use Rattle.sector_bytes.specs.Blocks.{version_of}
use Rattle.disk_definitions.specs.Regions.{sector_of}
use Rattle.disk_definitions.specs.Params.{param_in}
use Rattle.disk_definitions.specs.Inodes.{inode_in}
use Rattle.sector_bytes.specs.Sectors.{Sectors}
use Rattle.disk_definitions.specs.Store.{Use, store_of, segment_at, directory_at}
use Rattle.disk_definitions.specs.Store.Use.{Empty, Entries}
use Rattle.disk_definitions.specs.Naming.{Naming, Nodes, Pictures, find_in}

-- the version of a sector
abbrev pub version_at : Sectors → ℕ → ℕ
version_at sectors sector = version_of (sectors sector)

-- the block is or was a directory's
abbrev pub IsMetadata : Use → Type 0
IsMetadata Empty = Unit {0}
IsMetadata Entries = Unit {0}
IsMetadata _ = ⊥

-- every inode, segment and directory sector is in its grammar
pub record IsInGrammar (segments : ℕ) (sectors : Sectors) : Type 0 where
  pub bitmaps : (k : ℕ) → k < segments → is_some (segment_at sectors k) ≡ true
  pub inodes : (i : ℕ) → i < SEGMENT_INODES * segments → is_some (inode_in (sectors (sector_of (region.Inode i)))) ≡ true
  pub directories : (k p : ℕ) → k < SEGMENT_BLOCKS * segments → p < SMALL_BLOCK_SECTORS → IsMetadata ((store_of segments sectors).use_of k) → is_some (directory_at sectors k p) ≡ true

-- the versions of these sectors are at most so many
pub record HasVersionsUpTo (most segments : ℕ) (sectors : Sectors) : Type 0 where
  pub bitmaps : (k : ℕ) → k < segments → version_at sectors (sector_of (region.Segment k)) ≤ most
  pub inodes : (i : ℕ) → i < SEGMENT_INODES * segments → version_at sectors (sector_of (region.Inode i)) ≤ most
  pub directories : (k p : ℕ) → k < SEGMENT_BLOCKS * segments → p < SMALL_BLOCK_SECTORS → IsMetadata ((store_of segments sectors).use_of k) → version_at sectors (sector_of (region.Small k p)) ≤ most

-- the birth that a walk along names reaches from a birth
abbrev pub reached_from : Nodes → ℕ → List (List ℕ) → Option ℕ
reached_from at b [] = Some b
reached_from at b (name ∷ names) = option_and_then (λ next. reached_from at next names) (find_in (at b) name)

-- names lead from the root to this birth
abbrev pub IsReachedAt : Nodes → ℕ → Type 0
IsReachedAt at b = (names : List (List ℕ)) × (reached_from at 0 names ≡ Some b)

-- each node is reached from the root
abbrev pub IsReached : Nodes → Type 0
IsReached at = (b : ℕ) → is_some (at b) ≡ true → IsReachedAt at b

-- the disk stands for the tree: its sectors are in their grammar, no version is above 131,072 a run, and what they say is the picture of the tree, whose
-- root has inode 0, and whose births by a script, which have a run number, stand in their inodes
pub record StandsFor (sectors : Sectors) (tree : FileTree) : Type 0 where
  pub param : Param
  pub parameters : param_in (sectors 0) ≡ Some param
  pub segments : tree.segments ≡ param.segments
  pub grammar : IsInGrammar param.segments sectors
  pub versions : HasVersionsUpTo (RUN_VERSIONS_MAX * param.run) param.segments sectors
  pub well_formed : IsWellFormed tree
  pub reached : IsReached (node_at tree)
  pub naming : Naming
  pub picture : Pictures (store_of param.segments sectors) (node_at tree) naming
  pub root : naming.inode 0 ≡ 0
  pub births : (b : ℕ) → is_some (node_at tree b) ≡ true → RUN_LINES_END ≤ b → naming.stamp b ≡ b

-- ---- the tree that a disk is read as

-- no cell is doubtful
abbrev pub AllBytes : List Cell → Type 0
AllBytes cells = (j : ℕ) (c : Cell) → slice_get cells j ≡ Some c → (v : ℕ) × (c ≡ cell.Byte v)

-- no cell of the node is doubtful
abbrev pub HasBytes : Node → Type 0
HasBytes (Dir entries blocks) = Unit {0}
HasBytes (File cells links when) = AllBytes cells
HasBytes (Link target links) = Unit {0}

-- no cell of the tree is doubtful
abbrev pub HasNoDoubt : FileTree → Type 0
HasNoDoubt tree = (b : ℕ) (node : Node) → node_at tree b ≡ Some node → HasBytes node

-- the disk stands for the tree, and each birth is the number of its inode
abbrev pub StandsByInodes : Sectors → FileTree → Type 0
StandsByInodes sectors tree = (stands : StandsFor sectors tree) × ((b : ℕ) → is_some (node_at tree b) ≡ true → stands.naming.inode b ≡ b)
