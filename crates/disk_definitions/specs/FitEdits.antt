-- The edits of which a plan may be made: what each writes may stand on the disk, and slots and bytes are written only in blocks that are in use for
-- them at the end.
use Rattle.std.specs.Prelude.{◌≡◌, ◌≤◌, ◌<◌, ℕ, ◌*◌, ◌^◌, true, ◌==◌, if◌then◌else◌, Some, None, List, [], ◌∷◌, length}
use Rattle.frang_base.specs.declared.limits.TheConstants.{BLOCK_ENTRIES, INODE_BLOCKS_MAX, KIND_LINK, LARGE_BLOCK_SECTORS, SEGMENT_BLOCKS, SEGMENT_INODES, SMALL_BLOCK_SECTORS}
use Rattle.frang_base.specs.Name.{is_name}
use Rattle.disk_definitions.specs.Inodes.{inode_fits}
use Rattle.disk_definitions.specs.Store.{Store, StoredNode, StoredEntry}
use Rattle.disk_definitions.specs.Store.Use.{Bytes}
use Rattle.disk_definitions.specs.Standing.{IsMetadata}
use Rattle.disk_definitions.specs.Edits.{Edit}
use Rattle.disk_definitions.specs.Edits.Edit.{SetInode, SetBit, SetUse, SetPlace, SetLarge, SetBytes, SetLargeBytes}
use Rattle.disk_definitions.specs.Written.{inode_with}

-- an inode in use that may stand in a sector, and that is read from there as it is: it has small blocks up to their limit, and a target where it is a link
pub record IsFitNode (node : StoredNode) : Type 0 where
  pub fits : inode_fits (inode_with 0 (Some node)) ≡ true
  pub used : 1 ≤ node.kind
  pub birth : node.birth < 2 ^ 64
  pub small : (index : ℕ) → node.small index < 2 ^ 32
  pub past : (index : ℕ) → INODE_BLOCKS_MAX ≤ index → node.small index ≡ 0
  pub large : node.large < 2 ^ 32
  pub when : node.when < 2 ^ 64
  pub target : length node.target ≡ (if node.kind == KIND_LINK then node.size else 0)

-- an entry that may stand in a place
pub record IsFitEntry (entry : StoredEntry) : Type 0 where
  pub name : is_name entry.name ≡ true
  pub inode : entry.inode < 2 ^ 32
  pub some : 1 ≤ entry.kind
  pub kind : entry.kind ≤ KIND_LINK

-- what the edit writes may stand on a disk of so many segments
abbrev pub IsFitEdit : ℕ → Edit → Type 0
IsFitEdit segments (SetInode inode None dated) = inode < SEGMENT_INODES * segments
IsFitEdit segments (SetInode inode (Some node) dated) = (inode < SEGMENT_INODES * segments) × IsFitNode node
IsFitEdit segments (SetBit inode used) = inode < SEGMENT_INODES * segments
IsFitEdit segments (SetUse block state) = block < SEGMENT_BLOCKS * segments
IsFitEdit segments (SetPlace block slot None) = (block < SEGMENT_BLOCKS * segments) × (slot < BLOCK_ENTRIES)
IsFitEdit segments (SetPlace block slot (Some entry)) = (block < SEGMENT_BLOCKS * segments) × (slot < BLOCK_ENTRIES) × IsFitEntry entry
IsFitEdit segments (SetLarge segment used) = segment < segments
IsFitEdit segments (SetBytes block part bytes) = (block < SEGMENT_BLOCKS * segments) × (part < SMALL_BLOCK_SECTORS)
IsFitEdit segments (SetLargeBytes segment part bytes) = (segment < segments) × (part < LARGE_BLOCK_SECTORS)

-- the block of a place is or was a directory's in the end, and that of bytes is in use for bytes
abbrev pub MeetsUse : Store → Edit → Type 0
MeetsUse end (SetPlace block slot entry) = IsMetadata (end.use_of block)
MeetsUse end (SetBytes block part bytes) = end.use_of block ≡ Bytes
MeetsUse end (SetLargeBytes segment part bytes) = end.large_bit segment ≡ true
MeetsUse end _ = Unit {0}

-- so it is with each of them
abbrev pub AreFit : ℕ → Store → List Edit → Type 0
AreFit segments end [] = Unit {0}
AreFit segments end (edit ∷ edits) = (IsFitEdit segments edit × MeetsUse end edit) × AreFit segments end edits
