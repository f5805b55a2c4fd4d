-- A disk on which edits may be made, and what they leave of it.
use Rattle.std.specs.Prelude.{◌≡◌, ◌≤◌, ◌<◌, ℕ, ◌+◌, ◌*◌, ◌^◌, true, List, is_some, length}
use Rattle.frang_base.specs.declared.limits.TheConstants.{SECTOR_BYTES, SEGMENTS_MAX, SEGMENT_BLOCKS, SEGMENT_INODES, SMALL_BLOCK_SECTORS}
use Rattle.disk_definitions.specs.declared.region.Region.TheVariants as region
use Rattle.disk_definitions.specs.Regions.{sector_of}
use Rattle.sector_bytes.specs.Sectors.{Sectors}
use Rattle.disk_definitions.specs.Store.{Store, store_of, directory_at}
use Rattle.disk_definitions.specs.Standing.{IsMetadata, IsInGrammar, HasVersionsUpTo, version_at}
use Rattle.disk_definitions.specs.Edits.{Edit, edited_all}
use Rattle.disk_definitions.specs.ChangeLaws.{SaysTheSame}
use Rattle.disk_definitions.specs.Written.{changes_of, byte_writes, laid_over}
use Rattle.disk_definitions.specs.FitEdits.{AreFit}

-- what the disk says once the edits are made
abbrev pub store_after : ℕ → Sectors → List Edit → Store
store_after segments sectors edits = edited_all (store_of segments sectors) edits

-- the disk is in its grammar with versions up to one that isn't the last, the edits are fit, and the sectors of a block that becomes a directory's
-- are already in the grammar of directories, as zeros are
pub record IsReady (most segments : ℕ) (sectors : Sectors) (edits : List Edit) : Type 0 where
  pub few : segments ≤ SEGMENTS_MAX
  pub whole : (sector : ℕ) → length (sectors sector) ≡ SECTOR_BYTES
  pub grammar : IsInGrammar segments sectors
  pub last : most + 1 < 2 ^ 64
  pub versions : HasVersionsUpTo most segments sectors
  pub fit : AreFit segments (store_after segments sectors edits) edits
  pub directories : (block part : ℕ) → block < SEGMENT_BLOCKS * segments → part < SMALL_BLOCK_SECTORS →
      IsMetadata ((store_after segments sectors edits).use_of block) → is_some (directory_at sectors block part) ≡ true
  pub directory_versions : (block part : ℕ) → block < SEGMENT_BLOCKS * segments → part < SMALL_BLOCK_SECTORS →
      IsMetadata ((store_after segments sectors edits).use_of block) → version_at sectors (sector_of (region.Small block part)) ≤ most

-- the disk with the changes and the bytes of the edits
abbrev pub disk_after : Sectors → List Edit → Sectors
disk_after sectors edits = laid_over sectors (changes_of sectors edits) (byte_writes edits)

-- the version of a sector stays or is the next one
abbrev pub IsNextVersion : Sectors → Sectors → ℕ → Type 0
IsNextVersion old new sector = (version_at old sector ≤ version_at new sector) × (version_at new sector ≤ version_at old sector + 1)

-- so it is of each versioned sector
pub record RisesByOne (segments : ℕ) (end : Store) (old new : Sectors) : Type 0 where
  pub bitmaps : (segment : ℕ) → segment < segments → IsNextVersion old new (sector_of (region.Segment segment))
  pub inodes : (inode : ℕ) → inode < SEGMENT_INODES * segments → IsNextVersion old new (sector_of (region.Inode inode))
  pub directories : (block part : ℕ) → block < SEGMENT_BLOCKS * segments → part < SMALL_BLOCK_SECTORS → IsMetadata (end.use_of block) →
      IsNextVersion old new (sector_of (region.Small block part))

-- it says what the edited store does where it counts, it is in its grammar, and versions rise by at most one
pub record IsWritten (most segments : ℕ) (sectors : Sectors) (edits : List Edit) : Type 0 where
  pub says : SaysTheSame (store_after segments sectors edits) (store_of segments (disk_after sectors edits))
  pub grammar : IsInGrammar segments (disk_after sectors edits)
  pub versions : HasVersionsUpTo (most + 1) segments (disk_after sectors edits)
  pub rise : RisesByOne segments (store_after segments sectors edits) sectors (disk_after sectors edits)
