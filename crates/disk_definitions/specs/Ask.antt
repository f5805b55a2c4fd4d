-- A computation that looks at sectors, one after another, each time going on by what it sees.
use Rattle.std.specs.Prelude.{◌≡◌, ℕ, ◌+◌, ◌*◌, Bool, if◌then◌else◌, nat_lt, Option, Some, None, List, [], ◌∷◌}
use Rattle.frang_base.specs.declared.limits.TheConstants.{SECTOR_BYTES, SECTOR_ENTRIES}
use Rattle.disk_definitions.specs.declared.region.Region.TheVariants as region
use Rattle.disk_definitions.specs.Regions.{sector_of}
use Rattle.disk_definitions.specs.Store.{Store, StoredNode, StoredEntry}

-- a sector by what it holds: an inode, a part of a directory's block, a segment of the bitmap, a part of a small or of a large block of file bytes
pub data Sector : Type 0 where
  InodeAt : (inode : ℕ) → Sector
  DirectoryAt : (block part : ℕ) → Sector
  SegmentAt : (segment : ℕ) → Sector
  BytesAt : (block part : ℕ) → Sector
  LargeAt : (large part : ℕ) → Sector

-- its number on the disk
abbrev pub number_of : Sector → ℕ
number_of (InodeAt inode) = sector_of (region.Inode inode)
number_of (DirectoryAt block part) = sector_of (region.Small block part)
number_of (SegmentAt segment) = sector_of (region.Segment segment)
number_of (BytesAt block part) = sector_of (region.Small block part)
number_of (LargeAt large part) = sector_of (region.Large large part)

-- a value, or a look at a sector and what is done with what it says; of a segment the bits are at hand where it is held, so a look only asks for it
pub data Ask (A : Type 0) : Type 0 where
  Got : (value : A) → Ask A
  ReadInode : (inode : ℕ) (next : Option StoredNode → Ask A) → Ask A
  ReadDirectory : (block part : ℕ) (next : (ℕ → Option StoredEntry) → Ask A) → Ask A
  ReadSegment : (segment : ℕ) (next : Ask A) → Ask A
  ReadBytes : (block part : ℕ) (next : (ℕ → ℕ) → Ask A) → Ask A
  ReadLarge : (large part : ℕ) (next : (ℕ → ℕ) → Ask A) → Ask A

-- one computation, and after it another by its value
abbrev pub bind : {A B : Type 0} → Ask A → (A → Ask B) → Ask B
bind (Got value) after = after value
bind (ReadInode inode next) after = ReadInode inode (λ said. bind (next said) after)
bind (ReadDirectory block part next) after = ReadDirectory block part (λ said. bind (next said) after)
bind (ReadSegment segment next) after = ReadSegment segment (bind next after)
bind (ReadBytes block part next) after = ReadBytes block part (λ said. bind (next said) after)
bind (ReadLarge large part next) after = ReadLarge large part (λ said. bind (next said) after)

-- the seven slots of a sector of a directory, by their number in its block
abbrev pub seven : (ℕ → ℕ → Option StoredEntry) → ℕ → ℕ → ℕ → Option StoredEntry
seven slots block part index = if nat_lt index SECTOR_ENTRIES then slots block (SECTOR_ENTRIES * part + index) else None

-- the 512 bytes of a part of a block, a sector of it
abbrev pub part_of : (ℕ → ℕ → ℕ) → ℕ → ℕ → ℕ → ℕ
part_of bytes block part index = if nat_lt index SECTOR_BYTES then bytes block (SECTOR_BYTES * part + index) else 0

-- its value over a disk
abbrev pub run : {A : Type 0} → Ask A → Store → A
run (Got value) store = value
run (ReadInode inode next) store = run (next (store.inode inode)) store
run (ReadDirectory block part next) store = run (next (seven store.place block part)) store
run (ReadSegment segment next) store = run next store
run (ReadBytes block part next) store = run (next (part_of store.byte block part)) store
run (ReadLarge large part next) store = run (next (part_of store.large_byte large part)) store

-- the sectors that it looks at, in their order
abbrev pub looks : {A : Type 0} → Ask A → Store → List Sector
looks (Got value) store = []
looks (ReadInode inode next) store = InodeAt inode ∷ looks (next (store.inode inode)) store
looks (ReadDirectory block part next) store = DirectoryAt block part ∷ looks (next (seven store.place block part)) store
looks (ReadSegment segment next) store = SegmentAt segment ∷ looks next store
looks (ReadBytes block part next) store = BytesAt block part ∷ looks (next (part_of store.byte block part)) store
looks (ReadLarge large part next) store = LargeAt large part ∷ looks (next (part_of store.large_byte large part)) store

-- the sectors that are at hand, with what they say
pub record AtHand : Type 0 where
  pub inode : ℕ → Option (Option StoredNode)
  pub directory : ℕ → ℕ → Option (ℕ → Option StoredEntry)
  pub segment : ℕ → Bool
  pub bytes : ℕ → ℕ → Option (ℕ → ℕ)
  pub large : ℕ → ℕ → Option (ℕ → ℕ)

-- its value, or the first sector that it needs and that isn't at hand
pub data Met (A : Type 0) : Type 0 where
  Needs : (sector : Sector) → Met A
  Has : (value : A) → Met A

abbrev pub or_needs : {X A : Type 0} → Sector → Option X → (X → Met A) → Met A
or_needs sector None next = Needs sector
or_needs sector (Some said) next = next said

abbrev pub meet : {A : Type 0} → Ask A → AtHand → Met A
meet (Got value) known = Has value
meet (ReadInode inode next) known = or_needs (InodeAt inode) (known.inode inode) (λ said. meet (next said) known)
meet (ReadDirectory block part next) known = or_needs (DirectoryAt block part) (known.directory block part) (λ said. meet (next said) known)
meet (ReadSegment segment next) known = if known.segment segment then meet next known else Needs (SegmentAt segment)
meet (ReadBytes block part next) known = or_needs (BytesAt block part) (known.bytes block part) (λ said. meet (next said) known)
meet (ReadLarge large part next) known = or_needs (LargeAt large part) (known.large large part) (λ said. meet (next said) known)

-- what is at hand is the disk's
pub record IsOf (known : AtHand) (store : Store) : Type 0 where
  pub inodes : (inode : ℕ) (said : Option StoredNode) → known.inode inode ≡ Some said → said ≡ store.inode inode
  pub directories : (block part : ℕ) (said : ℕ → Option StoredEntry) → known.directory block part ≡ Some said → said ≡ seven store.place block part
  pub bytes : (block part : ℕ) (said : ℕ → ℕ) → known.bytes block part ≡ Some said → said ≡ part_of store.byte block part
  pub larges : (large part : ℕ) (said : ℕ → ℕ) → known.large large part ≡ Some said → said ≡ part_of store.large_byte large part

-- the segments, one after another
abbrev pub read_segments : {A : Type 0} → List ℕ → Ask A → Ask A
read_segments [] next = next
read_segments (segment ∷ segments) next = ReadSegment segment (read_segments segments next)
