-- How readings of cached sectors go on from one to the next.
use Rattle.std.proofs.Common.{◌≡◌, ℕ, Bool, true, false, cond, Option, Some, None, List, refl, ap, subst}
use Rattle.disk_definitions.specs.declared.region.Region.TheVariants as region
use Rattle.disk_definitions.specs.Regions.{sector_of}
use Rattle.disk_definitions.specs.Inodes.{inode_in}
use Rattle.disk_definitions.specs.Directories.{directory_in}
use Rattle.disk_definitions.specs.Store.{StoredNode, StoredEntry, stored_node, entry_in}
use Rattle.sector_bytes.specs.SectorMaps.{value_at}
use Rattle.disk_definitions.specs.Held.{Segments}
use Rattle.disk_definitions.specs.Ask.{Ask, Got, ReadInode, ReadDirectory, ReadSegment, ReadBytes, ReadLarge, AtHand, Sector, InodeAt, DirectoryAt, SegmentAt, BytesAt, LargeAt, Met, Needs, meet, bind, or_needs}
use Rattle.disk_definitions.specs.Written.{Cached, at_hand}
use Rattle.dir_lookup.specs.Reading.{Read, Gives, numbered, reading, then_read, read_or_lacks}
use Rattle.dir_lookup.proofs.Looking.{some_there}

-- ---- one program after another
at_option : {A B X : Type 0} (s : Sector) (o : Option X) (g : X → Met B) (h : X → Met A) (f : A → Read B) → ((x : X) → numbered (g x) ≡ then_read (numbered (h x)) f)
    → numbered (or_needs s o g) ≡ then_read (numbered (or_needs s o h)) f
at_option s None g h f e = refl
at_option s (Some x) g h f e = e x

at_segment : {A B : Type 0} (s : Sector) (b : Bool) (g : Met B) (h : Met A) (f : A → Read B) → numbered g ≡ then_read (numbered h) f
    → numbered (cond b g (Needs s)) ≡ then_read (numbered (cond b h (Needs s))) f
at_segment s true g h f e = e
at_segment s false g h f e = refl

pub meet_bind : {A B : Type 0} (p : Ask A) (f : A → Ask B) (c : AtHand) → numbered (meet (bind p f) c) ≡ then_read (numbered (meet p c)) (λ a. numbered (meet (f a) c))
meet_bind (Got a) f c = refl
meet_bind (ReadInode i next) f c =
    at_option (InodeAt i) (c.inode i) (λ x. meet (bind (next x) f) c) (λ x. meet (next x) c) (λ a. numbered (meet (f a) c)) (λ x. meet_bind (next x) f c)
meet_bind (ReadDirectory k part next) f c =
    at_option (DirectoryAt k part) (c.directory k part) (λ x. meet (bind (next x) f) c) (λ x. meet (next x) c) (λ a. numbered (meet (f a) c)) (λ x. meet_bind (next x) f c)
meet_bind (ReadSegment k next) f c = at_segment (SegmentAt k) (c.segment k) (meet (bind next f) c) (meet next c) (λ a. numbered (meet (f a) c)) (meet_bind next f c)
meet_bind (ReadBytes k part next) f c =
    at_option (BytesAt k part) (c.bytes k part) (λ x. meet (bind (next x) f) c) (λ x. meet (next x) c) (λ a. numbered (meet (f a) c)) (λ x. meet_bind (next x) f c)
meet_bind (ReadLarge g part next) f c =
    at_option (LargeAt g part) (c.large g part) (λ x. meet (bind (next x) f) c) (λ x. meet (next x) c) (λ a. numbered (meet (f a) c)) (λ x. meet_bind (next x) f c)

pub reading_bind : {A B : Type 0} (p : Ask A) (f : A → Ask B) (cached : Cached) (held : Segments) → reading (bind p f) cached held ≡ then_read (reading p cached held) (λ a. reading (f a) cached held)
reading_bind p f cached held = meet_bind p f (at_hand cached held)

-- ---- one sector

pub inode_reads : (cached : Cached) (i s : ℕ) (block : List ℕ) (x : Option StoredNode) (held : Segments) → s ≡ sector_of (region.Inode i) → Gives block ≡ read_or_lacks s (value_at cached s)
    → x ≡ stored_node (inode_in block) → Gives x ≡ reading (ReadInode i Got) cached held
inode_reads cached i s block x held at there is =
    let e : value_at cached (sector_of (region.Inode i)) ≡ Some block = subst (λ s. value_at cached s ≡ Some block) at (some_there s (value_at cached s) block there) in
    rw e (ap Gives is)

pub directory_reads : (cached : Cached) (k part s : ℕ) (block : List ℕ) (f : ℕ → Option StoredEntry) (held : Segments) → s ≡ sector_of (region.Small k part) → Gives block ≡ read_or_lacks s (value_at cached s)
    → f ≡ entry_in (directory_in block) → Gives f ≡ reading (ReadDirectory k part Got) cached held
directory_reads cached k part s block f held at there is =
    let e : value_at cached (sector_of (region.Small k part)) ≡ Some block = subst (λ s. value_at cached s ≡ Some block) at (some_there s (value_at cached s) block there) in
    rw e (ap Gives is)
