-- Computations whose looks are each told by those before: put together from their parts.
use Rattle.std.proofs.Common.{◌≡◌, ℕ, List, [], ◌∷◌, refl}
use Rattle.std.specs.List.{Contains}
use Rattle.disk_definitions.specs.Store.{Store}
use Rattle.disk_definitions.specs.Held.{Segments}
use Rattle.disk_definitions.specs.Ask.{Sector, InodeAt, DirectoryAt, SegmentAt, BytesAt, LargeAt, Ask, Got, ReadInode, ReadDirectory, ReadSegment, ReadBytes, ReadLarge, bind, seven, part_of, run, looks, read_segments}
use Rattle.plan_laws.proofs.Covering.{has_more}
use Rattle.line_laws.specs.Told.{IsTold, AreTold}

-- these sectors are among those
abbrev pub Among : List Sector → List Sector → Type 0
Among before later = (x : Sector) → Contains before x → Contains later x

pub same_among : (before : List Sector) → Among before before
same_among before x c = c

pub more_among : (y : Sector) (before later : List Sector) → Among before later → Among before (y ∷ later)
more_among y before later a x c = has_more y x later (a x c)

module _ (s : Store) (held : Segments) where
  -- each look is told by those before it, and at the end so it is of what was looked at and of the value
  abbrev pub Tells : {A : Type 0} → (List Sector → A → Type 0) → Ask A → List Sector → Type 0
  Tells End (Got a) before = End before a
  Tells End (ReadInode i next) before = IsTold s held before (InodeAt i) × Tells End (next (s.inode i)) (InodeAt i ∷ before)
  Tells End (ReadDirectory k part next) before = IsTold s held before (DirectoryAt k part) × Tells End (next (seven s.place k part)) (DirectoryAt k part ∷ before)
  Tells End (ReadSegment k next) before = Tells End next (SegmentAt k ∷ before)
  Tells End (ReadBytes k part next) before = IsTold s held before (BytesAt k part) × Tells End (next (part_of s.byte k part)) (BytesAt k part ∷ before)
  Tells End (ReadLarge g part next) before = IsTold s held before (LargeAt g part) × Tells End (next (part_of s.large_byte g part)) (LargeAt g part ∷ before)

  -- whatever comes of it
  abbrev pub Told : {A : Type 0} → Ask A → List Sector → Type 0
  Told p before = Tells (λ later a. Unit {0}) p before

  pub tells_bind : {A B : Type 0} (End : List Sector → B → Type 0) (p : Ask A) (f : A → Ask B) (before : List Sector) → Tells (λ later a. Tells End (f a) later) p before → Tells End (bind p f) before
  tells_bind End (Got a) f before t = t
  tells_bind End (ReadInode i next) f before t = (t.0, tells_bind End (next (s.inode i)) f (InodeAt i ∷ before) t.1)
  tells_bind End (ReadDirectory k part next) f before t = (t.0, tells_bind End (next (seven s.place k part)) f (DirectoryAt k part ∷ before) t.1)
  tells_bind End (ReadSegment k next) f before t = tells_bind End next f (SegmentAt k ∷ before) t
  tells_bind End (ReadBytes k part next) f before t = (t.0, tells_bind End (next (part_of s.byte k part)) f (BytesAt k part ∷ before) t.1)
  tells_bind End (ReadLarge g part next) f before t = (t.0, tells_bind End (next (part_of s.large_byte g part)) f (LargeAt g part ∷ before) t.1)

  pub tells_weaker : {A : Type 0} (End Less : List Sector → A → Type 0) (p : Ask A) (before : List Sector) → ((later : List Sector) (a : A) → End later a → Less later a) → Tells End p before → Tells Less p before
  tells_weaker End Less (Got a) before f t = f before a t
  tells_weaker End Less (ReadInode i next) before f t = (t.0, tells_weaker End Less (next (s.inode i)) (InodeAt i ∷ before) f t.1)
  tells_weaker End Less (ReadDirectory k part next) before f t = (t.0, tells_weaker End Less (next (seven s.place k part)) (DirectoryAt k part ∷ before) f t.1)
  tells_weaker End Less (ReadSegment k next) before f t = tells_weaker End Less next (SegmentAt k ∷ before) f t
  tells_weaker End Less (ReadBytes k part next) before f t = (t.0, tells_weaker End Less (next (part_of s.byte k part)) (BytesAt k part ∷ before) f t.1)
  tells_weaker End Less (ReadLarge g part next) before f t = (t.0, tells_weaker End Less (next (part_of s.large_byte g part)) (LargeAt g part ∷ before) f t.1)

  -- the value is the one over the disk
  pub tells_value : {A : Type 0} (End : List Sector → A → Type 0) (p : Ask A) (before : List Sector) → Tells End p before → Tells (λ later a. End later a × (a ≡ run p s)) p before
  tells_value End (Got a) before t = (t, refl)
  tells_value End (ReadInode i next) before t = (t.0, tells_value End (next (s.inode i)) (InodeAt i ∷ before) t.1)
  tells_value End (ReadDirectory k part next) before t = (t.0, tells_value End (next (seven s.place k part)) (DirectoryAt k part ∷ before) t.1)
  tells_value End (ReadSegment k next) before t = tells_value End next (SegmentAt k ∷ before) t
  tells_value End (ReadBytes k part next) before t = (t.0, tells_value End (next (part_of s.byte k part)) (BytesAt k part ∷ before) t.1)
  tells_value End (ReadLarge g part next) before t = (t.0, tells_value End (next (part_of s.large_byte g part)) (LargeAt g part ∷ before) t.1)

  -- one computation, and then another by its value
  pub tells_then : {A B : Type 0} (Mid : List Sector → A → Type 0) (End : List Sector → B → Type 0) (p : Ask A) (f : A → Ask B) (before : List Sector) → Tells Mid p before →
      ((later : List Sector) (a : A) → Mid later a → Tells End (f a) later) → Tells End (bind p f) before
  tells_then Mid End p f before t g = tells_bind End p f before (tells_weaker Mid (λ later a. Tells End (f a) later) p before g t)

  -- one whose looks are told, and then one whose looks are told whatever was looked at
  pub told_then : {A B : Type 0} (p : Ask A) (f : A → Ask B) (before : List Sector) → Told p before → ((later : List Sector) (a : A) → Told (f a) later) → Told (bind p f) before
  told_then p f before t g = tells_then (λ later a. Unit {0}) (λ later b. Unit {0}) p f before t (λ later a u. g later a)

  -- segments, and then the rest
  pub tells_segments : {A : Type 0} (End : List Sector → A → Type 0) (ks : List ℕ) (p : Ask A) (before : List Sector) → ((later : List Sector) → Among before later → Tells End p later) → Tells End (read_segments ks p) before
  tells_segments End [] p before f = f before (same_among before)
  tells_segments End (k ∷ ks) p before f = tells_segments End ks p (SegmentAt k ∷ before) (λ later a. f later (λ x c. a x (has_more (SegmentAt k) x before c)))

  pub are_told : {A : Type 0} (End : List Sector → A → Type 0) (p : Ask A) (before : List Sector) → Tells End p before → AreTold s held before (looks p s)
  are_told End (Got a) before t = tt
  are_told End (ReadInode i next) before t = (t.0, are_told End (next (s.inode i)) (InodeAt i ∷ before) t.1)
  are_told End (ReadDirectory k part next) before t = (t.0, are_told End (next (seven s.place k part)) (DirectoryAt k part ∷ before) t.1)
  are_told End (ReadSegment k next) before t = (tt, are_told End next (SegmentAt k ∷ before) t)
  are_told End (ReadBytes k part next) before t = (t.0, are_told End (next (part_of s.byte k part)) (BytesAt k part ∷ before) t.1)
  are_told End (ReadLarge g part next) before t = (t.0, are_told End (next (part_of s.large_byte g part)) (LargeAt g part ∷ before) t.1)
