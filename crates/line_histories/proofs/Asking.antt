-- Computations that ask only for sectors of some kind, whatever is said to them.
use Rattle.std.proofs.Common.{ℕ, List, [], ◌∷◌, Option}
use Rattle.std.specs.List.{AllByRecursion, Contains}
use Rattle.disk_definitions.specs.Store.{Store, StoredNode, StoredEntry}
use Rattle.disk_definitions.specs.Ask.{Sector, InodeAt, DirectoryAt, SegmentAt, BytesAt, LargeAt, Ask, Got, ReadInode, ReadDirectory, ReadSegment, ReadBytes, ReadLarge, bind, seven, part_of, looks, read_segments}
use Rattle.plan_laws.proofs.Covering.{has_head, has_more}

module _ (P : Sector → Type 0) where
  abbrev pub AsksOnly : {A : Type 0} → Ask A → Type 0
  AsksOnly (Got value) = Unit {0}
  AsksOnly (ReadInode i next) = P (InodeAt i) × ((said : Option StoredNode) → AsksOnly (next said))
  AsksOnly (ReadDirectory k part next) = P (DirectoryAt k part) × ((said : ℕ → Option StoredEntry) → AsksOnly (next said))
  AsksOnly (ReadSegment k next) = P (SegmentAt k) × AsksOnly next
  AsksOnly (ReadBytes k part next) = P (BytesAt k part) × ((said : ℕ → ℕ) → AsksOnly (next said))
  AsksOnly (ReadLarge g part next) = P (LargeAt g part) × ((said : ℕ → ℕ) → AsksOnly (next said))

  -- one computation and then another
  pub asks_bind : {A B : Type 0} (p : Ask A) (f : A → Ask B) → AsksOnly p → ((a : A) → AsksOnly (f a)) → AsksOnly (bind p f)
  asks_bind (Got a) f h more = more a
  asks_bind (ReadInode i next) f h more = (h.0, λ said. asks_bind (next said) f (h.1 said) more)
  asks_bind (ReadDirectory k part next) f h more = (h.0, λ said. asks_bind (next said) f (h.1 said) more)
  asks_bind (ReadSegment k next) f h more = (h.0, asks_bind next f h.1 more)
  asks_bind (ReadBytes k part next) f h more = (h.0, λ said. asks_bind (next said) f (h.1 said) more)
  asks_bind (ReadLarge g part next) f h more = (h.0, λ said. asks_bind (next said) f (h.1 said) more)

  pub asks_segments : {A : Type 0} (ks : List ℕ) → ((k : ℕ) → Contains ks k → P (SegmentAt k)) → (p : Ask A) → AsksOnly p → AsksOnly (read_segments ks p)
  asks_segments [] segment p h = h
  asks_segments (k ∷ ks) segment p h = (segment k (has_head k ks), asks_segments ks (λ j c. segment j (has_more k j ks c)) p h)

  -- so are all sectors that it looks at, over any disk
  pub asked : {A : Type 0} (p : Ask A) (s : Store) → AsksOnly p → AllByRecursion P (looks p s)
  asked (Got a) s h = tt
  asked (ReadInode i next) s h = (h.0, asked (next (s.inode i)) s (h.1 (s.inode i)))
  asked (ReadDirectory k part next) s h = (h.0, asked (next (seven s.place k part)) s (h.1 (seven s.place k part)))
  asked (ReadSegment k next) s h = (h.0, asked next s h.1)
  asked (ReadBytes k part next) s h = (h.0, asked (next (part_of s.byte k part)) s (h.1 (part_of s.byte k part)))
  asked (ReadLarge g part next) s h = (h.0, asked (next (part_of s.large_byte g part)) s (h.1 (part_of s.large_byte g part)))
