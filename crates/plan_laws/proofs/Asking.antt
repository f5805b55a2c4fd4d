-- What holds of each computation over sectors.
use Rattle.std.proofs.Common.{◌≡◌, ℕ, Bool, true, false, Option, Some, None, List, [], ◌∷◌, ◌++◌, map, refl, sym, ◌∙◌, ap, is_some, if◌then◌else◌}
use Rattle.disk_definitions.specs.Store.{Store}
use Rattle.disk_definitions.specs.Ask.{Sector, InodeAt, DirectoryAt, SegmentAt, BytesAt, LargeAt, Ask, Got, ReadInode, ReadDirectory, ReadSegment, ReadBytes, ReadLarge, AtHand, Met, Needs, Has, IsOf, bind, seven, part_of, run, looks, meet, or_needs, read_segments}
use Rattle.disk_definitions.specs.Missing.{first_missing, unless_missing}
use Rattle.plan_laws.specs.Looking.{AllSayTheSame, GoesOn, MeetsItsValue, GoesByWhatItLooksAt, SegmentsAreLookedAt}

pub run-bind : {A B : Type 0} (p : Ask A) (f : A → Ask B) (s : Store) → run (bind p f) s ≡ run (f (run p s)) s
run-bind (Got a) f s = refl
run-bind (ReadInode i next) f s = run-bind (next (s.inode i)) f s
run-bind (ReadDirectory k part next) f s = run-bind (next (seven s.place k part)) f s
run-bind (ReadSegment k next) f s = run-bind next f s
run-bind (ReadBytes k part next) f s = run-bind (next (part_of s.byte k part)) f s
run-bind (ReadLarge g part next) f s = run-bind (next (part_of s.large_byte g part)) f s

pub looks-bind : {A B : Type 0} (p : Ask A) (f : A → Ask B) (s : Store) → looks (bind p f) s ≡ looks p s ++ looks (f (run p s)) s
looks-bind (Got a) f s = refl
looks-bind (ReadInode i next) f s = ap (λ x. InodeAt i ∷ x) (looks-bind (next (s.inode i)) f s)
looks-bind (ReadDirectory k part next) f s = ap (λ x. DirectoryAt k part ∷ x) (looks-bind (next (seven s.place k part)) f s)
looks-bind (ReadSegment k next) f s = ap (λ x. SegmentAt k ∷ x) (looks-bind next f s)
looks-bind (ReadBytes k part next) f s = ap (λ x. BytesAt k part ∷ x) (looks-bind (next (part_of s.byte k part)) f s)
looks-bind (ReadLarge g part next) f s = ap (λ x. LargeAt g part ∷ x) (looks-bind (next (part_of s.large_byte g part)) f s)

pub goes_on : {A B : Type 0} → GoesOn A B
goes_on p f s = (run-bind p f s, looks-bind p f s)

-- one sector, and then the others
pub step : {X A : Type 0} (sector : Sector) (o : Option X) (v : X) (f : X → Met A) (xs : Option Sector) (a : A) → ((x : X) → o ≡ Some x → x ≡ v) → f v ≡ unless_missing xs a →
    or_needs sector o f ≡ unless_missing (if is_some o then xs else Some sector) a
step sector None v f xs a is e = refl
step sector (Some x) v f xs a is e = ap f (is x refl) ∙ e

pub held : {A : Type 0} (k : ℕ) (b : Bool) (m : Met A) (xs : Option Sector) (a : A) → m ≡ unless_missing xs a → (if b then m else Needs (SegmentAt k)) ≡ unless_missing (if b then xs else Some (SegmentAt k)) a
held k true m xs a e = e
held k false m xs a e = refl

pub meets : {A : Type 0} (p : Ask A) (c : AtHand) (s : Store) → IsOf c s → meet p c ≡ unless_missing (first_missing c (looks p s)) (run p s)
meets (Got a) c s of = refl
meets (ReadInode i next) c s of =
    step (InodeAt i) (c.inode i) (s.inode i) (λ x. meet (next x) c) (first_missing c (looks (next (s.inode i)) s)) (run (next (s.inode i)) s) (of.inodes i) (meets (next (s.inode i)) c s of)
meets (ReadDirectory k part next) c s of =
    let v = seven s.place k part in
    step (DirectoryAt k part) (c.directory k part) v (λ x. meet (next x) c) (first_missing c (looks (next v) s)) (run (next v) s) (of.directories k part) (meets (next v) c s of)
meets (ReadSegment k next) c s of = held k (c.segment k) (meet next c) (first_missing c (looks next s)) (run next s) (meets next c s of)
meets (ReadBytes k part next) c s of =
    let v = part_of s.byte k part in
    step (BytesAt k part) (c.bytes k part) v (λ x. meet (next x) c) (first_missing c (looks (next v) s)) (run (next v) s) (of.bytes k part) (meets (next v) c s of)
meets (ReadLarge g part next) c s of =
    let v = part_of s.large_byte g part in
    step (LargeAt g part) (c.large g part) v (λ x. meet (next x) c) (first_missing c (looks (next v) s)) (run (next v) s) (of.larges g part) (meets (next v) c s of)

pub meets_its_value : {A : Type 0} → MeetsItsValue A
meets_its_value p c s of = meets p c s of

-- what is met is the value over the disk
pub met : {A : Type 0} (p : Ask A) (c : AtHand) (s : Store) (a : A) → IsOf c s → meet p c ≡ Has a → run p s ≡ a
met p c s a of e = go (first_missing c (looks p s)) (run p s) (sym (meets p c s of) ∙ e)
  where
    go : {A : Type 0} {a : A} (o : Option Sector) (b : A) → unless_missing o b ≡ Has a → b ≡ a
    go None b e = cc
    go (Some x) b e = absurd (cc)

pub framed : {A : Type 0} (p : Ask A) (s t : Store) → AllSayTheSame s t (looks p s) → (run p t ≡ run p s) × (looks p t ≡ looks p s)
framed (Got b) s t h = (refl, refl)
framed (ReadInode i next) s t h = let r = framed (next (s.inode i)) s t h.1 in rw h.0 (r.0, ap (λ x. InodeAt i ∷ x) r.1)
framed (ReadDirectory k part next) s t h = let r = framed (next (seven s.place k part)) s t h.1 in rw h.0 (r.0, ap (λ x. DirectoryAt k part ∷ x) r.1)
framed (ReadSegment k next) s t h = let r = framed next s t h.1 in (r.0, ap (λ x. SegmentAt k ∷ x) r.1)
framed (ReadBytes k part next) s t h = let r = framed (next (part_of s.byte k part)) s t h.1 in rw h.0 (r.0, ap (λ x. BytesAt k part ∷ x) r.1)
framed (ReadLarge g part next) s t h = let r = framed (next (part_of s.large_byte g part)) s t h.1 in rw h.0 (r.0, ap (λ x. LargeAt g part ∷ x) r.1)

pub goes_by_what_it_looks_at : {A : Type 0} → GoesByWhatItLooksAt A
goes_by_what_it_looks_at p s t h = framed p s t h

pub run-segments : {A : Type 0} (ks : List ℕ) (p : Ask A) (s : Store) → run (read_segments ks p) s ≡ run p s
run-segments [] p s = refl
run-segments (k ∷ ks) p s = run-segments ks p s

pub looks-segments : {A : Type 0} (ks : List ℕ) (p : Ask A) (s : Store) → looks (read_segments ks p) s ≡ map SegmentAt ks ++ looks p s
looks-segments [] p s = refl
looks-segments (k ∷ ks) p s = ap (λ x. SegmentAt k ∷ x) (looks-segments ks p s)

pub segments_are_looked_at : {A : Type 0} → SegmentsAreLookedAt A
segments_are_looked_at ks p s = (run-segments ks p s, looks-segments ks p s)
