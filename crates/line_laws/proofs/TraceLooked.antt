-- What is at hand agrees at the sectors of a trace where it agrees at the looks; and where these are inside the disk, so are those.
use Rattle.std.proofs.Common.{◌≡◌, ℕ, Bool, true, false, cond, if◌then◌else◌, Option, Some, None, List, [], ◌∷◌, refl, sym, subst}
use Rattle.std.proofs.lemmas.List.Sums.{take_while-cons}
use Rattle.std.specs.List.{take_while}
use Rattle.disk_definitions.specs.Store.{Store}
use Rattle.disk_definitions.specs.Ask.{Sector, InodeAt, DirectoryAt, SegmentAt, BytesAt, LargeAt, Ask, Got, ReadInode, ReadDirectory, ReadSegment, ReadBytes, ReadLarge, AtHand, seven, part_of, looks}
use Rattle.plan_laws.specs.Inside.{AreInside, AgreesAt, AgreesWhereAll}
use Rattle.disk_definitions.specs.Traces.{Traced, traced, needs, behind, by_said}

module _ (c : AtHand) (s : Store) where
  said_agrees : {X A : Type 0} (x : Sector) (o : Option X) (v : X) (g : X → Traced A) → AgreesAt c s x → ((z : X) → o ≡ Some z → z ≡ v) → AgreesWhereAll c s (g v).looked → AgreesWhereAll c s (by_said x o g).looked
  said_agrees x None v g at is rest = tt
  said_agrees x (Some z) v g at is rest = (at, subst (λ z. AgreesWhereAll c s (g z).looked) (sym (is z refl)) rest)

  segment_agrees : {A : Type 0} (x : Sector) (b : Bool) (t : Traced A) → AgreesAt c s x → AgreesWhereAll c s t.looked → AgreesWhereAll c s (if b then behind x t else needs x).looked
  segment_agrees x true t at rest = (at, rest)
  segment_agrees x false t at rest = tt

  pub looked_agrees : {A : Type 0} (p : Ask A) → AgreesWhereAll c s (looks p s) → AgreesWhereAll c s (traced p c).looked
  looked_agrees (Got a) agree = tt
  looked_agrees (ReadInode i next) agree =
      said_agrees (InodeAt i) (c.inode i) (s.inode i) (λ x. traced (next x) c) agree.0 agree.0 (looked_agrees (next (s.inode i)) agree.1)
  looked_agrees (ReadDirectory k part next) agree =
      let v = seven s.place k part in
      said_agrees (DirectoryAt k part) (c.directory k part) v (λ x. traced (next x) c) agree.0 agree.0 (looked_agrees (next v) agree.1)
  looked_agrees (ReadSegment k next) agree = segment_agrees (SegmentAt k) (c.segment k) (traced next c) tt (looked_agrees next agree.1)
  looked_agrees (ReadBytes k part next) agree =
      let v = part_of s.byte k part in
      said_agrees (BytesAt k part) (c.bytes k part) v (λ x. traced (next x) c) agree.0 agree.0 (looked_agrees (next v) agree.1)
  looked_agrees (ReadLarge g part next) agree =
      let v = part_of s.large_byte g part in
      said_agrees (LargeAt g part) (c.large g part) v (λ x. traced (next x) c) agree.0 agree.0 (looked_agrees (next v) agree.1)

-- the first of some sectors that are inside
pub inside_first : (segments : ℕ) (test : Sector → Bool) (xs : List Sector) → AreInside segments xs → AreInside segments (take_while test xs)
inside_first segments test [] a = tt
inside_first segments test (x ∷ xs) a = subst (AreInside segments) (sym (take_while-cons test x xs)) (go (inside_first segments test xs a.1) (test x))
  where
    go : AreInside segments (take_while test xs) → (b : Bool) → AreInside segments (cond b (x ∷ take_while test xs) [])
    go rest true = (a.0, rest)
    go rest false = tt
