-- Which looks a trace is of, by induction on the computation.
use Rattle.std.proofs.Common.{◌≡◌, Bool, true, false, cond, if◌then◌else◌, ⊎_elim, Option, Some, None, List, [], ◌∷◌, ◌++◌, map, is_some, refl, sym, ◌∙◌, ap, subst}
use Rattle.std.proofs.lemmas.List.Sums.{take_while-cons}
use Rattle.std.specs.List.{Contains, take_while}
use Rattle.disk_definitions.specs.Store.{Store}
use Rattle.disk_definitions.specs.Ask.{Sector, InodeAt, DirectoryAt, SegmentAt, BytesAt, LargeAt, Ask, Got, ReadInode, ReadDirectory, ReadSegment, ReadBytes, ReadLarge, AtHand, Met, bind, seven, part_of, looks, meet, or_needs, read_segments}
use Rattle.disk_definitions.specs.Ask.Met.{Needs, Has}
use Rattle.disk_definitions.specs.Missing.{is_at_hand}
use Rattle.plan_laws.proofs.Covering.{has_head, has_more, not_in_none, has_cases}
use Rattle.plan_laws.specs.Inside.{AgreesAt, AgreesWhereAll}
use Rattle.disk_definitions.specs.Traces.{Traced, traced, needs, behind, by_said, on_from, then_traced, TracesGoOn, TracesMeet}
use Rattle.plan_laws.specs.Laws.{SegmentsAreTraced, TracedIsAtHand, TracesFollowLooks}

-- ---- segments

segment_first : {A : Type 0} (x : Sector) (b : Bool) (t u : Traced A) → b ≡ true → t ≡ u → (if b then behind x t else needs x) ≡ behind x u
segment_first x true t u e f = ap (behind x) f
segment_first x false t u e f = absurd (cc)

pub segments_are_traced : {A : Type 0} → SegmentsAreTraced A
segments_are_traced [] p c there = refl
segments_are_traced (k ∷ ks) p c there =
    segment_first (SegmentAt k) (c.segment k) (traced (read_segments ks p) c) (record { looked = map SegmentAt ks ++ (traced p c).looked; met = (traced p c).met }) (there k (has_head k ks))
    (segments_are_traced ks p c (λ other d. there other (has_more k other ks d)))

-- ---- at hand

module _ (c : AtHand) (x : Sector) where
  -- a trace says so of this sector
  abbrev Sound : {A : Type 0} → Traced A → Type 0
  Sound t = (Contains t.looked x → is_at_hand c x ≡ true) × (t.met ≡ Needs x → is_at_hand c x ≡ false)

  needs_sound : {A : Type 0} (y : Sector) → is_at_hand c y ≡ false → Sound {A = A} (needs y)
  needs_sound y e = (λ d. absurd (not_in_none x d), λ q. (let same : y ≡ x = cc in subst (λ z. is_at_hand c z ≡ false) same e))

  behind_sound : {A : Type 0} (y : Sector) (t : Traced A) → is_at_hand c y ≡ true → Sound t → Sound (behind y t)
  behind_sound y t e s = (λ d. ⊎_elim (λ q. subst (λ z. is_at_hand c z ≡ true) q e) s.0 (has_cases y x t.looked d), s.1)

  said_sound : {X A : Type 0} (y : Sector) (o : Option X) (g : X → Traced A) → is_at_hand c y ≡ is_some o → ((z : X) → Sound (g z)) → Sound (by_said y o g)
  said_sound y None g e f = needs_sound y e
  said_sound y (Some z) g e f = behind_sound y (g z) e (f z)

  segment_sound : {A : Type 0} (y : Sector) (b : Bool) (t : Traced A) → is_at_hand c y ≡ b → Sound t → Sound (if b then behind y t else needs y)
  segment_sound y true t e s = behind_sound y t e s
  segment_sound y false t e s = needs_sound y e

  sound : {A : Type 0} (p : Ask A) → Sound (traced p c)
  sound (Got a) = (λ d. absurd (not_in_none x d), λ q. absurd (cc))
  sound (ReadInode i next) = said_sound (InodeAt i) (c.inode i) (λ z. traced (next z) c) refl (λ z. sound (next z))
  sound (ReadDirectory k part next) = said_sound (DirectoryAt k part) (c.directory k part) (λ z. traced (next z) c) refl (λ z. sound (next z))
  sound (ReadSegment k next) = segment_sound (SegmentAt k) (c.segment k) (traced next c) refl (sound next)
  sound (ReadBytes k part next) = said_sound (BytesAt k part) (c.bytes k part) (λ z. traced (next z) c) refl (λ z. sound (next z))
  sound (ReadLarge g part next) = said_sound (LargeAt g part) (c.large g part) (λ z. traced (next z) c) refl (λ z. sound (next z))

pub traced_is_at_hand : {A : Type 0} → TracedIsAtHand A
traced_is_at_hand p c x = sound c x p

-- ---- over a disk

module _ (c : AtHand) where
  abbrev there : Sector → Bool
  there = is_at_hand c

  missing : (x : Sector) (xs : List Sector) → there x ≡ false → [] ≡ take_while there (x ∷ xs)
  missing x xs e = sym (take_while-cons there x xs ∙ ap (λ b. cond b (x ∷ take_while there xs) []) e)

  passing : (x : Sector) (ys xs : List Sector) → there x ≡ true → ys ≡ take_while there xs → x ∷ ys ≡ take_while there (x ∷ xs)
  passing x ys xs e f = ap (λ l. x ∷ l) f ∙ sym (take_while-cons there x xs ∙ ap (λ b. cond b (x ∷ take_while there xs) []) e)

  said_follows : {X A : Type 0} (x : Sector) (o : Option X) (v : X) (g : X → Traced A) (p : X → Ask A) (s : Store) → there x ≡ is_some o → (AgreesAt c s x → (z : X) → o ≡ Some z → z ≡ v) →
      ((z : X) → AgreesWhereAll c s (g z).looked → (g z).looked ≡ take_while there (looks (p z) s)) → AgreesWhereAll c s (by_said x o g).looked → (by_said x o g).looked ≡ take_while there (x ∷ looks (p v) s)
  said_follows x None v g p s e is f agree = missing x (looks (p v) s) e
  said_follows x (Some z) v g p s e is f agree =
      passing x (g z).looked (looks (p v) s) e (f z agree.1 ∙ ap (λ z. take_while there (looks (p z) s)) (is agree.0 z refl))

  segment_follows : {A : Type 0} (x : Sector) (b : Bool) (t : Traced A) (s : Store) (xs : List Sector) → there x ≡ b → (AgreesWhereAll c s t.looked → t.looked ≡ take_while there xs) →
      AgreesWhereAll c s (if b then behind x t else needs x).looked → (if b then behind x t else needs x).looked ≡ take_while there (x ∷ xs)
  segment_follows x true t s xs e f agree = passing x t.looked xs e (f agree.1)
  segment_follows x false t s xs e f agree = missing x xs e

  follows : {A : Type 0} (p : Ask A) (s : Store) → AgreesWhereAll c s (traced p c).looked → (traced p c).looked ≡ take_while there (looks p s)
  follows (Got a) s agree = refl
  follows (ReadInode i next) s agree = said_follows (InodeAt i) (c.inode i) (s.inode i) (λ x. traced (next x) c) next s refl (λ a. a) (λ z a. follows (next z) s a) agree
  follows (ReadDirectory k part next) s agree = said_follows (DirectoryAt k part) (c.directory k part) (seven s.place k part) (λ x. traced (next x) c) next s refl (λ a. a) (λ z a. follows (next z) s a) agree
  follows (ReadSegment k next) s agree = segment_follows (SegmentAt k) (c.segment k) (traced next c) s (looks next s) refl (follows next s) agree
  follows (ReadBytes k part next) s agree = said_follows (BytesAt k part) (c.bytes k part) (part_of s.byte k part) (λ x. traced (next x) c) next s refl (λ a. a) (λ z a. follows (next z) s a) agree
  follows (ReadLarge g part next) s agree = said_follows (LargeAt g part) (c.large g part) (part_of s.large_byte g part) (λ x. traced (next x) c) next s refl (λ a. a) (λ z a. follows (next z) s a) agree

pub traces_follow_looks : {A : Type 0} → TracesFollowLooks A
traces_follow_looks p c s agree = follows c p s agree
