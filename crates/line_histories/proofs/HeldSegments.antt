-- Held segments whose numbers ascend, as the segments of a hint.
use Rattle.std.proofs.Common.{ℕ, ◌≡◌, ◌<◌, ⊎_elim, Bool, true, false, if◌then◌else◌, Some, [], ◌∷◌, refl, ap, ap₂, ◌∙◌, subst}
use Rattle.std.specs.BTreeMap.{is_at}
use Rattle.std.specs.List.{cons_option, AllByRecursion, Contains}
use Rattle.std.specs.List.Sorted.{IsStrictlySortedBy}
use Rattle.std.specs.Map.{keys_of}
use Rattle.std.specs.Ordering.{nat_cmp}
use Rattle.std.specs.declared.cmp.Ordering.TheVariants.{Less, Equal}
use Rattle.std.proofs.lemmas.Bool.{lt-ltb}
use Rattle.frang_base.specs.declared.bitmap.Bitmap.{Bitmap}
use Rattle.sector_bytes.specs.SectorMaps.{Ascend}
use Rattle.sector_bytes.specs.Sectors.{Sectors}
use Rattle.tree_definitions.proofs.Pairs.{birth_exact, tie, self}
use Rattle.disk_definitions.specs.Store.{segment_at}
use Rattle.disk_definitions.specs.Held.{Segments, bitmap_of}
use Rattle.plan_laws.proofs.Covering.{has_head, has_more, has_cases, not_in_none}
use Rattle.line_histories.specs.LinePlans.{held_at, held_of, are_segments}

-- a key that is above another isn't it
apart : (a b : ℕ) → nat_cmp a b ≡ Less → is_at (nat_cmp b) a ≡ false
apart a b e = go (is_at (nat_cmp b) a) refl
  where
    go : (c : Bool) → is_at (nat_cmp b) a ≡ c → c ≡ false
    go true q = absurd (let same : b ≡ a = tie nat_cmp birth_exact b a q in let z : nat_cmp a a ≡ Less = subst (λ k. nat_cmp a k ≡ Less) same e in let y : nat_cmp a a ≡ Equal = birth_exact.own a in cc)
    go false q = refl

above : (k : ℕ) (held : Segments) (e : ℕ × Bitmap) → AllByRecursion (λ key. nat_cmp k key ≡ Less) (keys_of held) → Contains held e → nat_cmp k e.0 ≡ Less
above k [] e a c = absurd (not_in_none e c)
above k (h ∷ held) e a c = ⊎_elim (λ q. subst (λ (z : ℕ × Bitmap). nat_cmp k z.0 ≡ Less) q a.0) (λ i. above k held e a.1 i) (has_cases h e held c)

-- the bitmap of a segment that is held is the one that stands there
found : (held : Segments) → Ascend held → (e : ℕ × Bitmap) → Contains held e → bitmap_of held e.0 ≡ Some e.1
unfolding IsStrictlySortedBy
found [] sorted e c = absurd (not_in_none e c)
found (h ∷ held) sorted e c = ⊎_elim
    (λ q. subst (λ (z : ℕ × Bitmap). bitmap_of (h ∷ held) z.0 ≡ Some z.1) q (ap (λ b. if b then Some h.1 else bitmap_of held h.0) (self nat_cmp birth_exact h.0)))
    (λ i. ap (λ b. if b then Some h.1 else bitmap_of held e.0) (apart h.0 e.0 (above h.0 held e sorted.0 i)) ∙ found held sorted.1 e i)
    (has_cases h e held c)

module _ (segments : ℕ) (disk : Sectors) where
  -- each is one of the disk's, with the disk's bitmap
  abbrev AreThere : Segments → Type 0
  AreThere held = (e : ℕ × Bitmap) → Contains held e → (e.0 < segments) × (segment_at disk e.0 ≡ Some e.1)

  rest_there : (h : ℕ × Bitmap) (held : Segments) → AreThere (h ∷ held) → AreThere held
  rest_there h held all e c = all e (has_more h e held c)

  pub there : (held : Segments) → Ascend held → ((k : ℕ) (x : Bitmap) → bitmap_of held k ≡ Some x → (k < segments) × (segment_at disk k ≡ Some x)) → AreThere held
  there held sorted is e c = is e.0 e.1 (found held sorted e c)

  pub hinted : (held : Segments) → AreThere held → held_of segments disk (keys_of held) ≡ held
  hinted [] all = refl
  hinted (h ∷ held) all = ap₂ cons_option one (hinted held (rest_there h held all))
    where
      one : held_at segments disk h.0 ≡ Some h
      one = let r = all h (has_head h held) in rw (lt-ltb h.0 segments r.0, r.1) refl

  pub below : (held : Segments) → AreThere held → are_segments segments (keys_of held) ≡ true
  below [] all = refl
  below (h ∷ held) all = let r = all h (has_head h held) in rw (lt-ltb h.0 segments r.0, below held (rest_there h held all)) refl
