-- The segments of a hint, with the bitmaps of a disk, are at hand of this disk.
use Rattle.std.proofs.Common.{ℕ, zero, suc, ◌≡◌, ◌<◌, ◌*◌, ◌/◌, ◌%◌, ◌↔◌, Bool, true, false, nat_lt, if◌then◌else◌, Option, Some, None, List, [], ◌∷◌, is_some, refl, sym, ap, ◌∙◌, subst, arith}
use Rattle.std.proofs.lemmas.Bool.{ltb-true, lt-ltb, eqb-true}
use Rattle.std.proofs.lemmas.List.Folds.{list_all-append}
use Rattle.std.specs.BTreeMap.{is_at}
use Rattle.std.specs.List.{cons_option, list_all, Contains}
use Rattle.std.specs.Option.{option_map}
use Rattle.std.specs.Ordering.{nat_cmp}
use Rattle.frang_base.specs.declared.bitmap.Bitmap.{Bitmap}
use Rattle.disk_definitions.specs.declared.region.Region.TheVariants as region
use Rattle.disk_definitions.specs.Bitmaps.{inode_bit, block_state}
use Rattle.disk_definitions.specs.Directories.{directory_in}
use Rattle.disk_definitions.specs.Regions.{sector_of}
use Rattle.sector_bytes.specs.Blocks.{zero_block}
use Rattle.sector_bytes.specs.Sectors.{Sectors}
use Rattle.tree_definitions.specs.Numbers.{below}
use Rattle.tree_definitions.proofs.Pairs.{birth_exact, tie}
use Rattle.disk_definitions.specs.Store.{Store, segment_at, entry_in, use_by}
use Rattle.disk_definitions.specs.Store.Use.{Fresh}
use Rattle.disk_definitions.specs.Held.{Segments, bitmap_of, inode_in, state_in, large_in}
use Rattle.disk_definitions.specs.Picks.{is_in_state}
use Rattle.disk_definitions.proofs.PickLaws.{held_there}
use Rattle.disk_definitions.specs.Meets.{IsHandOf}
use Rattle.plan_laws.proofs.Covering.{has_head, has_more}
use Rattle.line_laws.proofs.Zeroed.{no_entry, each_below}
use Rattle.line_laws.proofs.OfDisk.{some_is}
use Rattle.line_histories.specs.LinePlans.{held_at, held_of, hand_on, store_on}
use Rattle.line_histories.specs.Guards.{IsClear}

pub all_below : (f : ℕ → Bool) (n : ℕ) → ((p : ℕ) → p < n → f p ≡ true) → list_all f (below n) ≡ true
all_below f zero h = refl
all_below f (suc n) h = list_all-append f (below n) (n ∷ []) ∙ rw (all_below f n (λ p l. h p (omega arith)), h n (omega arith)) refl

module _ (segments : ℕ) (disk : Sectors) where
  -- a segment of the hint
  one_held : (k : ℕ) (v : ℕ × Bitmap) → held_at segments disk k ≡ Some v → (v.0 ≡ k) × (k < segments) × (segment_at disk k ≡ Some v.1)
  one_held k v e = go (nat_lt k segments) refl (segment_at disk k) refl e
    where
      go : (b : Bool) → nat_lt k segments ≡ b → (o : Option Bitmap) → segment_at disk k ≡ o → (if b then option_map (λ x. (k, x)) o else None) ≡ Some v → (v.0 ≡ k) × (k < segments) × (segment_at disk k ≡ Some v.1)
      go true q (Some x) i e = let z : (k, x) ≡ v = cc in (sym (ap (λ y. y.0) z), ltb-true k segments q, i ∙ ap (λ y. Some y.1) z)
      go true q None i e = absurd (cc)
      go false q o i e = absurd (cc)

  -- what is held is one of the hint, and has the disk's bitmap
  pub held_is : (hint : List ℕ) (k : ℕ) (x : Bitmap) → bitmap_of (held_of segments disk hint) k ≡ Some x → Contains hint k × (k < segments) × (segment_at disk k ≡ Some x)
  held_is [] k x e = absurd (cc)
  held_is (j ∷ hint) k x e = go (held_is hint k x) (held_at segments disk j) refl e
    where
      go : (bitmap_of (held_of segments disk hint) k ≡ Some x → Contains hint k × (k < segments) × (segment_at disk k ≡ Some x)) → (o : Option (ℕ × Bitmap)) → held_at segments disk j ≡ o →
          bitmap_of (cons_option o (held_of segments disk hint)) k ≡ Some x → Contains (j ∷ hint) k × (k < segments) × (segment_at disk k ≡ Some x)
      go rest None i q = let r = rest q in (has_more j k hint r.0, r.1, r.2)
      go rest (Some v) i q = at (is_at (nat_cmp k) v.0) refl q
        where
          at : (b : Bool) → is_at (nat_cmp k) v.0 ≡ b → (if b then Some v.1 else bitmap_of (held_of segments disk hint) k) ≡ Some x → Contains (j ∷ hint) k × (k < segments) × (segment_at disk k ≡ Some x)
          at true a r =
              let h = one_held j v i in
              let same : k ≡ j = tie nat_cmp birth_exact k v.0 a ∙ h.0 in
              (subst (Contains (j ∷ hint)) (sym same) (has_head j hint), subst (λ m. m < segments) (sym same) h.1, ap (segment_at disk) same ∙ h.2 ∙ r)
          at false a r = let t = rest r in (has_more j k hint t.0, t.1, t.2)

  pub held_asked : (hint : List ℕ) (k : ℕ) → is_some (bitmap_of (held_of segments disk hint) k) ≡ true → Contains hint k × (k < segments)
  held_asked hint k e = go (bitmap_of (held_of segments disk hint) k) refl e
    where
      go : (o : Option Bitmap) → bitmap_of (held_of segments disk hint) k ≡ o → is_some o ≡ true → Contains hint k × (k < segments)
      go None q i = absurd (cc)
      go (Some x) q i = let r = held_is hint k x q in (r.0, r.1)

-- ---- what is at hand of a disk

module _ (segments : ℕ) (disk : Sectors) (held : Segments) (is : (k : ℕ) (x : Bitmap) → bitmap_of held k ≡ Some x → (k < segments) × (segment_at disk k ≡ Some x)) where
  abbrev s : Store
  s = store_on segments disk

  bit_is : (i : ℕ) (used : Bool) → inode_in held i ≡ Some used → s.bit i ≡ used
  bit_is i used e =
      let x = held_there (λ (x : Bitmap). inode_bit x (i % 64)) (bitmap_of held (i / 64)) used e in
      let h = is (i / 64) x.0 x.1 in
      let l : i / 64 < segments = h.0 in
      let inside : i < 64 * segments = omega arith in
      rw (lt-ltb i (64 * segments) inside, h.1) (some_is (λ (x : Bitmap). inode_bit x (i % 64)) (bitmap_of held (i / 64)) x.0 used x.1 e)

  use_is : (k state : ℕ) → state_in held k ≡ Some state → (k < 1024 * segments) × (s.use_of k ≡ use_by state)
  use_is k state e =
      let x = held_there (λ (x : Bitmap). block_state x (k % 1024)) (bitmap_of held (k / 1024)) state e in
      let h = is (k / 1024) x.0 x.1 in
      let l : k / 1024 < segments = h.0 in
      let inside : k < 1024 * segments = omega arith in
      (inside, rw (lt-ltb k (1024 * segments) inside, h.1) (ap use_by (some_is (λ (x : Bitmap). block_state x (k % 1024)) (bitmap_of held (k / 1024)) x.0 state x.1 e)))

  large_is : (g : ℕ) (used : Bool) → large_in held g ≡ Some used → s.large_bit g ≡ used
  large_is g used e =
      let x = held_there (λ (x : Bitmap). x.large) (bitmap_of held g) used e in
      let h = is g x.0 x.1 in
      rw (lt-ltb g segments h.0, h.1) (some_is (λ (x : Bitmap). x.large) (bitmap_of held g) x.0 used x.1 e)

  some_held : (k : ℕ) → is_some (bitmap_of held k) ≡ true → k < segments
  some_held k e = go (bitmap_of held k) refl e
    where
      go : (o : Option Bitmap) → bitmap_of held k ≡ o → is_some o ≡ true → k < segments
      go None q i = absurd (cc)
      go (Some x) q i = (is k x q).0

  -- a block in the first state is fresh
  pub fresh_is : (k : ℕ) → is_in_state 0 (state_in held k) ≡ true → (k < 1024 * segments) × (s.use_of k ≡ Fresh)
  fresh_is k e = go (state_in held k) refl e
    where
      go : (o : Option ℕ) → state_in held k ≡ o → is_in_state 0 o ≡ true → (k < 1024 * segments) × (s.use_of k ≡ Fresh)
      go None q i = absurd (cc)
      go (Some v) q i = let r = use_is k v q in (r.0, r.1 ∙ ap use_by (eqb-true v 0 i))

  pub hand_is : (all : Bool) (zeroed : ℕ → Bool) → ((all ≡ true) ↔ ((k : ℕ) → k < segments → is_some (bitmap_of held k) ≡ true)) → ((k p : ℕ) → zeroed k ≡ true → p < 56 → s.place k p ≡ None) →
      IsHandOf (record { held = held; all = all; zeroed = zeroed }) s segments
  hand_is all zeroed exactly clear = record {
    within = some_held;
    all = exactly;
    bits = bit_is;
    states = λ k state e. (use_is k state e).1;
    larges = large_is;
    zeroed = clear;
  }

-- ---- the segments of a hint

module _ (segments : ℕ) (disk : Sectors) (hint : List ℕ) where
  abbrev held : Segments
  held = held_of segments disk hint

  hint_is : (k : ℕ) (x : Bitmap) → bitmap_of held k ≡ Some x → (k < segments) × (segment_at disk k ≡ Some x)
  hint_is k x e = let r = held_is segments disk hint k x e in (r.1, r.2)

  pub hint_fresh : (k : ℕ) → is_in_state 0 (state_in held k) ≡ true → (k < 1024 * segments) × ((store_on segments disk).use_of k ≡ Fresh)
  hint_fresh k e = fresh_is segments disk held hint_is k e

  zero_place : IsClear segments disk → (k p : ℕ) → is_in_state 0 (state_in held k) ≡ true → p < 56 → (store_on segments disk).place k p ≡ None
  zero_place clear k p e l =
      let f = hint_fresh k e in
      let z : disk (sector_of (region.Small k (p / 7))) ≡ zero_block = clear k (p / 7) f.0 (omega arith) f.1 in
      rw (lt-ltb k (1024 * segments) f.0) (ap (λ block. entry_in (directory_in block) (p % 7)) z ∙ no_entry (p % 7) (omega arith))

  pub is_hand : IsClear segments disk → IsHandOf (hand_on segments disk hint) (store_on segments disk) segments
  is_hand clear = hand_is segments disk held hint_is (list_all (λ k. is_some (bitmap_of held k)) (below segments)) (λ k. is_in_state 0 (state_in held k))
      (λ e k l. each_below (λ k. is_some (bitmap_of held k)) segments e k l, λ h. all_below (λ k. is_some (bitmap_of held k)) segments h) (zero_place clear)
