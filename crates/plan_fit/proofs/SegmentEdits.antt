-- An edit of a segment's bits and uses: what the sector then says.
use Rattle.std.proofs.Common.{◌≡◌, ◌≢◌, ℕ, ◌*◌, ◌/◌, ◌%◌, ◌^◌, ◌<◌, ◌≤◌, Bool, true, false, ◌&&◌, ◌==◌, nat_lt, if◌then◌else◌, Option, Some, is_some, List, length, refl, sym, ap, ◌∙◌, inl, inr, arith, bit_and, bit_or, w64}
use Rattle.std.specs.Int.{bit_not}
use Rattle.std.proofs.Math.ListN.{length-set}
use Rattle.std.proofs.lemmas.Bool.{cases_eq, ltb-true, ne_eqb, eq-eqb, lt-ltb}
use Rattle.std.proofs.lemmas.Nat.{or_lt, pow_below, and_le_l}
use Rattle.frang_base.specs.declared.bitmap.Bitmap.{Bitmap}
use Rattle.frang_base.specs.Functions.{put}
use Rattle.disk_definitions.specs.declared.region.Region.TheVariants as region
use Rattle.disk_definitions.specs.Regions.{sector_of}
use Rattle.disk_definitions.specs.Bitmaps.{bitmap_bytes, bitmap_fields, bitmap_in, inode_bit, block_state}
use Rattle.disk_definitions.proofs.BitmapLaws.{bitmap_read, bitmap_back}
use Rattle.disk_definitions.proofs.Chosen.{chosen, chosen_same, chosen_other}
use Rattle.disk_definitions.specs.Taken.{with_inode, with_state, with_large}
use Rattle.disk_definitions.proofs.PickDigits.{state_replaced, inode_marked}
use Rattle.sector_bytes.specs.Sectors.{Sectors}
use Rattle.disk_definitions.specs.Store.{Use, store_of, segment_at, bit_in, use_by, use_in, large_in}
use Rattle.disk_definitions.specs.Store.Use.{Fresh, Bytes, Empty, Entries}
use Rattle.disk_definitions.specs.Written.{state_of}
use Rattle.plan_fit.specs.Says.{SegmentsSay}
use Rattle.plan_fit.proofs.Grammar.{IsStorableBitmap, bitmap_storable, bitmap_is}
use Rattle.plan_fit.proofs.Kept.{if_same, and_same}

-- a bitmap that was changed and written reads back
pub changed_back : (block : List ℕ) (x : Bitmap) (f : Bitmap → Bitmap) → bitmap_in block ≡ Some x → ((y : Bitmap) → IsStorableBitmap y → IsStorableBitmap (f y)) → bitmap_in (bitmap_bytes (f (bitmap_fields block))) ≡ Some (f x)
changed_back block x f h keeps =
    let s = keeps x (bitmap_storable block x h) in
    ap (λ (y : Bitmap). bitmap_in (bitmap_bytes (f y))) (ap bitmap_fields (bitmap_read block x h) ∙ bitmap_is block x h) ∙ bitmap_back (f x) s.version s.inodes s.states

-- each change keeps the fields filled
pub inode_stored : (j : ℕ) (used : Bool) → j < 64 → (x : Bitmap) → IsStorableBitmap x → IsStorableBitmap (with_inode x j used)
inode_stored j used l x s = record { version = s.version; inodes = bits used; states = s.states }
  where
    bits : (used : Bool) → (if used then bit_or x.inodes (2 ^ j) else bit_and x.inodes (bit_not w64 (2 ^ j))) < 2 ^ 64
    bits true = or_lt 64 x.inodes (2 ^ j) s.inodes (pow_below j 64 l)
    bits false = let le : bit_and x.inodes (bit_not w64 (2 ^ j)) ≤ x.inodes = and_le_l x.inodes (bit_not w64 (2 ^ j)) in let small = s.inodes in omega arith

pub state_stored : (j state : ℕ) (x : Bitmap) → IsStorableBitmap x → IsStorableBitmap (with_state x j state)
state_stored j state x s = record { version = s.version; inodes = s.inodes; states = simp length-set s.states }

pub large_stored : (used : Bool) (x : Bitmap) → IsStorableBitmap x → IsStorableBitmap (with_large x used)
large_stored used x s = record { version = s.version; inodes = s.inodes; states = s.states }

-- the numbers of uses
pub use_back : (u : Use) → use_by (state_of u) ≡ u
use_back Fresh = refl
use_back Bytes = refl
use_back Empty = refl
use_back Entries = refl

pub state_below : (u : Use) → state_of u < 4
state_below Fresh = omega arith
state_below Bytes = omega arith
state_below Empty = omega arith
state_below Entries = omega arith

-- a segment has another bitmap y in place of x, and the others stay
pub record OneChanged (segments : ℕ) (a b : Sectors) (q : ℕ) (x y : Bitmap) : Type 0 where
  pub within : q < segments
  pub was : segment_at a q ≡ Some x
  pub is : segment_at b q ≡ Some y
  pub others : (k : ℕ) → k < segments → k ≢ q → b (sector_of (region.Segment k)) ≡ a (sector_of (region.Segment k))

-- what the new bitmap says, and that all else stays
pub record ChangesTo (q : ℕ) (y : Bitmap) (bit : ℕ → Bool) (use_of : ℕ → Use) (large_bit : ℕ → Bool) (bit' : ℕ → Bool) (use' : ℕ → Use) (large' : ℕ → Bool) : Type 0 where
  pub bits : (i : ℕ) → i / 64 ≡ q → inode_bit y (i % 64) ≡ bit' i
  pub other_bits : (i : ℕ) → i / 64 ≢ q → bit' i ≡ bit i
  pub uses : (k : ℕ) → k / 1024 ≡ q → use_by (block_state y (k % 1024)) ≡ use' k
  pub other_uses : (k : ℕ) → k / 1024 ≢ q → use' k ≡ use_of k
  pub large : y.large ≡ large' q
  pub other_large : (g : ℕ) → g ≢ q → large' g ≡ large_bit g

-- what the old bitmap says
module _ (segments : ℕ) (a b : Sectors) (q : ℕ) (x y : Bitmap) (bit : ℕ → Bool) (use_of : ℕ → Use) (large_bit : ℕ → Bool) (c : OneChanged segments a b q x y) (h : SegmentsSay segments a bit use_of large_bit) where
  pub old_bit : (i : ℕ) → i / 64 ≡ q → inode_bit x (i % 64) ≡ bit i
  old_bit i e = sym (ap (λ (t : Bool). t && bit_in (segment_at a (i / 64)) (i % 64)) (lt-ltb i (64 * segments) (let l = c.within in omega arith)) ∙ ap (λ (o : Option Bitmap). bit_in o (i % 64)) (ap (segment_at a) e ∙ c.was)) ∙ h.bits i

  pub old_use : (k : ℕ) → k / 1024 ≡ q → use_by (block_state x (k % 1024)) ≡ use_of k
  old_use k e = sym (ap (λ (t : Bool). if t then use_in (segment_at a (k / 1024)) (k % 1024) else Fresh) (lt-ltb k (1024 * segments) (let l = c.within in omega arith)) ∙ ap (λ (o : Option Bitmap). use_in o (k % 1024)) (ap (segment_at a) e ∙ c.was)) ∙ h.uses k

  pub old_large : x.large ≡ large_bit q
  old_large = sym (ap (λ (t : Bool). t && large_in (segment_at a q)) (lt-ltb q segments c.within) ∙ ap large_in c.was) ∙ h.large_bits q

  pub one_changed : (bit' : ℕ → Bool) (use' : ℕ → Use) (large' : ℕ → Bool) → ChangesTo q y bit use_of large_bit bit' use' large' → SegmentsSay segments b bit' use' large'
  one_changed bit' use' large' to = record { grammar = grammar; bits = bits; uses = uses; large_bits = larges }
    where
      grammar : (k : ℕ) → k < segments → is_some (segment_at b k) ≡ true
      grammar k l = elim (cases_eq k q) [
        | inl e ↦ ap (λ (z : ℕ). is_some (segment_at b z)) e ∙ ap is_some c.is
        | inr d ↦ ap (λ (z : List ℕ). is_some (bitmap_in z)) (c.others k l d) ∙ h.grammar k l
      ]

      bits : (i : ℕ) → (store_of segments b).bit i ≡ bit' i
      bits i = elim (cases_eq (i / 64) q) [
        | inl e ↦ ap (λ (t : Bool). t && bit_in (segment_at b (i / 64)) (i % 64)) (lt-ltb i (64 * segments) (let l = c.within in omega arith)) ∙ ap (λ (o : Option Bitmap). bit_in o (i % 64)) (ap (segment_at b) e ∙ c.is) ∙ to.bits i e
        | inr d ↦ and_same (nat_lt i (64 * segments)) (bit_in (segment_at b (i / 64)) (i % 64)) (bit_in (segment_at a (i / 64)) (i % 64))
            (λ t. let l = ltb-true i (64 * segments) t in ap (λ (z : List ℕ). bit_in (bitmap_in z) (i % 64)) (c.others (i / 64) (omega arith) d)) ∙ h.bits i ∙ sym (to.other_bits i d)
      ]

      uses : (k : ℕ) → (store_of segments b).use_of k ≡ use' k
      uses k = elim (cases_eq (k / 1024) q) [
        | inl e ↦ ap (λ (t : Bool). if t then use_in (segment_at b (k / 1024)) (k % 1024) else Fresh) (lt-ltb k (1024 * segments) (let l = c.within in omega arith)) ∙ ap (λ (o : Option Bitmap). use_in o (k % 1024)) (ap (segment_at b) e ∙ c.is) ∙ to.uses k e
        | inr d ↦ if_same (nat_lt k (1024 * segments)) (use_in (segment_at b (k / 1024)) (k % 1024)) (use_in (segment_at a (k / 1024)) (k % 1024)) Fresh
            (λ t. let l = ltb-true k (1024 * segments) t in ap (λ (z : List ℕ). use_in (bitmap_in z) (k % 1024)) (c.others (k / 1024) (omega arith) d)) ∙ h.uses k ∙ sym (to.other_uses k d)
      ]

      larges : (g : ℕ) → (store_of segments b).large_bit g ≡ large' g
      larges g = elim (cases_eq g q) [
        | inl e ↦ ap (λ (t : Bool). t && large_in (segment_at b g)) (lt-ltb g segments (let l = c.within in omega arith)) ∙ ap (λ (z : ℕ). large_in (segment_at b z)) e ∙ ap large_in c.is ∙ to.large ∙ ap large' (sym e)
        | inr d ↦ and_same (nat_lt g segments) (large_in (segment_at b g)) (large_in (segment_at a g)) (λ t. ap (λ (z : List ℕ). large_in (bitmap_in z)) (c.others g (ltb-true g segments t) d)) ∙ h.large_bits g ∙ sym (to.other_large g d)
      ]

-- a bit is set
pub bit_set : (segments : ℕ) (a b : Sectors) (i : ℕ) (used : Bool) (x : Bitmap) (bit : ℕ → Bool) (use_of : ℕ → Use) (large_bit : ℕ → Bool)
    → OneChanged segments a b (i / 64) x (with_inode x (i % 64) used) → SegmentsSay segments a bit use_of large_bit → SegmentsSay segments b (put bit i used) use_of large_bit
bit_set segments a b i used x bit use_of large_bit c h =
    let y : Bitmap = with_inode x (i % 64) used in
    one_changed segments a b (i / 64) x y bit use_of large_bit c h (put bit i used) use_of large_bit (record {
      bits = λ j e. inode_marked x (i % 64) (j % 64) used (omega arith) (omega arith) ∙ sym (chosen j i (put bit i used j) used (inode_bit x (j % 64))
          (λ q. chosen_same j i used (bit j) q) (λ d. chosen_other j i used (bit j) d ∙ sym (old_bit segments a b (i / 64) x y bit use_of large_bit c h j e))
          ∙ ap (λ (t : Bool). if t then used else inode_bit x (j % 64)) (same_test j i e));
      other_bits = λ j d. chosen_other j i used (bit j) (λ q. d (ap (λ (n : ℕ). n / 64) q));
      uses = λ k e. old_use segments a b (i / 64) x y bit use_of large_bit c h k e;
      other_uses = λ k d. refl;
      large = old_large segments a b (i / 64) x y bit use_of large_bit c h;
      other_large = λ g d. refl;
    })
  where
    same_test : (j i : ℕ) → j / 64 ≡ i / 64 → (j == i) ≡ (j % 64 == i % 64)
    same_test j i e = elim (cases_eq j i) [
      | inl q ↦ eq-eqb j i q ∙ sym (eq-eqb (j % 64) (i % 64) (ap (λ (n : ℕ). n % 64) q))
      | inr d ↦ ne_eqb j i d ∙ sym (ne_eqb (j % 64) (i % 64) (λ q. d (omega arith)))
    ]

-- a small block gets another use
pub use_set : (segments : ℕ) (a b : Sectors) (i : ℕ) (u : Use) (x : Bitmap) (bit : ℕ → Bool) (use_of : ℕ → Use) (large_bit : ℕ → Bool)
    → OneChanged segments a b (i / 1024) x (with_state x (i % 1024) (state_of u)) → length x.states ≡ 256 → SegmentsSay segments a bit use_of large_bit → SegmentsSay segments b bit (put use_of i u) large_bit
use_set segments a b i u x bit use_of large_bit c long h =
    let y : Bitmap = with_state x (i % 1024) (state_of u) in
    one_changed segments a b (i / 1024) x y bit use_of large_bit c h bit (put use_of i u) large_bit (record {
      bits = λ j e. old_bit segments a b (i / 1024) x y bit use_of large_bit c h j e;
      other_bits = λ j d. refl;
      uses = λ k e. ap use_by (state_replaced x (i % 1024) (k % 1024) (state_of u) long (omega arith) (state_below u)) ∙ sym (chosen k i (put use_of i u k) (use_by (state_of u)) (use_by (block_state x (k % 1024)))
          (λ q. chosen_same k i u (use_of k) q ∙ sym (use_back u)) (λ d. chosen_other k i u (use_of k) d ∙ sym (old_use segments a b (i / 1024) x y bit use_of large_bit c h k e))
          ∙ over (k == i) (k % 1024 == i % 1024) (state_of u) (block_state x (k % 1024)) (same_test k i e));
      other_uses = λ k d. chosen_other k i u (use_of k) (λ q. d (ap (λ (n : ℕ). n / 1024) q));
      large = old_large segments a b (i / 1024) x y bit use_of large_bit c h;
      other_large = λ g d. refl;
    })
  where
    same_test : (j i : ℕ) → j / 1024 ≡ i / 1024 → (j == i) ≡ (j % 1024 == i % 1024)
    same_test j i e = elim (cases_eq j i) [
      | inl q ↦ eq-eqb j i q ∙ sym (eq-eqb (j % 1024) (i % 1024) (ap (λ (n : ℕ). n % 1024) q))
      | inr d ↦ ne_eqb j i d ∙ sym (ne_eqb (j % 1024) (i % 1024) (λ q. d (omega arith)))
    ]

    over : (s t : Bool) (m n : ℕ) → s ≡ t → (if s then use_by m else use_by n) ≡ use_by (if t then m else n)
    over true true m n e = refl
    over false false m n e = refl
    over true false m n e = absurd cc
    over false true m n e = absurd cc

-- a large block is taken or given back
pub large_set : (segments : ℕ) (a b : Sectors) (g : ℕ) (used : Bool) (x : Bitmap) (bit : ℕ → Bool) (use_of : ℕ → Use) (large_bit : ℕ → Bool)
    → OneChanged segments a b g x (with_large x used) → SegmentsSay segments a bit use_of large_bit → SegmentsSay segments b bit use_of (put large_bit g used)
large_set segments a b g used x bit use_of large_bit c h =
    let y : Bitmap = with_large x used in
    one_changed segments a b g x y bit use_of large_bit c h bit use_of (put large_bit g used) (record {
      bits = λ j e. old_bit segments a b g x y bit use_of large_bit c h j e;
      other_bits = λ j d. refl;
      uses = λ k e. old_use segments a b g x y bit use_of large_bit c h k e;
      other_uses = λ k d. refl;
      large = sym (chosen_same g g used (large_bit g) refl);
      other_large = λ k d. chosen_other k g used (large_bit k) d;
    })
