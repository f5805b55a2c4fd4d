-- What is taken or given back has its new state, and all else stays.
use Rattle.std.proofs.Common.{ℕ, ◌≡◌, ◌≢◌, ◌<◌, ◌/◌, ◌%◌, ◌*◌, ◌+◌, inl, inr, ◌==◌, if◌then◌else◌, is_some, Bool, true, false, ◌||◌, Option, Some, None, [], ◌∷◌, length, refl, sym, ap, subst, ◌∙◌, arith}
use Rattle.std.proofs.lemmas.Bool.{cases_eq}
use Rattle.std.proofs.Math.ListN.{length-set}
use Rattle.std.specs.List.{list_any}
use Rattle.std.specs.Option.{option_map}
use Rattle.std.specs.Ordering.{nat_cmp}
use Rattle.frang_base.specs.declared.bitmap.Bitmap.{Bitmap}
use Rattle.disk_definitions.specs.Bitmaps.{inode_bit, block_state}
use Rattle.disk_definitions.proofs.Chosen.{chosen, chosen_same, chosen_other}
use Rattle.tree_definitions.proofs.Pairs.{birth_exact, found_put, found_other}
use Rattle.disk_definitions.specs.Held.{Segments, bitmap_of, inode_in, state_in, large_in}
use Rattle.disk_definitions.specs.Taken.{with_state, with_inode, with_large, put_bitmap, changed_at, taken_small, marked_inode, marked_large, with_states}
use Rattle.disk_definitions.specs.PickLaws.{SmallBlockIsChanged, InodeIsMarked, LargeBlockIsMarked, SegmentsAreChanged, StatesAreChanged}
use Rattle.disk_definitions.proofs.PickDigits.{state_replaced, inode_marked}

module _ (held : Segments) (k : ℕ) (change : Bitmap → Bitmap) where
  changed_here : bitmap_of (changed_at held k change) k ≡ option_map change (bitmap_of held k)
  changed_here = go (bitmap_of held k) refl
    where
      go : (o : Option Bitmap) → bitmap_of held k ≡ o → bitmap_of (put_bitmap held k change o) k ≡ option_map change o
      go None e = e
      go (Some x) e = found_put nat_cmp birth_exact held k (change x)

  changed_else : (q : ℕ) → q ≢ k → bitmap_of (changed_at held k change) q ≡ bitmap_of held q
  changed_else q d = go (bitmap_of held k)
    where
      go : (o : Option Bitmap) → bitmap_of (put_bitmap held k change o) q ≡ bitmap_of held q
      go None = refl
      go (Some x) = found_other nat_cmp birth_exact held k (change x) q d

  -- what the change leaves of each bitmap stays
  pub kept : {Y : Type 0} (f : Bitmap → Y) → ((x : Bitmap) → f (change x) ≡ f x) → (q : ℕ) → option_map f (bitmap_of (changed_at held k change) q) ≡ option_map f (bitmap_of held q)
  kept f same q = elim (cases_eq q k) [
    | inl e ↦ subst (λ (z : ℕ). option_map f (bitmap_of (changed_at held k change) z) ≡ option_map f (bitmap_of held z)) (sym e)
        (ap (option_map f) changed_here ∙ over (bitmap_of held k))
    | inr d ↦ ap (option_map f) (changed_else q d)
  ]
    where
      over : (o : Option Bitmap) → option_map f (option_map change o) ≡ option_map f o
      over None = refl
      over (Some x) = ap Some (same x)

  -- what it makes of a place of the segment that is changed, and of the places of the others
  pub made : {Y : Type 0} (f : Bitmap → Y) (y : Y) → ((x : Bitmap) → bitmap_of held k ≡ Some x → f (change x) ≡ y) → is_some (bitmap_of held k) ≡ true
      → option_map f (bitmap_of (changed_at held k change) k) ≡ Some y
  made f y is there = ap (option_map f) changed_here ∙ go (bitmap_of held k) refl there
    where
      go : (o : Option Bitmap) → bitmap_of held k ≡ o → is_some o ≡ true → option_map f (option_map change o) ≡ Some y
      go None e t = absurd (cc)
      go (Some x) e t = ap Some (is x e)

  pub made_else : {Y : Type 0} (f : Bitmap → Y) (q : ℕ) → (q ≡ k → (x : Bitmap) → bitmap_of held k ≡ Some x → f (change x) ≡ f x)
      → option_map f (bitmap_of (changed_at held k change) q) ≡ option_map f (bitmap_of held q)
  made_else f q is = elim (cases_eq q k) [
    | inl e ↦ subst (λ (z : ℕ). option_map f (bitmap_of (changed_at held k change) z) ≡ option_map f (bitmap_of held z)) (sym e)
        (ap (option_map f) changed_here ∙ go (bitmap_of held k) refl (is e))
    | inr d ↦ ap (option_map f) (changed_else q d)
  ]
    where
      go : (o : Option Bitmap) → bitmap_of held k ≡ o → ((x : Bitmap) → bitmap_of held k ≡ Some x → f (change x) ≡ f x) → option_map f (option_map change o) ≡ option_map f o
      go None e same = refl
      go (Some x) e same = ap Some (same x e)

pub small_is_changed : SmallBlockIsChanged
small_is_changed held b state are l there = (states, λ i. kept held (b / 1024) (λ x. with_state x (b % 1024) state) (λ (x : Bitmap). inode_bit x (i % 64)) (λ x. refl) (i / 64), λ j. kept held (b / 1024) (λ x. with_state x (b % 1024) state) (λ (x : Bitmap). x.large) (λ x. refl) j)
  where
    states : (c : ℕ) → state_in (taken_small held b state) c ≡ (if c == b then Some state else state_in held c)
    states c = chosen c b (state_in (taken_small held b state) c) (Some state) (state_in held c)
        (λ e. subst (λ z. state_in (taken_small held b state) z ≡ Some state) (sym e)
        (made held (b / 1024) (λ x. with_state x (b % 1024) state) (λ (x : Bitmap). block_state x (b % 1024)) state
        (λ x i. state_replaced x (b % 1024) (b % 1024) state (are (b / 1024) x i) (omega arith) l ∙ chosen_same (b % 1024) (b % 1024) state (block_state x (b % 1024)) refl) there))
        (λ d. made_else held (b / 1024) (λ x. with_state x (b % 1024) state) (λ (x : Bitmap). block_state x (c % 1024)) (c / 1024)
        (λ e x i. state_replaced x (b % 1024) (c % 1024) state (are (b / 1024) x i) (omega arith) l ∙ chosen_other (c % 1024) (b % 1024) state (block_state x (c % 1024)) (λ q. d (omega arith))))

pub inode_is_marked : InodeIsMarked
inode_is_marked held i used there =
    (marks, λ c. kept held (i / 64) (λ x. with_inode x (i % 64) used) (λ (x : Bitmap). block_state x (c % 1024)) (λ x. refl) (c / 1024), λ j. kept held (i / 64) (λ x. with_inode x (i % 64) used) (λ (x : Bitmap). x.large) (λ x. refl) j)
  where
    marks : (j : ℕ) → inode_in (marked_inode held i used) j ≡ (if j == i then Some used else inode_in held j)
    marks j = chosen j i (inode_in (marked_inode held i used) j) (Some used) (inode_in held j)
        (λ e. subst (λ z. inode_in (marked_inode held i used) z ≡ Some used) (sym e)
        (made held (i / 64) (λ x. with_inode x (i % 64) used) (λ (x : Bitmap). inode_bit x (i % 64)) used
        (λ x q. inode_marked x (i % 64) (i % 64) used (omega arith) (omega arith) ∙ chosen_same (i % 64) (i % 64) used (inode_bit x (i % 64)) refl) there))
        (λ d. made_else held (i / 64) (λ x. with_inode x (i % 64) used) (λ (x : Bitmap). inode_bit x (j % 64)) (j / 64)
        (λ e x q. inode_marked x (i % 64) (j % 64) used (omega arith) (omega arith) ∙ chosen_other (j % 64) (i % 64) used (inode_bit x (j % 64)) (λ p. d (omega arith))))

pub large_is_marked : LargeBlockIsMarked
large_is_marked held k used there =
    (marks, λ i. kept held k (λ x. with_large x used) (λ (x : Bitmap). inode_bit x (i % 64)) (λ x. refl) (i / 64), λ c. kept held k (λ x. with_large x used) (λ (x : Bitmap). block_state x (c % 1024)) (λ x. refl) (c / 1024))
  where
    marks : (j : ℕ) → large_in (marked_large held k used) j ≡ (if j == k then Some used else large_in held j)
    marks j = chosen j k (large_in (marked_large held k used) j) (Some used) (large_in held j)
        (λ e. subst (λ z. large_in (marked_large held k used) z ≡ Some used) (sym e)
        (made held k (λ x. with_large x used) (λ (x : Bitmap). x.large) used (λ x q. refl) there))
        (λ d. made_else held k (λ x. with_large x used) (λ (x : Bitmap). x.large) j (λ e. absurd (d e)))

-- several blocks
with_state_length : (x : Bitmap) (j s : ℕ) → length (with_state x j s).states ≡ length x.states
with_state_length x j s = simp length-set

changed_if : (held : Segments) (b state k : ℕ) → bitmap_of (taken_small held b state) k ≡ option_map (λ x. if b / 1024 == k then with_state x (b % 1024) state else x) (bitmap_of held k)
changed_if held b state k = elim (cases_eq (b / 1024) k) [
  | inl e ↦ subst (λ z. bitmap_of (taken_small held b state) z ≡ option_map (λ x. if b / 1024 == z then with_state x (b % 1024) state else x) (bitmap_of held z)) e
      (changed_here held (b / 1024) (λ x. with_state x (b % 1024) state) ∙ over (bitmap_of held (b / 1024)))
  | inr d ↦ changed_else held (b / 1024) (λ x. with_state x (b % 1024) state) k (λ q. d (sym q)) ∙ stay d (bitmap_of held k)
]
  where
    over : (o : Option Bitmap) → option_map (λ x. with_state x (b % 1024) state) o ≡ option_map (λ x. if b / 1024 == b / 1024 then with_state x (b % 1024) state else x) o
    over None = refl
    over (Some x) = ap Some (sym (chosen_same (b / 1024) (b / 1024) (with_state x (b % 1024) state) x refl))

    stay : b / 1024 ≢ k → (o : Option Bitmap) → o ≡ option_map (λ x. if b / 1024 == k then with_state x (b % 1024) state else x) o
    stay d None = refl
    stay d (Some x) = ap Some (sym (chosen_other (b / 1024) k (with_state x (b % 1024) state) x d))

pub segments_are_changed : SegmentsAreChanged
segments_are_changed held [] state k = same (bitmap_of held k)
  where
    same : (o : Option Bitmap) → o ≡ option_map (λ x. x) o
    same None = refl
    same (Some x) = refl
segments_are_changed held (b ∷ bs) state k =
    segments_are_changed (taken_small held b state) bs state k ∙ ap (option_map (λ x. with_states x k bs state)) (changed_if held b state k) ∙ over (bitmap_of held k)
  where
    over : (o : Option Bitmap) → option_map (λ x. with_states x k bs state) (option_map (λ x. if b / 1024 == k then with_state x (b % 1024) state else x) o) ≡ option_map (λ x. with_states x k (b ∷ bs) state) o
    over None = refl
    over (Some x) = refl

-- one block of those that are changed, and the others
states_step : (x : Bitmap) (k b state j : ℕ) → length x.states ≡ 256 → state < 4 → j < 1024 →
    block_state (if b / 1024 == k then with_state x (b % 1024) state else x) j ≡ (if b == 1024 * k + j then state else block_state x j)
states_step x k b state j n l h = elim (cases_eq (b / 1024) k) [
  | inl e ↦ ap (λ y. block_state y j) (chosen_same (b / 1024) k (with_state x (b % 1024) state) x e)
      ∙ state_replaced x (b % 1024) j state n (omega arith) l
      ∙ chosen b (1024 * k + j) (if j == b % 1024 then state else block_state x j) state (block_state x j)
      (λ q. chosen_same j (b % 1024) state (block_state x j) (omega arith)) (λ d. chosen_other j (b % 1024) state (block_state x j) (λ q. d (omega arith)))
  | inr d ↦ ap (λ y. block_state y j) (chosen_other (b / 1024) k (with_state x (b % 1024) state) x d)
      ∙ sym (chosen_other b (1024 * k + j) state (block_state x j) (λ q. d (omega arith)))
]

pub states_are_changed : StatesAreChanged
states_are_changed x k [] state j n l h = refl
states_are_changed x k (b ∷ bs) state j n l h =
    states_are_changed (if b / 1024 == k then with_state x (b % 1024) state else x) k bs state j (still (b / 1024 == k)) l h
    ∙ ap (λ (s : ℕ). if list_any (λ b. b == 1024 * k + j) bs then state else s) (states_step x k b state j n l h)
    ∙ either (b == 1024 * k + j) (list_any (λ b. b == 1024 * k + j) bs)
  where
    still : (t : Bool) → length (if t then with_state x (b % 1024) state else x).states ≡ 256
    still true = with_state_length x (b % 1024) state ∙ n
    still false = n

    either : (s t : Bool) → (if t then state else (if s then state else block_state x j)) ≡ (if s || t then state else block_state x j)
    either true true = refl
    either true false = refl
    either false true = refl
    either false false = refl
