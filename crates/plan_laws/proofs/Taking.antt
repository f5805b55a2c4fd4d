-- What the picks for a file find in the held segments, against what the tree takes of the disk.
use Rattle.std.proofs.Common.{ℕ, zero, suc, ◌≡◌, ◌≢◌, ◌<◌, ◌≤◌, ◌+◌, ◌-◌, ◌*◌, ◌/◌, ◌%◌, ◌||◌, Bool, true, false, nat_lt, nat_le, nat_eq, if◌then◌else◌, Option, Some, None, List, [], length, slice_index, refl, sym, ◌∙◌, ap, ap₂, subst, arith, is_some}
use Rattle.std.proofs.lemmas.Bool.Decides.{nat_tests}
use Rattle.std.specs.Option.{option_map}
use Rattle.std.specs.List.Sorted.{IsStrictlyIncreasing}
use Rattle.std.proofs.lemmas.Bool.{false_from_ne_true, lt-leb, le-leb}
use Rattle.frang_base.specs.declared.bitmap.Bitmap.{Bitmap}
use Rattle.disk_definitions.specs.Bitmaps.{block_state}
use Rattle.tree_definitions.specs.Tree.{FileTree, count_of, file_blocks, large_blocks, larges_full}
use Rattle.disk_definitions.specs.Store.{Store, use_by}
use Rattle.disk_definitions.specs.Store.Use.{Fresh, Bytes, Empty, Entries}
use Rattle.disk_definitions.specs.Naming.{Naming}
use Rattle.disk_definitions.specs.Least.{count, one_if}
use Rattle.disk_definitions.specs.Held.{AreSegments, bitmap_of, state_in, large_in}
use Rattle.disk_definitions.specs.Picks.{is_in_state, picked_many, picked_large}
use Rattle.disk_definitions.proofs.PickCounts.{count_zero, count_more, count_same}
use Rattle.disk_definitions.proofs.PickLaws.{a_large_block, no_large_block, held_there, state_is}
use Rattle.disk_definitions.proofs.ManyLaws.{picks_the_least, where_there_are_enough}
use Rattle.disk_definitions.specs.Plans.{Hand}
use Rattle.disk_definitions.specs.FilePlans.{directory_blocks}
use Rattle.disk_definitions.specs.Meets.{IsOfTree, IsHandOf, is_directory_use, directory_blocks_in}
use Rattle.plan_laws.proofs.Counting.{count_all, count_less}
use Rattle.plan_laws.proofs.FileTotals.{is_fresh, is_bytes, files_counted, larges_counted, uses_counted}

-- none passes past a number
count_cut : (f : ℕ → Bool) (a d : ℕ) → ((q : ℕ) → a ≤ q → f q ≡ false) → count f (a + d) ≡ count f a
count_cut f a zero h = let e : a + 0 ≡ a = omega arith in ap (count f) e
count_cut f a (suc d) h =
    let e : a + suc d ≡ suc (a + d) = omega arith in
    let r : count f (a + d) ≡ count f a = count_cut f a d h in
    let c : count f (suc (a + d)) ≡ one_if (f (a + d)) + count f (a + d) = count_more f (a + d) in
    let z : one_if (f (a + d)) ≡ 0 = ap one_if (h (a + d) (omega arith)) in
    ap (count f) e ∙ omega arith

one_le : (p q : Bool) → (p ≡ true → q ≡ true) → one_if p ≤ one_if q
one_le true q h = rw (h refl) (omega arith)
one_le false q h = omega arith

count_le : (f g : ℕ → Bool) (n : ℕ) → ((q : ℕ) → f q ≡ true → g q ≡ true) → count f n ≤ count g n
count_le f g zero h = let a : count f 0 ≡ 0 = count_zero f in omega arith
count_le f g (suc n) h =
    let a : count f (suc n) ≡ one_if (f n) + count f n = count_more f n in
    let b : count g (suc n) ≡ one_if (g n) + count g n = count_more g n in
    let r : count f n ≤ count g n = count_le f g n h in
    let o : one_if (f n) ≤ one_if (g n) = one_le (f n) (g n) (h n) in omega arith

fresh_state : (state : ℕ) → is_fresh (use_by state) ≡ nat_eq state 0
fresh_state state = go (nat_eq state 0) (nat_eq state 1) (nat_eq state 2)
  where
    go : (a b c : Bool) → is_fresh (if a then Fresh else (if b then Bytes else (if c then Empty else Entries))) ≡ a
    go true b c = refl
    go false true c = refl
    go false false true = refl
    go false false false = refl

directory_state : (state : ℕ) → state < 4 → is_directory_use (use_by state) ≡ (nat_eq state 2 || nat_eq state 3)
directory_state zero l = refl
directory_state (suc zero) l = refl
directory_state (suc (suc zero)) l = refl
directory_state (suc (suc (suc zero))) l = refl
directory_state (suc (suc (suc (suc state)))) l = absurd (omega arith)

-- a held block has a state
held_state : (o : Option Bitmap) (j : ℕ) → is_some o ≡ true → (state : ℕ) × (option_map (λ x. block_state x j) o ≡ Some state) × (state < 4)
held_state None j e = absurd (cc)
held_state (Some x) j e = (block_state x j, refl, omega arith)

-- numbers that ascend differ
rising : (ks : List ℕ) → IsStrictlyIncreasing ks → (i d : ℕ) → i + suc d < length ks → slice_index ks i < slice_index ks (i + suc d)
rising ks up i zero l = let e : i + 1 ≡ i + suc 0 = omega arith in subst (λ k. slice_index ks i < slice_index ks k) e (up i (omega arith))
rising ks up i (suc d) l =
    let e : i + suc d + 1 ≡ i + suc (suc d) = omega arith in
    let a : slice_index ks i < slice_index ks (i + suc d) = rising ks up i d (omega arith) in
    let b : slice_index ks (i + suc d) < slice_index ks (i + suc d + 1) = up (i + suc d) (omega arith) in
    subst (λ k. slice_index ks i < slice_index ks k) e (omega arith)

rising_apart : (ks : List ℕ) → IsStrictlyIncreasing ks → (i j : ℕ) → i < length ks → j < length ks → slice_index ks i ≡ slice_index ks j → i ≡ j
rising_apart ks up i j li lj e = go (nat_lt i j) refl (nat_lt j i) refl
  where
    above : (a b : ℕ) → a < b → b < length ks → slice_index ks a < slice_index ks b
    above a b l m = let z : a + suc (b - a - 1) ≡ b = omega arith in subst (λ k. slice_index ks a < slice_index ks k) z (rising ks up a (b - a - 1) (omega arith))

    go : (b : Bool) → nat_lt i j ≡ b → (c : Bool) → nat_lt j i ≡ c → i ≡ j
    go true p c q = absurd (let l : i < j = grind (arith, nat_tests) in let w : slice_index ks i < slice_index ks j = above i j l lj in omega arith)
    go false p true q = absurd (let l : j < i = grind (arith, nat_tests) in let w : slice_index ks j < slice_index ks i = above j i l li in omega arith)
    go false p false q = grind (arith, nat_tests)

module _ (h : Hand) (s : Store) (tree : FileTree) (n : Naming) (of : IsOfTree s tree n) (hand : IsHandOf h s tree.segments) where
  are_segments : AreSegments h.held
  are_segments k x e = let l : k < tree.segments = hand.within k (ap is_some e) in let m : tree.segments ≤ 64 = of.few in omega arith

  -- ---- large blocks
  pub large_some : (g : ℕ) → picked_large h.held ≡ Some g → (s.large_bit g ≡ false) × (g < tree.segments) × (larges_full tree ≡ false)
  large_some g e =
      let free : large_in h.held g ≡ Some false = (a_large_block h.held g e).1 in
      let bit : s.large_bit g ≡ false = hand.larges g false free in
      let x = held_there (λ (x : Bitmap). x.large) (bitmap_of h.held g) false free in
      let l : g < tree.segments = hand.within g (ap is_some x.1) in
      let c : count s.large_bit tree.segments < tree.segments = count_less s.large_bit tree.segments g l bit in
      (bit, l, lt-leb tree.segments (count_of large_blocks tree) (subst (λ z. z < tree.segments) (larges_counted s tree n of) c))

  not_free : (g : ℕ) (o : Option Bitmap) → bitmap_of h.held g ≡ o → is_some o ≡ true → large_in h.held g ≢ Some false → s.large_bit g ≡ true
  not_free g None i e f = absurd (cc)
  not_free g (Some x) i e f = by_bit x.large refl
    where
      by_bit : (c : Bool) → x.large ≡ c → s.large_bit g ≡ true
      by_bit true q = hand.larges g true (ap (option_map (λ (x : Bitmap). x.large)) i ∙ ap Some q)
      by_bit false q = absurd (f (ap (option_map (λ (x : Bitmap). x.large)) i ∙ ap Some q))

  pub large_none : picked_large h.held ≡ None → h.all ≡ true → larges_full tree ≡ true
  large_none e all =
      let c : count s.large_bit tree.segments ≡ tree.segments = count_all s.large_bit tree.segments (λ g l. not_free g (bitmap_of h.held g) refl (hand.all.0 all g l) (no_large_block h.held are_segments e g)) in
      let t : count s.large_bit tree.segments ≡ count_of large_blocks tree = larges_counted s tree n of in
      le-leb tree.segments (count_of large_blocks tree) (omega arith)

  -- ---- small blocks
  abbrev fresh : ℕ → Bool
  fresh k = is_fresh (s.use_of k)

  abbrev held_free : ℕ → Bool
  held_free k = is_in_state 0 (state_in h.held k)

  abbrev held_directory : ℕ → Bool
  held_directory k = is_in_state 2 (state_in h.held k) || is_in_state 3 (state_in h.held k)

  pub below_end : (k state : ℕ) → state_in h.held k ≡ Some state → k < 1024 * tree.segments
  below_end k state p =
      let x = held_there (λ (x : Bitmap). block_state x (k % 1024)) (bitmap_of h.held (k / 1024)) state p in
      let m : k / 1024 < tree.segments = hand.within (k / 1024) (ap is_some x.1) in omega arith

  past : (state k : ℕ) → 1024 * tree.segments ≤ k → is_in_state state (state_in h.held k) ≡ false
  past state k l = false_from_ne_true (is_in_state state (state_in h.held k)) (λ e. (let b : k < 1024 * tree.segments = below_end k state (state_is state (state_in h.held k) e) in omega arith))

  all_blocks : 65536 ≡ 1024 * tree.segments + (65536 - 1024 * tree.segments)
  all_blocks = let m : tree.segments ≤ 64 = of.few in omega arith

  free_cut : count held_free 65536 ≡ count held_free (1024 * tree.segments)
  free_cut = ap (count held_free) all_blocks ∙ count_cut held_free (1024 * tree.segments) (65536 - 1024 * tree.segments) (λ q l. past 0 q l)

  free_most : count held_free 65536 ≤ count fresh (1024 * tree.segments)
  free_most =
      let a : count held_free 65536 ≡ count held_free (1024 * tree.segments) = free_cut in
      let b : count held_free (1024 * tree.segments) ≤ count fresh (1024 * tree.segments) = count_le held_free fresh (1024 * tree.segments) (λ q e. ap is_fresh (hand.states q 0 (state_is 0 (state_in h.held q) e))) in
      omega arith

  all_state : h.all ≡ true → (k : ℕ) → k < 1024 * tree.segments → (state : ℕ) × (state_in h.held k ≡ Some state) × (state < 4)
  all_state all k l = held_state (bitmap_of h.held (k / 1024)) (k % 1024) (hand.all.0 all (k / 1024) (omega arith))

  free_all : h.all ≡ true → count held_free 65536 ≡ count fresh (1024 * tree.segments)
  free_all all = free_cut ∙ count_same held_free fresh (1024 * tree.segments) (λ q l.
      let x = all_state all q l in ap (is_in_state 0) x.1 ∙ sym (ap is_fresh (hand.states q x.0 x.1) ∙ fresh_state x.0))

  pub directories_all : h.all ≡ true → directory_blocks h.held ≡ directory_blocks_in s tree.segments
  directories_all all =
      ap (count held_directory) all_blocks ∙ count_cut held_directory (1024 * tree.segments) (65536 - 1024 * tree.segments) (λ q l. ap₂ (λ a b. a || b) (past 2 q l) (past 3 q l))
      ∙ count_same held_directory (λ k. is_directory_use (s.use_of k)) (1024 * tree.segments) (λ q l.
      let x = all_state all q l in ap (λ o. is_in_state 2 o || is_in_state 3 o) x.1 ∙ sym (ap is_directory_use (hand.states q x.0 x.1) ∙ directory_state x.0 x.2))

  -- what the tree leaves for bytes: the blocks that are free for them
  abbrev pub lacks : ℕ → ℕ → Bool
  lacks m more = nat_lt (1024 * tree.segments - m) (count_of file_blocks tree + more)

  lacks_by : (m more : ℕ) (c : Bool) → m ≡ directory_blocks_in s tree.segments → nat_lt (count fresh (1024 * tree.segments)) more ≡ c → lacks m more ≡ c
  lacks_by m more c dirs e =
      let a : count fresh (1024 * tree.segments) + count (λ k. is_bytes (s.use_of k)) (1024 * tree.segments) + directory_blocks_in s tree.segments ≡ 1024 * tree.segments = uses_counted s (1024 * tree.segments) in
      let b : count (λ k. is_bytes (s.use_of k)) (1024 * tree.segments) ≡ count_of file_blocks tree = files_counted s tree n of in
      sums (1024 * tree.segments) m (count_of file_blocks tree) (count fresh (1024 * tree.segments)) more (omega arith) ∙ e
    where
      sums : (all m files free more : ℕ) → free + files + m ≡ all → nat_lt (all - m) (files + more) ≡ nat_lt free more
      sums all m files free more i = grind (arith, nat_tests)

  -- blocks that were picked for bytes
  pub record ArePicked (picks : List ℕ) (more : ℕ) : Type 0 where
    pub size : length picks ≡ more
    pub fresh_at : (i : ℕ) → i < more → s.use_of (slice_index picks i) ≡ Fresh
    pub within : (i : ℕ) → i < more → slice_index picks i < 1024 * tree.segments
    pub apart : (i j : ℕ) → i < more → j < more → slice_index picks i ≡ slice_index picks j → i ≡ j

  pub none_picked : ArePicked [] 0
  none_picked = record { size = refl; fresh_at = λ i l. absurd (omega arith); within = λ i l. absurd (omega arith); apart = λ i j l. absurd (omega arith) }

  pub none_lacking : (m : ℕ) → m ≡ directory_blocks_in s tree.segments → lacks m 0 ≡ false
  none_lacking m dirs = lacks_by m 0 false dirs (grind (arith, nat_tests))

  pub small_none : (m more : ℕ) → m ≡ directory_blocks_in s tree.segments → picked_many h.held more ≡ None → h.all ≡ true → lacks m more ≡ true
  small_none m more dirs e all =
      let a : nat_le more (count held_free 65536) ≡ false = sym (where_there_are_enough h.held more) ∙ ap is_some e in
      let b : count held_free 65536 ≡ count fresh (1024 * tree.segments) = free_all all in
      lacks_by m more true dirs (grind (arith, nat_tests))

  pub small_some : (m more : ℕ) (picks : List ℕ) → m ≡ directory_blocks_in s tree.segments → picked_many h.held more ≡ Some picks → ArePicked picks more × (lacks m more ≡ false)
  small_some m more picks dirs e =
      let r = picks_the_least h.held more picks e in
      let a : nat_le more (count held_free 65536) ≡ true = sym (where_there_are_enough h.held more) ∙ ap is_some e in
      let b : count held_free 65536 ≤ count fresh (1024 * tree.segments) = free_most in (
        record {
          size = r.0;
          fresh_at = λ i l. hand.states (slice_index picks i) 0 (r.2 i 0 (subst (λ k. i < k) (sym r.0) l)).1;
          within = λ i l. below_end (slice_index picks i) 0 (r.2 i 0 (subst (λ k. i < k) (sym r.0) l)).1;
          apart = λ i j l k q. rising_apart picks r.1 i j (subst (λ k. i < k) (sym r.0) l) (subst (λ z. j < z) (sym r.0) k) q;
        },
        lacks_by m more false dirs (grind (arith, nat_tests)),
      )
