-- What the picks of held segments find, against what the tree takes of the disk.
use Rattle.std.proofs.Common.{ℕ, ◌≡◌, ◌≢◌, ◌<◌, ◌≤◌, ◌*◌, ◌/◌, ◌%◌, ◌⊎◌, inl, inr, ⊎_elim, Bool, true, false, not, ◌&&◌, Option, Some, None, length, refl, ◌∙◌, ap, subst, arith, is_some}
use Rattle.std.proofs.lemmas.Bool.Decides.{nat_tests}
use Rattle.std.specs.Option.{option_map}
use Rattle.std.proofs.lemmas.Bool.{lt-leb, le-leb}
use Rattle.frang_base.specs.declared.bitmap.Bitmap.{Bitmap}
use Rattle.disk_definitions.specs.Bitmaps.{inode_bit, block_state}
use Rattle.tree_definitions.specs.Tree.{FileTree, inodes_full, blocks_full, count_of, small_blocks}
use Rattle.disk_definitions.specs.Store.{Store, use_by, is_unused}
use Rattle.disk_definitions.specs.Store.Use.{Fresh, Empty}
use Rattle.disk_definitions.specs.Naming.{Naming}
use Rattle.disk_definitions.specs.Least.{count}
use Rattle.disk_definitions.specs.Held.{AreSegments, bitmap_of, inode_in, state_in}
use Rattle.disk_definitions.specs.Picks.{is_in_state, picked_inode, picked_directory}
use Rattle.disk_definitions.proofs.PickLaws.{an_inode, no_inode, for_a_directory, none_for_a_directory, held_there}
use Rattle.disk_definitions.specs.ChangeLaws.{IsFreeBlock}
use Rattle.disk_definitions.specs.Plans.{Hand, must_clear}
use Rattle.disk_definitions.specs.Meets.{IsOfTree, IsHandOf}
use Rattle.plan_laws.proofs.Counting.{count_all, count_less}
use Rattle.plan_laws.proofs.Totals.{inodes_counted, blocks_counted}

-- in use, where neither of the free states
taken_state : (state : ℕ) → state ≢ 0 → state ≢ 2 → is_unused (use_by state) ≡ false
taken_state state a b = grind (arith, nat_tests)

held_at : {X Y : Type 0} (f : X → Y) (o : Option X) → is_some o ≡ true → (y : Y) × (option_map f o ≡ Some y)
held_at f None e = absurd (cc)
held_at f (Some x) e = (f x, refl)

module _ (h : Hand) (s : Store) (tree : FileTree) (n : Naming) (of : IsOfTree s tree n) (hand : IsHandOf h s tree.segments) where
  are_segments : AreSegments h.held
  are_segments k x e = let l : k < tree.segments = hand.within k (ap is_some e) in let m : tree.segments ≤ 64 = of.few in omega arith

  pub inode_some : (j : ℕ) → picked_inode h.held ≡ Some j → (s.bit j ≡ false) × (j < 64 * tree.segments) × (inodes_full tree ≡ false)
  inode_some j e =
      let free : inode_in h.held j ≡ Some false = (an_inode h.held j e).1 in
      let bit : s.bit j ≡ false = hand.bits j false free in
      let x = held_there (λ (x : Bitmap). inode_bit x (j % 64)) (bitmap_of h.held (j / 64)) false free in
      let m : j / 64 < tree.segments = hand.within (j / 64) (ap is_some x.1) in
      let l : j < 64 * tree.segments = omega arith in
      let c : count s.bit (64 * tree.segments) < 64 * tree.segments = count_less s.bit (64 * tree.segments) j l bit in
      (bit, l, lt-leb (64 * tree.segments) (length tree.nodes) (subst (λ z. z < 64 * tree.segments) (inodes_counted s tree n of) c))

  not_free : (i : ℕ) (used : Bool) → inode_in h.held i ≡ Some used → inode_in h.held i ≢ Some false → s.bit i ≡ true
  not_free i true e f = hand.bits i true e
  not_free i false e f = absurd (f e)

  pub inode_none : picked_inode h.held ≡ None → h.all ≡ true → inodes_full tree ≡ true
  inode_none e all =
      let c : count s.bit (64 * tree.segments) ≡ 64 * tree.segments = count_all s.bit (64 * tree.segments) (λ i l.
      let x = held_at (λ (x : Bitmap). inode_bit x (i % 64)) (bitmap_of h.held (i / 64)) (hand.all.0 all (i / 64) (omega arith)) in
      not_free i x.0 x.1 (no_inode h.held are_segments e i)) in
      let t : count s.bit (64 * tree.segments) ≡ length tree.nodes = inodes_counted s tree n of in
      le-leb (64 * tree.segments) (length tree.nodes) (omega arith)

  abbrev taken : ℕ → Bool
  taken k = not (is_unused (s.use_of k))

  state_of : (k : ℕ) → picked_directory h.held ≡ Some k → (state_in h.held k ≡ Some 2) ⊎ (state_in h.held k ≡ Some 0)
  state_of k e = ⊎_elim (λ p. inl p.1) (λ p. inr p.0.1) (for_a_directory h.held k are_segments e)

  block_free : (k : ℕ) → picked_directory h.held ≡ Some k → is_unused (s.use_of k) ≡ true
  block_free k e = ⊎_elim (λ p. ap is_unused (hand.states k 2 p)) (λ p. ap is_unused (hand.states k 0 p)) (state_of k e)

  block_below : (k : ℕ) → picked_directory h.held ≡ Some k → k < 1024 * tree.segments
  block_below k e = ⊎_elim (λ p. below 2 p) (λ p. below 0 p) (state_of k e)
    where
      below : (state : ℕ) → state_in h.held k ≡ Some state → k < 1024 * tree.segments
      below state p =
          let x = held_there (λ (x : Bitmap). block_state x (k % 1024)) (bitmap_of h.held (k / 1024)) state p in
          let m : k / 1024 < tree.segments = hand.within (k / 1024) (ap is_some x.1) in omega arith

  pub block_some : (k : ℕ) → picked_directory h.held ≡ Some k → (is_unused (s.use_of k) ≡ true) × (k < 1024 * tree.segments) × (blocks_full tree ≡ false)
  block_some k e =
      let free : taken k ≡ false = ap not (block_free k e) in
      let l : k < 1024 * tree.segments = block_below k e in
      let c : count taken (1024 * tree.segments) < 1024 * tree.segments = count_less taken (1024 * tree.segments) k l free in
      (block_free k e, l, lt-leb (1024 * tree.segments) (count_of small_blocks tree) (subst (λ z. z < 1024 * tree.segments) (blocks_counted s tree n of) c))

  -- a block that needs no clearing has no entries
  pub block_clear : (k : ℕ) → picked_directory h.held ≡ Some k → must_clear h k ≡ false → IsFreeBlock s k
  block_clear k e clear = record { free = block_free k e; clear = λ fresh p l. ⊎_elim (λ q. absurd (empty fresh (hand.states k 2 q))) (λ q. hand.zeroed k p (known (h.zeroed k) q clear) l) (state_of k e) }
    where
      empty : s.use_of k ≡ Fresh → s.use_of k ≡ Empty → ⊥
      empty a b = cc

      known : (z : Bool) → state_in h.held k ≡ Some 0 → (is_in_state 0 (state_in h.held k) && not z) ≡ false → z ≡ true
      known true q c = refl
      known false q c = absurd (let t : (is_in_state 0 (state_in h.held k) && true) ≡ true = ap (λ o. is_in_state 0 o && true) q in cc)

  pub block_none : picked_directory h.held ≡ None → h.all ≡ true → blocks_full tree ≡ true
  block_none e all =
      let none = none_for_a_directory h.held are_segments e in
      let c : count taken (1024 * tree.segments) ≡ 1024 * tree.segments = count_all taken (1024 * tree.segments) (λ k l.
      let x = held_at (λ (x : Bitmap). block_state x (k % 1024)) (bitmap_of h.held (k / 1024)) (hand.all.0 all (k / 1024) (omega arith)) in
      let not_zero : x.0 ≢ 0 = λ i. none.1 k (x.1 ∙ ap Some i) in
      let not_two : x.0 ≢ 2 = λ i. none.0 k (x.1 ∙ ap Some i) in
      ap (λ u. not (is_unused u)) (hand.states k x.0 x.1) ∙ ap not (taken_state x.0 not_zero not_two)) in
      let t : count taken (1024 * tree.segments) ≡ count_of small_blocks tree = blocks_counted s tree n of in
      le-leb (1024 * tree.segments) (count_of small_blocks tree) (omega arith)
