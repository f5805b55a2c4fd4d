-- Where a node comes or goes, or has other blocks, the edits say something of a bit or a use, and so a segment's lock is held alone.
use Rattle.std.proofs.Common.{◌≡◌, ◌≢◌, ◌<◌, ◌≤◌, ◌+◌, ◌*◌, ◌/◌, ◌⊎◌, inl, inr, ⊎_elim, ℕ, zero, suc, Bool, true, false, not, ◌&&◌, nat_lt, nat_eq, if◌then◌else◌, Option, Some, None, List, length, is_some, refl, sym, ◌∙◌, ap, subst, arith}
use Rattle.std.specs.List.{AllByRecursion}
use Rattle.std.specs.Option.{unwrap_or}
use Rattle.std.proofs.lemmas.Bool.{cases_eq, eq-eqb, lt-ltb, eqb-false}
use Rattle.std.proofs.lemmas.Option.{same_Some}
use Rattle.frang_base.specs.declared.lock.LockId.TheVariants as lock
use Rattle.tree_definitions.specs.declared.node.Node.{Node}
use Rattle.tree_definitions.specs.declared.node.Node.TheVariants.{Dir, File, Link}
use Rattle.tree_definitions.specs.Touched.{other_room}
use Rattle.tree_definitions.specs.Tree.{FileTree, node_at, small_blocks, large_blocks, small_blocks_of}
use Rattle.disk_definitions.specs.Naming.{Naming, blocks_of, has_large, inode_of, use_by, use_for}
use Rattle.disk_definitions.specs.Store.{Store, StoredNode, Use, is_unused}
use Rattle.disk_definitions.specs.Edits.{Edit}
use Rattle.disk_definitions.specs.Resizing.{index_in}
use Rattle.disk_definitions.proofs.Indices.{index_hit}
use Rattle.disk_definitions.proofs.Kept.{inode_is}
use Rattle.disk_definitions.specs.Meets.{IsOfTree}
use Rattle.disk_definitions.specs.Plans.{Lock}
use Rattle.plan_laws.specs.Keeping.{KeepsInodes}
use Rattle.plan_laws.specs.Locks.{IsSole, IsCovered}
use Rattle.plan_laws.proofs.Totals.{in_range}
use Rattle.plan_laws.specs.Moves.{HasSmall, HasLarge, AreTidy}
use Rattle.disk_definitions.specs.Moves.{first_said, bit_said, use_said, large_said}
use Rattle.plan_laws.proofs.Moving.{node_has, node_has_large, used_small, used_large}
use Rattle.plan_laws.proofs.OnDisk.{one_small, one_large}
use Rattle.plan_laws.proofs.Owned.{sayer, each_covered, bit_covered, use_covered, large_covered}
use Rattle.line_laws.proofs.Coming.{NoneSwaps}
use Rattle.line_laws.proofs.Inodes.{bit_of, comes_said, goes_said}
use Rattle.line_laws.proofs.Squeezed.{squeezed}

-- ---- the blocks of a node, by its inode

first_is : (count : ℕ) (block : ℕ → ℕ) (j : ℕ) → j < count → (if nat_lt j count then block j else 0) ≡ block j
first_is count block j l = rw (lt-ltb j count l) refl

module _ (s : Store) (tree : FileTree) (n : Naming) (of : IsOfTree s tree n) (b : ℕ) where
  -- what stands in the inode is the node's
  stands_there : (node : Node) → node_at tree b ≡ Some node → (x : StoredNode) → s.inode (n.inode b) ≡ Some x → x ≡ inode_of (n.stamp b) (n.block b) (n.large b) node
  stands_there node is x e = let z : Some x ≡ Some (inode_of (n.stamp b) (n.block b) (n.large b) node) = sym e ∙ inode_is s (node_at tree) n of.pictures b node is in cc

  by_inode : (node : Node) (k j : ℕ) → j < (inode_of (n.stamp b) (n.block b) (n.large b) node).blocks → (inode_of (n.stamp b) (n.block b) (n.large b) node).small j ≡ k → (j < small_blocks node) × (n.block b j ≡ k)
  by_inode (Dir entries blocks) k j l e = (l, sym (first_is blocks (n.block b) j l) ∙ e)
  by_inode (File cells links when) k j l e = (l, sym (first_is (small_blocks_of (length cells)) (n.block b) j l) ∙ e)
  by_inode (Link target links) k j l e = absurd (let z : j < 0 = l in omega arith)

  block_at : (node : Node) → node_at tree b ≡ Some node → (k : ℕ) → HasSmall s (n.inode b) k → (j : ℕ) × (j < small_blocks node) × (n.block b j ≡ k)
  block_at node is k h =
      let e = stands_there node is h.node h.is in
      let r = by_inode node k h.index (subst (λ (x : StoredNode). h.index < x.blocks) e h.inside) (sym (ap (λ (x : StoredNode). x.small h.index) e) ∙ h.here) in
      (h.index, r.0, r.1)

  has_block : (node : Node) → node_at tree b ≡ Some node → (j : ℕ) → j < small_blocks node → HasSmall s (n.inode b) (n.block b j)
  has_block node is j l = node_has s (node_at tree) n of.pictures b j (n.block b j) (Some node) is l refl

  -- no two of its blocks are one
  apart : (node : Node) → node_at tree b ≡ Some node → (i j : ℕ) → i < small_blocks node → j < small_blocks node → n.block b i ≡ n.block b j → i ≡ j
  apart node is i j li lj e =
      let x : ℕ × ℕ = (b, i) in
      let y : ℕ × ℕ = (b, j) in
      let own : (k : ℕ) → k < small_blocks node → n.owner (n.block b k) ≡ Some (b, k) = λ k l. of.pictures.owned b k (subst (λ o. k < blocks_of o) (sym is) l) in
      ap (λ z. z.1) (same_Some x y (sym (own i li) ∙ ap n.owner e ∙ own j lj))

  -- its blocks are in use
  in_use : (node : Node) → node_at tree b ≡ Some node → (j : ℕ) → j < small_blocks node → is_unused (s.use_of (n.block b j)) ≡ false
  in_use node is j l =
      let k = n.block b j in
      let o : n.owner k ≡ Some (b, j) = of.pictures.owned b j (subst (λ o. j < blocks_of o) (sym is) l) in
      ap is_unused (of.pictures.uses k ∙ ap (use_for (n.was k) (node_at tree)) o ∙ ap use_by is) ∙ by_node node l
    where
      by_node : (node : Node) → j < small_blocks node → is_unused (use_by (Some node)) ≡ false
      by_node (Dir entries blocks) l = refl
      by_node (File cells links when) l = refl
      by_node (Link target links) l = absurd (let z : j < 0 = l in omega arith)

  large_used : (node : Node) → node_at tree b ≡ Some node → has_large (Some node) ≡ true → s.large_bit (n.large b) ≡ true
  large_used node is h = of.pictures.large_bits (n.large b) ∙ ap is_some (of.pictures.larges b (ap has_large is ∙ h))

  large_at : (node : Node) → node_at tree b ≡ Some node → (k : ℕ) → HasLarge s (n.inode b) k → has_large (Some node) ≡ true
  large_at node is k h = by_node node (sym (ap (λ (x : StoredNode). x.large) (stands_there node is h.node h.is)) ∙ h.here)
    where
      by_size : (c : Bool) (own : ℕ) → (if c then own + 1 else 0) ≡ k + 1 → c ≡ true
      by_size true own e = refl
      by_size false own e = absurd (omega arith)

      by_node : (node : Node) → (inode_of (n.stamp b) (n.block b) (n.large b) node).large ≡ k + 1 → has_large (Some node) ≡ true
      by_node (Dir entries blocks) e = absurd (let z : 0 ≡ k + 1 = e in omega arith)
      by_node (Link target links) e = absurd (let z : 0 ≡ k + 1 = e in omega arith)
      by_node (File cells links when) e = by_size (nat_lt 65536 (length cells)) (n.large b) e

large_count : (node : Node) → large_blocks node ≡ (if has_large (Some node) then 1 else 0)
large_count (Dir entries blocks) = refl
large_count (File cells links when) = refl
large_count (Link target links) = refl

-- the first numbers one of which is said, or none
search_said : (es : List Edit) (f : ℕ → ℕ) (count : ℕ) → ((j : ℕ) × (j < count) × (u : Use) × (first_said (use_said (f j)) es ≡ Some u)) ⊎ ((j : ℕ) → j < count → first_said (use_said (f j)) es ≡ None)
search_said es f zero = inr (λ j l. absurd (omega arith))
search_said es f (suc count) = ⊎_elim (λ r. let l : r.0 < count = r.1 in inl (r.0, omega arith, r.2, r.3)) (λ none. go (first_said (use_said (f count)) es) refl none) (search_said es f count)
  where
    go : (o : Option Use) → first_said (use_said (f count)) es ≡ o → ((j : ℕ) → j < count → first_said (use_said (f j)) es ≡ None)
        → ((j : ℕ) × (j < suc count) × (u : Use) × (first_said (use_said (f j)) es ≡ Some u)) ⊎ ((j : ℕ) → j < suc count → first_said (use_said (f j)) es ≡ None)
    go (Some u) q none = inl (count, omega arith, u, q)
    go None q none = inr (λ j l. ⊎_elim (λ e. ap (λ i. first_said (use_said (f i)) es) e ∙ q) (λ d. none j (grind arith)) (cases_eq j count))

-- a value of the function has an index
none_in : (g : ℕ → ℕ) (v k x : ℕ) → k < v → g k ≡ x → index_in g v x ≡ None → ⊥
none_in g zero k x l e q = omega arith
none_in g (suc v) k x l e q = by_last (nat_eq (g v) x) refl q (λ m p. none_in g v k x m e p)
  where
    by_last : (b : Bool) → nat_eq (g v) x ≡ b → (if b then Some v else index_in g v x) ≡ None → (k < v → index_in g v x ≡ None → ⊥) → ⊥
    by_last true p q rest = cc
    by_last false p q rest = ⊎_elim (λ i. let z : nat_eq (g v) x ≡ true = eq-eqb (g v) x (ap g (sym i) ∙ e) in cc) (λ d. rest (grind arith) q) (cases_eq k v)

-- values that are all among others are at most as many, where they differ
module _ (f g : ℕ → ℕ) (u v : ℕ) (each : (j : ℕ) → j < u → (i : ℕ) × (i < v) × (g i ≡ f j)) (far : (i j : ℕ) → i < u → j < u → f i ≡ f j → i ≡ j) where
  abbrev place : ℕ → ℕ
  place j = unwrap_or (index_in g v (f j)) 0

  found : (j : ℕ) → j < u → (place j < v) × (g (place j) ≡ f j)
  found j l = let r = each j l in go (index_in g v (f j)) refl r.0 r.1 r.2
    where
      go : (o : Option ℕ) → index_in g v (f j) ≡ o → (i : ℕ) → i < v → g i ≡ f j → (unwrap_or o 0 < v) × (g (unwrap_or o 0) ≡ f j)
      go (Some i) q k m e = let h = index_hit g v (f j) i q in (h.1, h.0)
      go None q k m e = absurd (none_in g v k (f j) m e q)

  among_others : u ≤ v
  among_others = squeezed v u place (λ j l. (found j l).0) (λ i j li lj e. far i j li lj (sym (found i li).1 ∙ ap g e ∙ (found j lj).1))

module _ (s t : Store) (tree to : FileTree) (n m : Naming) (es : List Edit) (locks : List Lock) (of : IsOfTree s tree n) (after : IsOfTree t to m) (tidy : AreTidy s t es) (keeps : KeepsInodes tree to n m) (swaps : NoneSwaps tree to)
    (covered : AllByRecursion (IsCovered locks) es) (size : to.segments ≡ tree.segments) where
  abbrev Held : Type 0
  Held = (segment : ℕ) × (segment < tree.segments) × IsSole locks (lock.Segment segment)

  bit_held : (i : ℕ) (v : Bool) → i < 64 * tree.segments → first_said (bit_said i) es ≡ Some v → Held
  bit_held i v l e = let r = sayer (bit_said i) es v e in (i / 64, omega arith, bit_covered locks i v r.0 r.2 (each_covered locks es covered r.0 r.1))

  use_held : (k : ℕ) (u : Use) → k < 1024 * tree.segments → first_said (use_said k) es ≡ Some u → Held
  use_held k u l e = let r = sayer (use_said k) es u e in (k / 1024, omega arith, use_covered locks k u r.0 r.2 (each_covered locks es covered r.0 r.1))

  large_held : (g : ℕ) (v : Bool) → g < tree.segments → first_said (large_said g) es ≡ Some v → Held
  large_held g v l e = let r = sayer (large_said g) es v e in (g, l, large_covered locks g v r.0 r.2 (each_covered locks es covered r.0 r.1))

  here : (i : ℕ) → i < 64 * to.segments → i < 64 * tree.segments
  here i l = subst (λ k. i < 64 * k) size l

  -- ---- a node that comes or goes
  comes_held : (b : ℕ) → node_at tree b ≡ None → is_some (node_at to b) ≡ true → Held
  comes_held b none there = bit_held (m.inode b) true (here (m.inode b) (after.inodes (m.inode b) (bit_of t to m after b there))) (comes_said s t tree to n m es of after tidy keeps swaps b none there)

  goes_held : (c : ℕ) → is_some (node_at tree c) ≡ true → node_at to c ≡ None → Held
  goes_held c was gone = let r = goes_said s t tree to n m es of after tidy keeps swaps c was gone in bit_held (n.inode c) r.0 (of.inodes (n.inode c) (bit_of s tree n of c was)) r.1

  -- ---- a node that stays
  module _ (b : ℕ) (x y : Node) (is : node_at tree b ≡ Some x) (now : node_at to b ≡ Some y) where
    same : m.inode b ≡ n.inode b
    same = keeps b (ap is_some is) (ap is_some now)

    -- its small blocks, where nothing is said of the old ones, or of the new ones
    old_stay : ((j : ℕ) → j < small_blocks x → first_said (use_said (n.block b j)) es ≡ None) → small_blocks x ≤ small_blocks y
    old_stay none =
        among_others (n.block b) (m.block b) (small_blocks x) (small_blocks y)
        (λ j l. block_at t to m after b y now (n.block b j) (subst (λ i. HasSmall t i (n.block b j)) (sym same) (tidy.keeps (n.inode b) (n.block b j) (has_block s tree n of b x is j l) (none j l))))
        (apart s tree n of b x is)

    new_were : ((j : ℕ) → j < small_blocks y → first_said (use_said (m.block b j)) es ≡ None) → small_blocks y ≤ small_blocks x
    new_were none = among_others (m.block b) (n.block b) (small_blocks y) (small_blocks x) was (apart t to m after b y now)
      where
        was : (j : ℕ) → j < small_blocks y → (i : ℕ) × (i < small_blocks x) × (n.block b i ≡ m.block b j)
        was j l =
            let k = m.block b j in
            let unsaid : t.use_of k ≡ s.use_of k = tidy.uses k ∙ ap (λ o. unwrap_or o (s.use_of k)) (none j l) in
            let r = used_small s (node_at tree) n of.pictures k (ap is_unused (sym unsaid) ∙ in_use t to m after b y now j l) in
            let own : r.0 ≡ m.inode b = one_small t (node_at to) m after.pictures r.0 (m.inode b) k (tidy.keeps r.0 k r.1 (none j l)) (has_block t to m after b y now j l) in
            block_at s tree n of b x is k (subst (λ i. HasSmall s i k) (own ∙ same) r.1)

    small_held : small_blocks x ≢ small_blocks y → Held
    small_held differ =
        ⊎_elim (λ r. use_held (n.block b r.0) r.2 (in_range s tree n of (n.block b r.0) (in_use s tree n of b x is r.0 r.1)) r.3)
        (λ old. ⊎_elim
        (λ r. use_held (m.block b r.0) r.2 (subst (λ k. m.block b r.0 < 1024 * k) size (in_range t to m after (m.block b r.0) (in_use t to m after b y now r.0 r.1))) r.3)
        (λ new. let p : small_blocks x ≤ small_blocks y = old_stay old in let q : small_blocks y ≤ small_blocks x = new_were new in absurd (differ (omega arith)))
        (search_said es (m.block b) (small_blocks y)))
        (search_said es (n.block b) (small_blocks x))

    -- its large block
    loses_large : has_large (Some x) ≡ true → has_large (Some y) ≡ false → Held
    loses_large had lost = go (first_said (large_said (n.large b)) es) refl
      where
        own : HasLarge s (n.inode b) (n.large b)
        own = node_has_large s (node_at tree) n of.pictures b (n.large b) (Some x) is had refl

        go : (o : Option Bool) → first_said (large_said (n.large b)) es ≡ o → Held
        go (Some v) q = large_held (n.large b) v (of.larges (n.large b) (large_used s tree n of b x is had)) q
        go None q =
            let z : has_large (Some y) ≡ true = large_at t to m after b y now (n.large b) (subst (λ i. HasLarge t i (n.large b)) (sym same) (tidy.keeps_large (n.inode b) (n.large b) own q)) in
            absurd (cc)

    gets_large : has_large (Some x) ≡ false → has_large (Some y) ≡ true → Held
    gets_large had has = go (first_said (large_said (m.large b)) es) refl
      where
        own : HasLarge t (m.inode b) (m.large b)
        own = node_has_large t (node_at to) m after.pictures b (m.large b) (Some y) now has refl

        used : t.large_bit (m.large b) ≡ true
        used = large_used t to m after b y now has

        go : (o : Option Bool) → first_said (large_said (m.large b)) es ≡ o → Held
        go (Some v) q = large_held (m.large b) v (subst (λ k. m.large b < k) size (after.larges (m.large b) used)) q
        go None q =
            let bit : t.large_bit (m.large b) ≡ s.large_bit (m.large b) = tidy.larges (m.large b) ∙ ap (λ o. unwrap_or o (s.large_bit (m.large b))) q in
            let r = used_large s (node_at tree) n of.pictures (m.large b) (sym bit ∙ used) in
            let one : r.0 ≡ m.inode b = one_large t (node_at to) m after.pictures r.0 (m.inode b) (m.large b) (tidy.keeps_large r.0 (m.large b) r.1 q) own in
            let z : has_large (Some x) ≡ true = large_at s tree n of b x is (m.large b) (subst (λ i. HasLarge s i (m.large b)) (one ∙ same) r.1) in
            absurd (cc)

    large_differs : large_blocks x ≢ large_blocks y → Held
    large_differs differ = go (has_large (Some x)) refl (has_large (Some y)) refl
      where
        counts : (c : Bool) → has_large (Some x) ≡ c → has_large (Some y) ≡ c → large_blocks x ≡ large_blocks y
        counts c p q = large_count x ∙ ap (λ v. if v then 1 else 0) (p ∙ sym q) ∙ sym (large_count y)

        go : (a : Bool) → has_large (Some x) ≡ a → (c : Bool) → has_large (Some y) ≡ c → Held
        go true p true q = absurd (differ (counts true p q))
        go false p false q = absurd (differ (counts false p q))
        go true p false q = loses_large p q
        go false p true q = gets_large p q

    stays_held : other_room (Some x) (Some y) ≡ true → Held
    stays_held = go (nat_eq (small_blocks x) (small_blocks y)) refl (nat_eq (large_blocks x) (large_blocks y)) refl
      where
        go : (a : Bool) → nat_eq (small_blocks x) (small_blocks y) ≡ a → (c : Bool) → nat_eq (large_blocks x) (large_blocks y) ≡ c → not (a && c) ≡ true → Held
        go false p c q e = small_held (eqb-false (small_blocks x) (small_blocks y) p)
        go true p false q e = large_differs (eqb-false (large_blocks x) (large_blocks y) q)
        go true p true q e = absurd (cc)

  pub room_held : (b : ℕ) → other_room (node_at tree b) (node_at to b) ≡ true → Held
  room_held b = go (node_at tree b) refl (node_at to b) refl
    where
      go : (o : Option Node) → node_at tree b ≡ o → (p : Option Node) → node_at to b ≡ p → other_room o p ≡ true → Held
      go None is None now e = absurd (cc)
      go None is (Some y) now e = comes_held b is (ap is_some now)
      go (Some x) is None now e = goes_held b (ap is_some is) now
      go (Some x) is (Some y) now e = stays_held b x y is now e
