-- In a store that pictures a tree bits, blocks and large blocks agree with the inodes.
use Rattle.std.proofs.Common.{◌≡◌, ℕ, ◌+◌, ◌-◌, ◌*◌, ◌/◌, ◌%◌, ◌<◌, ◌≤◌, ⊎_elim, Bool, true, false, not, ◌||◌, Option, Some, None, is_some, refl, sym, ◌∙◌, ap, subst, arith, nat_lt, ltb-true, lt-ltb}
use Rattle.std.proofs.lemmas.Bool.{cases_lt, cond-true, cond-false, both_ways, not_from_false, or_left, or_right}
use Rattle.std.proofs.lemmas.Nat.{div-add-mod'}
use Rattle.std.proofs.lemmas.Option.{same_Some}
use Rattle.tree_definitions.specs.declared.node.Node.{Node}
use Rattle.tree_definitions.specs.declared.node.Node.TheVariants.{Dir, File, Link}
use Rattle.disk_definitions.specs.Store.{Store, StoredNode, Use, is_unused}
use Rattle.disk_definitions.specs.Store.Use.{Fresh, Bytes, Empty, Entries as OfEntries}
use Rattle.disk_definitions.specs.Naming.{Naming, Nodes, Pictures, kind_of, blocks_of, has_large, inode_for, use_by, use_for}
use Rattle.standing_laws.specs.Below.{all_below, lists, are_distinct}
use Rattle.standing_laws.specs.Soundness.{agree, bit_agrees, block_in, block_at, is_used_for, use_agrees, is_cleared, large_in, large_at, is_marked}
use Rattle.standing_laws.proofs.Bounded.{all_from, lists_from, distinct_from}
use Rattle.standing_laws.proofs.Shapes.{Shape}
use Rattle.standing_laws.proofs.Pictured.{IsInRange}
use Rattle.standing_laws.proofs.PicturedBlocks.{place_is, in_slot, slot_in, few, in_large}
use Rattle.standing_laws.proofs.Stored.{made_by, made_kind, made_blocks, made_small, made_large, large_made, of_birth, of_inode}

pub agree_same : (a b : Bool) → a ≡ b → agree a b ≡ true
agree_same true b e = sym e
agree_same false b e = ap not (sym e)

used_for : (y : Node) (j : ℕ) → j < blocks_of (Some y) → is_used_for (kind_of y) (use_by (Some y)) ≡ true
used_for (Dir es k) j l = refl
used_for (File cells links when) j l = refl
used_for (Link target links) j l = absurd (omega arith)

unused_free : (was : Bool) (at : Nodes) → is_unused (use_for was at None) ≡ true
unused_free true at = refl
unused_free false at = refl

same_place : (t u : ℕ) → t / 16 ≡ u / 16 → t % 16 ≡ u % 16 → t ≡ u
same_place t u e f = sym (div-add-mod' t 16) ∙ ap (λ q. q * 16 + t % 16) e ∙ ap (λ r. u / 16 * 16 + r) f ∙ div-add-mod' u 16

module _ (segments : ℕ) (s : Store) (range : IsInRange segments s) (shapes : (i : ℕ) (x : StoredNode) → s.inode i ≡ Some x → Shape x) (at : Nodes) (n : Naming) (p : Pictures s at n) where
  used_below : (i : ℕ) (x : StoredNode) → s.inode i ≡ Some x → i < 64 * segments
  used_below i x e = ⊎_elim (λ l. l) (λ l. absurd (let z : None ≡ Some x = sym (range.inodes i l) ∙ e in cc)) (cases_lt i (64 * segments))

  pub inode_some : (i : ℕ) → is_some (s.inode i) ≡ is_some (n.birth i)
  inode_some i = go (n.birth i) refl
    where
      go : (o : Option ℕ) → n.birth i ≡ o → is_some (s.inode i) ≡ is_some (n.birth i)
      go None e = ap is_some (p.inodes i ∙ ap (inode_for n at) e) ∙ sym (ap is_some e)
      go (Some b) e = here (at b) refl
        where
          here : (o : Option Node) → at b ≡ o → is_some (s.inode i) ≡ is_some (n.birth i)
          here None f = absurd (both_ways (is_some (at b)) (ap is_some f) (p.whose i b e).1)
          here (Some y) f = ap is_some (ap s.inode (sym (p.whose i b e).0) ∙ of_birth s at n p b y f) ∙ sym (ap is_some e)

  pub bits_agree : all_below (64 * segments) (bit_agrees s) ≡ true
  bits_agree = all_from (64 * segments) (bit_agrees s) (λ i l. agree_same (s.bit i) (is_some (s.inode i)) (p.bits i ∙ sym (inode_some i)))

  -- a block of an inode has its owner
  owner : (i : ℕ) (x : StoredNode) (e : s.inode i ≡ Some x) (j : ℕ) → j < x.blocks → n.owner (x.small j) ≡ Some ((of_inode s at n p i x e).birth, j)
  owner i x e j l =
      let h = of_inode s at n p i x e in
      let l2 : j < blocks_of (Some h.node) = subst (λ k. j < k) (ap (λ y. y.blocks) h.is ∙ made_blocks n h.birth h.node) l in
      ap n.owner (ap (λ y. y.small j) h.is ∙ made_small n h.birth h.node j l2) ∙ p.owned h.birth j (subst (λ o. j < blocks_of o) (sym h.found) l2)

  once : (t u k : ℕ) → block_at s t ≡ Some k → block_at s u ≡ Some k → t ≡ u
  once t u k e f =
      let a = in_slot (s.inode (t / 16)) (t % 16) k e in
      let b = in_slot (s.inode (u / 16)) (u % 16) k f in
      let h = of_inode s at n p (t / 16) a.0 a.1 in
      let g = of_inode s at n p (u / 16) b.0 b.1 in
      let x : n.owner k ≡ Some (h.birth, t % 16) = ap n.owner (sym a.3) ∙ owner (t / 16) a.0 a.1 (t % 16) a.2 in
      let y : n.owner k ≡ Some (g.birth, u % 16) = ap n.owner (sym b.3) ∙ owner (u / 16) b.0 b.1 (u % 16) b.2 in
      let q : (h.birth, t % 16) ≡ (g.birth, u % 16) = same_Some (h.birth, t % 16) (g.birth, u % 16) (sym x ∙ y) in
      same_place t u (sym h.numbered ∙ ap (λ v. n.inode v.0) q ∙ g.numbered) (ap (λ v. v.1) q)

  pub blocks_once : are_distinct (block_at s) (1024 * segments) ≡ true
  blocks_once = distinct_from (block_at s) (1024 * segments) (λ t u k v w e f. once t u k e f)

  uses_at : (t : ℕ) → use_agrees s (s.inode (t / 16)) (t % 16) ≡ true
  uses_at t = go (s.inode (t / 16)) refl
    where
      in_use : (x : StoredNode) → s.inode (t / 16) ≡ Some x → (b : Bool) → nat_lt (t % 16) x.blocks ≡ b → use_agrees s (Some x) (t % 16) ≡ true
      in_use x e false l = cond-false (nat_lt (t % 16) x.blocks) (is_used_for x.kind (s.use_of (x.small (t % 16)))) true l
      in_use x e true l =
          let j = t % 16 in
          let h = of_inode s at n p (t / 16) x e in
          let w : j < x.blocks = ltb-true j x.blocks l in
          let w2 : j < blocks_of (Some h.node) = subst (λ k. j < k) (ap (λ y. y.blocks) h.is ∙ made_blocks n h.birth h.node) w in
          let u : s.use_of (x.small j) ≡ use_by (Some h.node) = p.uses (x.small j) ∙ ap (use_for (n.was (x.small j)) at) (owner (t / 16) x e j w) ∙ ap use_by h.found in
          let k : x.kind ≡ kind_of h.node = ap (λ y. y.kind) h.is ∙ made_kind n h.birth h.node in
          cond-true (nat_lt j x.blocks) (is_used_for x.kind (s.use_of (x.small j))) true l ∙ ap (λ k. is_used_for k (s.use_of (x.small j))) k ∙ ap (is_used_for (kind_of h.node)) u ∙ used_for h.node j w2

      go : (o : Option StoredNode) → s.inode (t / 16) ≡ o → use_agrees s (s.inode (t / 16)) (t % 16) ≡ true
      go None e = ap (λ o. use_agrees s o (t % 16)) e
      go (Some x) e = ap (λ o. use_agrees s o (t % 16)) e ∙ in_use x e (nat_lt (t % 16) x.blocks) refl

  pub uses_agree : all_below (1024 * segments) (λ t. use_agrees s (s.inode (t / 16)) (t % 16)) ≡ true
  uses_agree = all_from (1024 * segments) (λ t. use_agrees s (s.inode (t / 16)) (t % 16)) (λ t l. uses_at t)

  -- a block with an owner is listed
  is_listed : (k b j : ℕ) → n.owner k ≡ Some (b, j) → lists (block_at s) (1024 * segments) k ≡ true
  is_listed k b j e = go (at b) refl
    where
      go : (o : Option Node) → at b ≡ o → lists (block_at s) (1024 * segments) k ≡ true
      go None f = absurd (let l : j < blocks_of (at b) = (p.owners k b j e).1 in let z : blocks_of (at b) ≡ 0 = ap blocks_of f in omega arith)
      go (Some y) f =
          let o = p.owners k b j e in
          let i = n.inode b in
          let x = made_by n b y in
          let h : s.inode i ≡ Some x = of_birth s at n p b y f in
          let l : j < blocks_of (Some y) = subst (λ o. j < blocks_of o) f o.1 in
          let l2 : j < x.blocks = subst (λ k. j < k) (sym (made_blocks n b y)) l in
          let w : x.blocks ≤ 16 = few x (shapes i x h) in
          let d = place_is i j (omega arith) in
          let v : i < 64 * segments = used_below i x h in
          lists_from (block_at s) (1024 * segments) k (i * 16 + j) (omega arith)
          (ap (λ q. block_in (s.inode q) ((i * 16 + j) % 16)) d.0 ∙ ap (block_in (s.inode i)) d.1 ∙ slot_in (s.inode i) x j h l2 ∙ ap (λ k. Some k) (made_small n b y j l ∙ o.0))

  pub blocks_listed : all_below (1024 * segments) (λ k. lists (block_at s) (1024 * segments) k || is_unused (s.use_of k)) ≡ true
  blocks_listed = all_from (1024 * segments) (λ k. lists (block_at s) (1024 * segments) k || is_unused (s.use_of k)) (λ k l. each k (n.owner k) refl)
    where
      each : (k : ℕ) (o : Option (ℕ × ℕ)) → n.owner k ≡ o → (lists (block_at s) (1024 * segments) k || is_unused (s.use_of k)) ≡ true
      each k None e = or_right (lists (block_at s) (1024 * segments) k) (is_unused (s.use_of k)) (ap is_unused (p.uses k ∙ ap (use_for (n.was k) at) e) ∙ unused_free (n.was k) at)
      each k (Some o) e = or_left (lists (block_at s) (1024 * segments) k) (is_unused (s.use_of k)) (is_listed k o.0 o.1 e)

  pub blocks_cleared : all_below (1024 * segments) (λ k. is_cleared s k (s.use_of k)) ≡ true
  blocks_cleared = all_from (1024 * segments) (λ k. is_cleared s k (s.use_of k)) (λ k l. each k (s.use_of k) refl)
    where
      each : (k : ℕ) (u : Use) → s.use_of k ≡ u → is_cleared s k u ≡ true
      each k Fresh e = refl
      each k Bytes e = refl
      each k Empty e = all_from 56 (λ q. not (is_some (s.place k q))) (λ q l. not_from_false (is_some (s.place k q)) (ap is_some (p.emptied k q l e)))
      each k OfEntries e = refl

  -- a large block that is found has its owner
  large_owner : (i g : ℕ) → large_at s i ≡ Some g → (b : ℕ) × (n.large_owner g ≡ Some b) × (n.inode b ≡ i)
  large_owner i g e =
      let a = in_large (s.inode i) g e in
      let x = a.0 in
      let h = of_inode s at n p i x a.1 in
      let k : has_large (Some h.node) ≡ true = large_made n h.birth h.node (ap (λ y. nat_lt 0 y.large) (sym h.is) ∙ a.2) in
      let l : x.large ≡ n.large h.birth + 1 = ap (λ y. y.large) h.is ∙ made_large n h.birth h.node k in
      let m : x.large - 1 ≡ g = a.3 in
      let o : n.large h.birth ≡ g = omega arith in
      (h.birth, ap n.large_owner (sym o) ∙ p.larges h.birth (ap has_large h.found ∙ k), h.numbered)

  pub larges_once : are_distinct (large_at s) (64 * segments) ≡ true
  larges_once = distinct_from (large_at s) (64 * segments) (λ i j g v w e f. (
      let a = large_owner i g e in
      let b = large_owner j g f in
      let z : Some a.0 ≡ Some b.0 = sym a.1 ∙ b.1 in
      let q : a.0 ≡ b.0 = cc in
      sym a.2 ∙ ap n.inode q ∙ b.2))

  pub larges_marked : all_below (64 * segments) (λ i. is_marked s (large_at s i)) ≡ true
  larges_marked = all_from (64 * segments) (λ i. is_marked s (large_at s i)) (λ i l. each i (large_at s i) refl)
    where
      each : (i : ℕ) (o : Option ℕ) → large_at s i ≡ o → is_marked s o ≡ true
      each i None e = refl
      each i (Some g) e = p.large_bits g ∙ ap is_some (large_owner i g e).1

  large_is_listed : (g b : ℕ) → n.large_owner g ≡ Some b → lists (large_at s) (64 * segments) g ≡ true
  large_is_listed g b e = go (at b) refl
    where
      go : (o : Option Node) → at b ≡ o → lists (large_at s) (64 * segments) g ≡ true
      go None f = absurd (both_ways (has_large (at b)) (ap has_large f) (p.large_owners g b e).1)
      go (Some y) f =
          let o = p.large_owners g b e in
          let i = n.inode b in
          let x = made_by n b y in
          let h : s.inode i ≡ Some x = of_birth s at n p b y f in
          let l : x.large ≡ n.large b + 1 = made_large n b y (sym (ap has_large f) ∙ o.1) in
          let z : n.large b ≡ g = o.0 in
          let w : 0 < x.large = omega arith in
          let v : x.large - 1 ≡ g = omega arith in
          lists_from (large_at s) (64 * segments) g i (used_below i x h) (ap large_in h ∙ cond-true (nat_lt 0 x.large) (Some (x.large - 1)) None (lt-ltb 0 x.large w) ∙ ap (λ k. Some k) v)

  pub larges_listed : all_below segments (λ g. lists (large_at s) (64 * segments) g || not (s.large_bit g)) ≡ true
  larges_listed = all_from segments (λ g. lists (large_at s) (64 * segments) g || not (s.large_bit g)) (λ g l. each g (n.large_owner g) refl)
    where
      each : (g : ℕ) (o : Option ℕ) → n.large_owner g ≡ o → (lists (large_at s) (64 * segments) g || not (s.large_bit g)) ≡ true
      each g None e = or_right (lists (large_at s) (64 * segments) g) (not (s.large_bit g)) (not_from_false (s.large_bit g) (p.large_bits g ∙ ap is_some e))
      each g (Some b) e = or_left (lists (large_at s) (64 * segments) g) (not (s.large_bit g)) (large_is_listed g b e)
