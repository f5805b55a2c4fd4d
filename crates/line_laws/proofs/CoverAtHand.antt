-- Where the inode that has a block is at hand, or a held segment has what is looked at free, the cover by what is at hand is the cover by the naming.
use Rattle.std.proofs.Common.{ℕ, ◌≡◌, ◌<◌, ◌+◌, ◌*◌, ◌/◌, ◌||◌, inl, inr, ⊎_elim, Bool, true, false, if◌then◌else◌, Option, Some, None, List, [], ◌∷◌, is_some, refl, sym, ◌∙◌, ap, arith, eqb-true}
use Rattle.std.proofs.lemmas.Bool.{cases_lt, eq-eqb, le-ltb}
use Rattle.std.specs.List.{Contains}
use Rattle.frang_base.specs.declared.lock.LockId.TheVariants as lock
use Rattle.frang_base.specs.declared.op.Op.TheVariants as op
use Rattle.tree_definitions.specs.Tree.{FileTree, node_at}
use Rattle.sector_bytes.specs.Sectors.{Sectors}
use Rattle.disk_definitions.specs.Naming.{Naming, Pictures}
use Rattle.disk_definitions.specs.Store.{Store, StoredNode, is_unused, store_of}
use Rattle.disk_definitions.specs.Resizing.{index_in}
use Rattle.disk_definitions.proofs.Indices.{index_hit}
use Rattle.disk_definitions.specs.Held.{Segments, inode_in, state_in, large_in}
use Rattle.disk_definitions.specs.Picks.{is_free, is_in_state}
use Rattle.disk_definitions.proofs.LeastLaws.{least_at}
use Rattle.disk_definitions.proofs.PickLaws.{free_is, state_is}
use Rattle.disk_definitions.specs.Ask.{Sector, InodeAt, DirectoryAt, SegmentAt, BytesAt, LargeAt}
use Rattle.disk_definitions.specs.Meets.{IsOfTree, IsHandOf}
use Rattle.disk_definitions.specs.OnDisk.{AreOfDisk, StandsBelow}
use Rattle.disk_definitions.specs.Written.{Cached, hand_of, inode_at_hand}
use Rattle.disk_definitions.specs.Covers as true_covers
use Rattle.disk_definitions.specs.Covers.{cover_of}
use Rattle.plan_laws.proofs.Standing.{stands}
use Rattle.plan_laws.specs.Moves.{HasSmall, HasLarge}
use Rattle.plan_laws.proofs.Moving.{by_bit, inode_lock, small_lock, free_lock, large_lock, free_large}
use Rattle.plan_laws.proofs.OneNode.{small_of}
use Rattle.line_laws.proofs.AtHand.{agrees}
use Rattle.line_laws.proofs.Edited.{hand}
use Rattle.line_laws.proofs.OfDisk.{of_tree}
use Rattle.disk_definitions.specs.CoversAtHand.{has_small, has_large, small_owner, large_owner, node_or_segment, inode_cover, is_marked_unused, small_cover, large_cover, cover_at_hand}
use Rattle.line_laws.specs.Told.{IsInodeTold, IsSmallTold, IsLargeTold, IsTold}

module _ (cached : Cached) (held : Segments) (all : Bool) (sectors : Sectors) (tree : FileTree) (of : AreOfDisk cached held all tree.segments sectors) (below : StandsBelow sectors tree) where
  abbrev pub s : Store
  s = store_of tree.segments sectors

  abbrev pub n : Naming
  n = below.stands.naming

  pub is_of : IsOfTree s tree n
  is_of = of_tree sectors tree below

  pub is_hand : IsHandOf (hand_of cached held all) s tree.segments
  is_hand = hand op.Sync cached held all sectors tree 0 0 of below

  g : Pictures s (node_at tree) n
  g = is_of.pictures

  -- the inodes among these sectors are at hand
  abbrev pub Had : List Sector → Type 0
  Had before = (i : ℕ) → Contains before (InodeAt i) → inode_at_hand cached i ≡ Some (s.inode i)

  inode_inside : (i : ℕ) (x : StoredNode) → s.inode i ≡ Some x → i < 64 * tree.segments
  inode_inside i x e = ⊎_elim (λ l. l) (λ past. absurd (let none : s.inode i ≡ None = rw (le-ltb i (64 * tree.segments) past) refl in let z : None ≡ Some x = sym none ∙ e in cc)) (cases_lt i (64 * tree.segments))

  inode_agrees : (i : ℕ) → i < 64 * tree.segments → (o : Option StoredNode) → inode_at_hand cached i ≡ Some o → o ≡ s.inode i
  inode_agrees i l o e = (agrees cached held tree.segments sectors of.as_cached below.whole (InodeAt i ∷ []) (l, tt)).0 o e

  -- ---- inodes

  free_inode : (i : ℕ) → inode_in held i ≡ Some false → true_covers.inode_cover i (n.birth i) ≡ lock.Segment (i / 64)
  free_inode i e = inode_lock s (node_at tree) n g i ∙ ap (by_bit i) (is_hand.bits i false e)

  pub inode_true : (i : ℕ) → IsInodeTold s held i → inode_cover held i ≡ true_covers.inode_cover i (n.birth i)
  inode_true i told = go (is_free (inode_in held i)) refl told
    where
      go : (b : Bool) → is_free (inode_in held i) ≡ b → IsInodeTold s held i → (if b then lock.Segment (i / 64) else lock.Node i) ≡ true_covers.inode_cover i (n.birth i)
      go true e told = sym (free_inode i (free_is (inode_in held i) e))
      go false e (inl (x, is)) = sym (stands s (node_at tree) n g i x is).own
      go false e (inr f) = absurd (let z : is_free (inode_in held i) ≡ true = ap is_free f in cc)

  -- ---- small blocks

  pub marked_free : (k : ℕ) → is_marked_unused held k ≡ true → true_covers.small_cover n k (n.owner k) ≡ lock.Segment (k / 1024)
  marked_free k = go (is_in_state 0 (state_in held k)) refl (is_in_state 2 (state_in held k)) refl
    where
      go : (a : Bool) → is_in_state 0 (state_in held k) ≡ a → (b : Bool) → is_in_state 2 (state_in held k) ≡ b → (a || b) ≡ true → true_covers.small_cover n k (n.owner k) ≡ lock.Segment (k / 1024)
      go true p b q e = free_lock s (node_at tree) n g k (ap is_unused (is_hand.states k 0 (state_is 0 (state_in held k) p)))
      go false p true q e = free_lock s (node_at tree) n g k (ap is_unused (is_hand.states k 2 (state_is 2 (state_in held k) q)))
      go false p false q e = absurd (cc)

  same_node : (i j : ℕ) → lock.Node j ≡ lock.Node i → j < i → ⊥
  same_node i j e l = let z : j ≡ i = cc in omega arith

  has_block : (k j : ℕ) → j < 64 * tree.segments → (o : Option (Option StoredNode)) → inode_at_hand cached j ≡ o → has_small k o ≡ true → HasSmall s j k
  has_block k j l None e t = absurd (cc)
  has_block k j l (Some None) e t = absurd (cc)
  has_block k j l (Some (Some y)) e t = by_index (index_in y.small y.blocks k) refl t
    where
      by_index : (o : Option ℕ) → index_in y.small y.blocks k ≡ o → is_some o ≡ true → HasSmall s j k
      by_index None p t = absurd (cc)
      by_index (Some m) p t = let r = index_hit y.small y.blocks k m p in record { node = y; is = sym (inode_agrees j l (Some y) e); index = m; inside = r.1; here = r.0 }

  small_owner_is : (i k : ℕ) → inode_at_hand cached i ≡ Some (s.inode i) → HasSmall s i k → small_owner cached tree.segments k ≡ Some i
  small_owner_is i k had has =
      let l : i < 64 * tree.segments = inode_inside i has.node has.is in
      least_at test i (64 * tree.segments) l
      (ap (has_small k) (had ∙ ap Some has.is) ∙ small_of k has.index has.node has.inside has.here)
      (λ j m. none_before j m (omega arith) (test j) refl)
    where
      test : ℕ → Bool
      test j = has_small k (inode_at_hand cached j)

      none_before : (j : ℕ) → j < i → j < 64 * tree.segments → (b : Bool) → test j ≡ b → b ≡ false
      none_before j m l false e = refl
      none_before j m l true e =
          absurd (same_node i j (sym (small_lock s (node_at tree) n g j k (has_block k j l (inode_at_hand cached j) refl e)) ∙ small_lock s (node_at tree) n g i k has) m)

  small_true : (k : ℕ) (before : List Sector) → Had before → IsSmallTold s held before k → small_cover cached held tree.segments k ≡ true_covers.small_cover n k (n.owner k)
  small_true k before had told = go (is_marked_unused held k) refl told
    where
      go : (b : Bool) → is_marked_unused held k ≡ b → IsSmallTold s held before k →
          (if b then lock.Segment (k / 1024) else node_or_segment (small_owner cached tree.segments k) (k / 1024)) ≡ true_covers.small_cover n k (n.owner k)
      go true e told = sym (marked_free k e)
      go false e (inl (i, c, has)) = ap (λ o. node_or_segment o (k / 1024)) (small_owner_is i k (had i c) has) ∙ sym (small_lock s (node_at tree) n g i k has)
      go false e (inr f) = absurd (cc)

  -- ---- large blocks

  has_large_block : (k j : ℕ) → j < 64 * tree.segments → (o : Option (Option StoredNode)) → inode_at_hand cached j ≡ o → has_large k o ≡ true → HasLarge s j k
  has_large_block k j l None e t = absurd (cc)
  has_large_block k j l (Some None) e t = absurd (cc)
  has_large_block k j l (Some (Some y)) e t = record { node = y; is = sym (inode_agrees j l (Some y) e); here = eqb-true y.large (k + 1) t }

  large_owner_is : (i k : ℕ) → inode_at_hand cached i ≡ Some (s.inode i) → HasLarge s i k → large_owner cached tree.segments k ≡ Some i
  large_owner_is i k had has =
      let l : i < 64 * tree.segments = inode_inside i has.node has.is in
      least_at test i (64 * tree.segments) l
      (ap (has_large k) (had ∙ ap Some has.is) ∙ eq-eqb has.node.large (k + 1) has.here)
      (λ j m. none_before j m (omega arith) (test j) refl)
    where
      test : ℕ → Bool
      test j = has_large k (inode_at_hand cached j)

      none_before : (j : ℕ) → j < i → j < 64 * tree.segments → (b : Bool) → test j ≡ b → b ≡ false
      none_before j m l false e = refl
      none_before j m l true e =
          absurd (same_node i j (sym (large_lock s (node_at tree) n g j k (has_large_block k j l (inode_at_hand cached j) refl e)) ∙ large_lock s (node_at tree) n g i k has) m)

  large_true : (k : ℕ) (before : List Sector) → Had before → IsLargeTold s before k → large_cover cached held tree.segments k ≡ true_covers.large_cover n k (n.large_owner k)
  large_true k before had (i, c, has) = go (is_free (large_in held k)) refl
    where
      go : (b : Bool) → is_free (large_in held k) ≡ b → (if b then lock.Segment k else node_or_segment (large_owner cached tree.segments k) k) ≡ true_covers.large_cover n k (n.large_owner k)
      go true e = sym (free_large s (node_at tree) n g k (is_hand.larges k false (free_is (large_in held k) e)))
      go false e = ap (λ o. node_or_segment o k) (large_owner_is i k (had i c) has) ∙ sym (large_lock s (node_at tree) n g i k has)

  -- a sector that was told of by sectors at hand
  pub told_true : (before : List Sector) → Had before → (x : Sector) → IsTold s held before x → cover_at_hand cached held tree.segments x ≡ cover_of n x
  told_true before had (InodeAt i) told = inode_true i told
  told_true before had (DirectoryAt k part) told = small_true k before had told
  told_true before had (SegmentAt k) told = refl
  told_true before had (BytesAt k part) told = small_true k before had told
  told_true before had (LargeAt g part) told = large_true g before had told
