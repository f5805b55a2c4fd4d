-- Where the node that has a block is among some nodes that are at hand, or a held segment has the block free, the cover by these nodes is the cover by the naming.
use Rattle.std.proofs.Common.{ℕ, ◌≡◌, ◌+◌, ◌/◌, inl, inr, Bool, true, false, if◌then◌else◌, Option, Some, None, List, [], ◌∷◌, find, is_some, refl, sym, ◌∙◌, ap, eqb-true}
use Rattle.std.proofs.lemmas.Bool.{eq-eqb}
use Rattle.std.specs.List.{Contains}
use Rattle.frang_base.specs.declared.lock.LockId.TheVariants as lock
use Rattle.tree_definitions.specs.Tree.{FileTree, node_at}
use Rattle.sector_bytes.specs.Sectors.{Sectors}
use Rattle.disk_definitions.specs.Naming.{Naming, Pictures}
use Rattle.disk_definitions.specs.Store.{Store, StoredNode, is_unused}
use Rattle.disk_definitions.specs.Resizing.{index_in}
use Rattle.disk_definitions.proofs.Indices.{index_hit}
use Rattle.disk_definitions.proofs.Listed.{Among}
use Rattle.disk_definitions.specs.Held.{Segments}
use Rattle.disk_definitions.specs.Ask.{Sector, InodeAt, DirectoryAt, SegmentAt, BytesAt, LargeAt}
use Rattle.disk_definitions.specs.OnDisk.{AreOfDisk, StandsBelow}
use Rattle.disk_definitions.specs.Written.{Cached, inode_at_hand}
use Rattle.disk_definitions.specs.Covers as true_covers
use Rattle.disk_definitions.specs.Covers.{cover_of}
use Rattle.disk_definitions.specs.CoversAtHand.{has_small, has_large, small_owner_among, large_owner_among, node_or_segment, cover_among}
use Rattle.plan_laws.specs.Moves.{HasSmall, HasLarge}
use Rattle.plan_laws.proofs.Moving.{small_lock, large_lock, free_lock, free_large, used_small, used_large}
use Rattle.plan_laws.proofs.OneNode.{small_of}
use Rattle.line_laws.specs.Told.{IsSmallTold, IsTold}
use Rattle.line_laws.proofs.CoverAtHand.{s, n, is_of, inode_true, marked_free}

-- ---- the first that passes

-- of some of which only one passes
pub find_only : (test : ℕ → Bool) (xs : List ℕ) (x : ℕ) → Among x xs → test x ≡ true → ((y : ℕ) → Among y xs → test y ≡ true → y ≡ x) → find test xs ≡ Some x
find_only test [] x m t only = absurd m
find_only test (y ∷ ys) x m t only = go (test y) refl m (λ b. find_only test ys x b t (λ z c. only z (inr c)))
  where
    go : (b : Bool) → test y ≡ b → Among x (y ∷ ys) → (Among x ys → find test ys ≡ Some x) → (if b then Some y else find test ys) ≡ Some x
    go true e m rest = ap Some (only y (inl refl) e)
    go false e (inl q) rest = absurd (let f : true ≡ false = sym t ∙ ap test q ∙ e in cc)
    go false e (inr b) rest = rest b

-- of some of which none passes
pub find_nothing : (test : ℕ → Bool) (xs : List ℕ) → ((y : ℕ) → Among y xs → test y ≡ true → ⊥) → find test xs ≡ None
find_nothing test [] none = refl
find_nothing test (y ∷ ys) none = go (test y) refl (find_nothing test ys (λ z c. none z (inr c)))
  where
    go : (b : Bool) → test y ≡ b → find test ys ≡ None → (if b then Some y else find test ys) ≡ None
    go true e rest = absurd (none y (inl refl) e)
    go false e rest = rest

-- ---- nodes that have a block

small_has : (store : Store) (k j : ℕ) (o : Option StoredNode) → store.inode j ≡ o → has_small k (Some o) ≡ true → HasSmall store j k
small_has store k j None e t = absurd (cc)
small_has store k j (Some y) e t = by_index (index_in y.small y.blocks k) refl t
  where
    by_index : (o : Option ℕ) → index_in y.small y.blocks k ≡ o → is_some o ≡ true → HasSmall store j k
    by_index None p t = absurd (cc)
    by_index (Some m) p t = let r = index_hit y.small y.blocks k m p in record { node = y; is = e; index = m; inside = r.1; here = r.0 }

large_has : (store : Store) (k j : ℕ) (o : Option StoredNode) → store.inode j ≡ o → has_large k (Some o) ≡ true → HasLarge store j k
large_has store k j None e t = absurd (cc)
large_has store k j (Some y) e t = record { node = y; is = e; here = eqb-true y.large (k + 1) t }

same_node : (i j : ℕ) → lock.Node j ≡ lock.Node i → j ≡ i
same_node i j e = cc

no_segment : (j g : ℕ) → lock.Node j ≡ lock.Segment g → ⊥
no_segment j g e = absurd (cc)

module _ (cached : Cached) (held : Segments) (all : Bool) (sectors : Sectors) (tree : FileTree) (of : AreOfDisk cached held all tree.segments sectors) (below : StandsBelow sectors tree) where
  abbrev store : Store
  store = s cached held all sectors tree of below

  abbrev naming : Naming
  naming = n cached held all sectors tree of below

  g : Pictures store (node_at tree) naming
  g = (is_of cached held all sectors tree of below).pictures

  module _ (nodes : List ℕ) (at_hand_so : (i : ℕ) → Among i nodes → inode_at_hand cached i ≡ Some (store.inode i)) where
    abbrev AreAmong : List Sector → Type 0
    AreAmong before = (i : ℕ) → Contains before (InodeAt i) → Among i nodes

    -- ---- small blocks

    one_small : (k j : ℕ) → Among j nodes → has_small k (inode_at_hand cached j) ≡ true → true_covers.small_cover naming k (naming.owner k) ≡ lock.Node j
    one_small k j m t = small_lock store (node_at tree) naming g j k (small_has store k j (store.inode j) refl (sym (ap (has_small k) (at_hand_so j m)) ∙ t))

    small_had : (k i : ℕ) → Among i nodes → HasSmall store i k → node_or_segment (small_owner_among cached nodes k) (k / 1024) ≡ true_covers.small_cover naming k (naming.owner k)
    small_had k i among has =
        ap (λ o. node_or_segment o (k / 1024))
        (find_only (λ j. has_small k (inode_at_hand cached j)) nodes i among (ap (has_small k) (at_hand_so i among ∙ ap Some has.is) ∙ small_of k has.index has.node has.inside has.here)
        (λ j m t. same_node i j (sym (one_small k j m t) ∙ small_lock store (node_at tree) naming g i k has)))
        ∙ sym (small_lock store (node_at tree) naming g i k has)

    small_free : (k : ℕ) → true_covers.small_cover naming k (naming.owner k) ≡ lock.Segment (k / 1024) →
        node_or_segment (small_owner_among cached nodes k) (k / 1024) ≡ true_covers.small_cover naming k (naming.owner k)
    small_free k free =
        ap (λ o. node_or_segment o (k / 1024))
        (find_nothing (λ j. has_small k (inode_at_hand cached j)) nodes (λ j m t. no_segment j (k / 1024) (sym (one_small k j m t) ∙ free)))
        ∙ sym free

    small_true : (k : ℕ) (before : List Sector) → AreAmong before → IsSmallTold store held before k →
        node_or_segment (small_owner_among cached nodes k) (k / 1024) ≡ true_covers.small_cover naming k (naming.owner k)
    small_true k before among (inl (i, c, has)) = small_had k i (among i c) has
    small_true k before among (inr f) = small_free k (marked_free cached held all sectors tree of below k f)

    -- where the node that it is under, if one is, is among these
    pub small_owned : (k : ℕ) → ((i : ℕ) → true_covers.small_cover naming k (naming.owner k) ≡ lock.Node i → Among i nodes) →
        node_or_segment (small_owner_among cached nodes k) (k / 1024) ≡ true_covers.small_cover naming k (naming.owner k)
    small_owned k owner = go (is_unused (store.use_of k)) refl
      where
        go : (b : Bool) → is_unused (store.use_of k) ≡ b → node_or_segment (small_owner_among cached nodes k) (k / 1024) ≡ true_covers.small_cover naming k (naming.owner k)
        go true u = small_free k (free_lock store (node_at tree) naming g k u)
        go false u = let r = used_small store (node_at tree) naming g k u in small_had k r.0 (owner r.0 (small_lock store (node_at tree) naming g r.0 k r.1)) r.1

    -- ---- large blocks

    one_large : (k j : ℕ) → Among j nodes → has_large k (inode_at_hand cached j) ≡ true → true_covers.large_cover naming k (naming.large_owner k) ≡ lock.Node j
    one_large k j m t = large_lock store (node_at tree) naming g j k (large_has store k j (store.inode j) refl (sym (ap (has_large k) (at_hand_so j m)) ∙ t))

    large_had : (k i : ℕ) → Among i nodes → HasLarge store i k → node_or_segment (large_owner_among cached nodes k) k ≡ true_covers.large_cover naming k (naming.large_owner k)
    large_had k i among has =
        ap (λ o. node_or_segment o k)
        (find_only (λ j. has_large k (inode_at_hand cached j)) nodes i among (ap (has_large k) (at_hand_so i among ∙ ap Some has.is) ∙ eq-eqb has.node.large (k + 1) has.here)
        (λ j m t. same_node i j (sym (one_large k j m t) ∙ large_lock store (node_at tree) naming g i k has)))
        ∙ sym (large_lock store (node_at tree) naming g i k has)

    large_free : (k : ℕ) → true_covers.large_cover naming k (naming.large_owner k) ≡ lock.Segment k →
        node_or_segment (large_owner_among cached nodes k) k ≡ true_covers.large_cover naming k (naming.large_owner k)
    large_free k free =
        ap (λ o. node_or_segment o k) (find_nothing (λ j. has_large k (inode_at_hand cached j)) nodes (λ j m t. no_segment j k (sym (one_large k j m t) ∙ free))) ∙ sym free

    pub large_owned : (k : ℕ) → ((i : ℕ) → true_covers.large_cover naming k (naming.large_owner k) ≡ lock.Node i → Among i nodes) →
        node_or_segment (large_owner_among cached nodes k) k ≡ true_covers.large_cover naming k (naming.large_owner k)
    large_owned k owner = go (store.large_bit k) refl
      where
        go : (b : Bool) → store.large_bit k ≡ b → node_or_segment (large_owner_among cached nodes k) k ≡ true_covers.large_cover naming k (naming.large_owner k)
        go true u = let r = used_large store (node_at tree) naming g k u in large_had k r.0 (owner r.0 (large_lock store (node_at tree) naming g r.0 k r.1)) r.1
        go false u = large_free k (free_large store (node_at tree) naming g k u)

    -- a sector that was told of by sectors whose nodes are among these
    pub among_true : (before : List Sector) → AreAmong before → (x : Sector) → IsTold store held before x → cover_among cached held nodes x ≡ cover_of naming x
    among_true before among (InodeAt i) told = inode_true cached held all sectors tree of below i told
    among_true before among (DirectoryAt k part) told = small_true k before among told
    among_true before among (SegmentAt k) told = refl
    among_true before among (BytesAt k part) told = small_true k before among told
    among_true before among (LargeAt k part) (i, c, has) = large_had k i (among i c) has
