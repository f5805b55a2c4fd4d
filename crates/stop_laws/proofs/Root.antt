-- Only the root is in use on a disk that stands for the fresh tree, by whatever naming.
use Rattle.std.proofs.Common.{ℕ, ◌≡◌, ◌/◌, ◌<◌, Bool, true, false, nat_eq, if◌then◌else◌, Option, Some, None, [], is_some, refl, sym, ◌∙◌, ap, subst, arith}
use Rattle.std.specs.BTreeMap.{is_at}
use Rattle.std.specs.Ordering.{nat_cmp}
use Rattle.std.proofs.lemmas.Bool.{eq-eqb, eqb-true}
use Rattle.code_plan_laws.proofs.Picture.{root_only}
use Rattle.frang_base.specs.declared.lock.LockId.TheVariants as lock
use Rattle.tree_definitions.specs.declared.node.Node.{Node}
use Rattle.tree_definitions.specs.declared.node.Node.TheVariants.{Dir}
use Rattle.tree_definitions.specs.Tree.{FileTree, fresh, node_at}
use Rattle.tree_definitions.proofs.Pairs.{birth_exact, tie}
use Rattle.disk_definitions.specs.Naming.{Allows, Naming, blocks_of, cell_in, file_byte, has_large, inode_of, use_for}
use Rattle.disk_definitions.specs.Store.{Store, StoredNode, is_unused, store_of}
use Rattle.disk_definitions.proofs.Free.{no_owner, no_large_owner}
use Rattle.disk_definitions.specs.Ask.{Sector, InodeAt, DirectoryAt, SegmentAt, BytesAt, LargeAt}
use Rattle.disk_definitions.specs.Meets.{IsOfTree}
use Rattle.disk_definitions.specs.Covers.{cover_of, inode_cover, large_cover, small_cover}
use Rattle.plan_laws.proofs.Standing.{node_of}
use Rattle.plan_laws.proofs.Totals.{free_if}
use Rattle.line_histories.specs.LinePlans.{store_on}
use Rattle.line_histories.specs.Files.{HoldsBytes}
use Rattle.line_histories.proofs.Disks.{blank_of}
use Rattle.stop_laws.specs.FreshDisks.{cover_at, fresh_cover, is_versioned_at, FreshDisksFollow, FreshCellsAreKnown}

only_root : (segments b : ℕ) (x : Node) → node_at (fresh segments) b ≡ Some x → (b ≡ 0) × (x ≡ Dir [] 0)
only_root segments b x e = go (is_at (nat_cmp b) 0) refl e
  where
    go : (c : Bool) → is_at (nat_cmp b) 0 ≡ c → (if c then Some (Dir [] 0) else None) ≡ Some x → (b ≡ 0) × (x ≡ Dir [] 0)
    go true q i = let same : Dir [] 0 ≡ x = cc in (tie nat_cmp birth_exact b 0 q, sym same)
    go false q i = absurd (cc)

no_blocks : (segments b j : ℕ) → j < blocks_of (node_at (fresh segments) b) → ⊥
no_blocks segments b j l = go (node_at (fresh segments) b) refl l
  where
    go : (o : Option Node) → node_at (fresh segments) b ≡ o → j < blocks_of o → ⊥
    go None is l = omega arith
    go (Some x) is l = let m : j < 0 = subst (λ z. j < blocks_of (Some z)) (only_root segments b x is).1 l in omega arith

no_large : (segments b : ℕ) → has_large (node_at (fresh segments) b) ≡ true → ⊥
no_large segments b e = go (node_at (fresh segments) b) refl e
  where
    go : (o : Option Node) → node_at (fresh segments) b ≡ o → has_large o ≡ true → ⊥
    go None is i = cc
    go (Some x) is i = let z : false ≡ true = subst (λ y. has_large (Some y) ≡ true) (only_root segments b x is).1 i in cc

module _ (segments : ℕ) (s : Store) (n : Naming) (of : IsOfTree s (fresh segments) n) where
  root_bit : (i : ℕ) → s.bit i ≡ nat_eq i 0
  root_bit i = of.pictures.bits i ∙ go (n.birth i) refl (nat_eq i 0) refl
    where
      at_root : n.birth 0 ≡ Some 0
      at_root = sym (ap n.birth of.root) ∙ of.pictures.numbered 0 refl

      go : (o : Option ℕ) → n.birth i ≡ o → (c : Bool) → nat_eq i 0 ≡ c → is_some o ≡ c
      go None e false q = refl
      go None e true q = absurd (let z : Some 0 ≡ None = sym at_root ∙ ap n.birth (sym (eqb-true i 0 q)) ∙ e in cc)
      go (Some b) e true q = refl
      go (Some b) e false q =
          let w = of.pictures.whose i b e in
          let zero : i ≡ 0 = sym w.0 ∙ ap n.inode (root_only segments b w.1) ∙ of.root in
          absurd (let z : true ≡ false = sym (eq-eqb i 0 zero) ∙ q in cc)

  block_unused : (k : ℕ) → is_unused (s.use_of k) ≡ true
  block_unused k = ap is_unused (of.pictures.uses k) ∙ go (n.owner k) refl
    where
      go : (o : Option (ℕ × ℕ)) → n.owner k ≡ o → is_unused (use_for (n.was k) (node_at (fresh segments)) o) ≡ true
      go None e = free_if (n.was k)
      go (Some o) e = absurd (no_blocks segments o.0 o.1 (of.pictures.owners k o.0 o.1 e).1)

  large_unused : (g : ℕ) → s.large_bit g ≡ false
  large_unused g = of.pictures.large_bits g ∙ go (n.large_owner g) refl
    where
      go : (o : Option ℕ) → n.large_owner g ≡ o → is_some o ≡ false
      go None e = refl
      go (Some b) e = absurd (no_large segments b (of.pictures.large_owners g b e).1)

  no_bytes : (x : Sector) → HoldsBytes s x → ⊥
  no_bytes x holds =
      let r = node_of s (node_at (fresh segments)) n of.pictures holds.inode holds.node holds.is in
      let root : r.node ≡ Dir [] 0 = (only_root segments r.birth r.node r.is).1 in
      let directory : holds.node.kind ≡ 2 = ap (λ (z : StoredNode). z.kind) r.inode ∙ ap (λ (y : Node). (inode_of (n.stamp r.birth) (n.block r.birth) (n.large r.birth) y).kind) root in
      let file : holds.node.kind ≡ 1 = holds.kind in
      omega arith

  -- ---- by whatever naming
  module _ (tree : FileTree) (m : Naming) (other : IsOfTree s tree m) where
    inode_is : (i : ℕ) → inode_cover i (m.birth i) ≡ fresh_cover (InodeAt i)
    inode_is i = go (m.birth i) (nat_eq i 0) refl (sym (other.pictures.bits i) ∙ root_bit i)
      where
        go : (o : Option ℕ) (c : Bool) → nat_eq i 0 ≡ c → is_some o ≡ nat_eq i 0 → inode_cover i o ≡ (if nat_eq i 0 then lock.Node i else lock.Segment (i / 64))
        go (Some b) true q e = ap (λ (c : Bool). if c then lock.Node i else lock.Segment (i / 64)) (sym q)
        go None false q e = ap (λ (c : Bool). if c then lock.Node i else lock.Segment (i / 64)) (sym q)
        go (Some b) false q e = absurd (let z : true ≡ false = e ∙ q in cc)
        go None true q e = absurd (let z : false ≡ true = e ∙ q in cc)

    cover_is : (x : Sector) → fresh_cover x ≡ cover_of m x
    cover_is (InodeAt i) = sym (inode_is i)
    cover_is (SegmentAt k) = refl
    cover_is (DirectoryAt k p) = sym (ap (small_cover m k) (no_owner s (node_at tree) m other.pictures k (block_unused k)))
    cover_is (BytesAt k p) = sym (ap (small_cover m k) (no_owner s (node_at tree) m other.pictures k (block_unused k)))
    cover_is (LargeAt g p) = sym (ap (large_cover m g) (no_large_owner s (node_at tree) m other.pictures g (large_unused g)))

pub fresh_follows : FreshDisksFollow
fresh_follows segments opening stands =
    let n = stands.below.stands.naming in
    let of : IsOfTree (store_on segments opening) (fresh segments) n = blank_of opening (fresh segments) stands in
    record {
      covers = λ tree m other number x at. ap cover_at at ∙ cover_is segments (store_on segments opening) n of tree m other x;
      kinds = λ number x at. ap (is_versioned_at (store_on segments opening)) at;
      free = λ number x at unused. refl;
      filled = λ x holds. absurd (no_bytes segments (store_on segments opening) n of x holds);
    }

pub fresh_known : FreshCellsAreKnown
fresh_known segments opening logged first n of disk has b j cell e = go (node_at (fresh segments) b) refl e
  where
    go : (o : Option Node) → node_at (fresh segments) b ≡ o → cell_in o j ≡ Some cell → Allows cell (file_byte (store_of segments disk) n b j)
    go None is i = absurd (cc)
    go (Some x) is i = absurd (let z : None ≡ Some cell = subst (λ y. cell_in (Some y) j ≡ Some cell) (only_root segments b x is).1 i in cc)
