-- The lock of each sector by the store alone, and with it where tidy edits move it.
use Rattle.std.proofs.Common.{ℕ, ◌≡◌, ◌<◌, ◌+◌, ◌-◌, ◌/◌, Bool, true, false, nat_lt, if◌then◌else◌, Option, Some, None, List, length, is_some, refl, sym, ◌∙◌, ap, subst, arith}
use Rattle.std.specs.Option.{option_map, unwrap_or}
use Rattle.std.proofs.lemmas.Bool.{lt-ltb}
use Rattle.frang_base.specs.declared.lock.LockId.{LockId}
use Rattle.frang_base.specs.declared.lock.LockId.TheVariants as lock
use Rattle.tree_definitions.specs.declared.node.Node.{Node}
use Rattle.tree_definitions.specs.declared.node.Node.TheVariants.{Dir, File, Link}
use Rattle.tree_definitions.specs.Tree.{small_blocks_of}
use Rattle.disk_definitions.specs.Store.{Store, Use, is_unused}
use Rattle.disk_definitions.specs.Store.Use.{Fresh, Empty}
use Rattle.disk_definitions.specs.Naming.{Naming, Nodes, Pictures, blocks_of, has_large, inode_of, use_for, first_blocks}
use Rattle.disk_definitions.specs.Edits.{Edit}
use Rattle.disk_definitions.proofs.Kept.{inode_is}
use Rattle.disk_definitions.proofs.Free.{no_owner, no_large_owner}
use Rattle.disk_definitions.specs.Ask.{Sector, InodeAt, DirectoryAt, SegmentAt, BytesAt, LargeAt}
use Rattle.disk_definitions.specs.Covers.{inode_cover, small_cover, large_cover, cover_of}
use Rattle.plan_laws.proofs.Standing.{stands}
use Rattle.plan_laws.specs.Moves.{HasSmall, HasLarge, AreTidy, CoversMove}
use Rattle.disk_definitions.specs.Moves.{first_said, bit_said, use_said, large_said, taker_said, large_taker_said, inode_move, small_move, large_move, moved_by, node_lock}

-- the lock of an inode, by its bit
abbrev pub by_bit : ℕ → Bool → LockId
by_bit i true = lock.Node i
by_bit i false = lock.Segment (i / 64)

module _ (s : Store) (at : Nodes) (n : Naming) (g : Pictures s at n) where
  pub inode_lock : (i : ℕ) → inode_cover i (n.birth i) ≡ by_bit i (s.bit i)
  inode_lock i = go (n.birth i) refl
    where
      go : (o : Option ℕ) → n.birth i ≡ o → inode_cover i o ≡ by_bit i (s.bit i)
      go None e = sym (ap (by_bit i) (g.bits i ∙ ap is_some e))
      go (Some b) e = sym (ap (by_bit i) (g.bits i ∙ ap is_some e))

  -- ---- small blocks

  pub small_lock : (i k : ℕ) → HasSmall s i k → small_cover n k (n.owner k) ≡ lock.Node i
  small_lock i k h = subst (λ q. small_cover n q (n.owner q) ≡ lock.Node i) h.here ((stands s at n g i h.node h.is).small h.index h.inside)

  pub free_lock : (k : ℕ) → is_unused (s.use_of k) ≡ true → small_cover n k (n.owner k) ≡ lock.Segment (k / 1024)
  free_lock k e = ap (small_cover n k) (no_owner s at n g k e)

  pub node_has : (b j k : ℕ) (o : Option Node) → at b ≡ o → j < blocks_of o → n.block b j ≡ k → HasSmall s (n.inode b) k
  node_has b j k None p l e = absurd (omega arith)
  node_has b j k (Some (Link target links)) p l e = absurd (omega arith)
  node_has b j k (Some (Dir entries blocks)) p l e = record {
    node = inode_of (n.stamp b) (n.block b) (n.large b) (Dir entries blocks);
    is = inode_is s at n g b (Dir entries blocks) p;
    index = j;
    inside = l;
    here = (let q : first_blocks blocks (n.block b) j ≡ n.block b j = rw (lt-ltb j blocks l) refl in q ∙ e);
  }
  node_has b j k (Some (File cells links when)) p l e = record {
    node = inode_of (n.stamp b) (n.block b) (n.large b) (File cells links when);
    is = inode_is s at n g b (File cells links when) p;
    index = j;
    inside = l;
    here = (let q : first_blocks (small_blocks_of (length cells)) (n.block b) j ≡ n.block b j = rw (lt-ltb j (small_blocks_of (length cells)) l) refl in q ∙ e);
  }

  -- a block that is in use is a node's
  pub used_small : (k : ℕ) → is_unused (s.use_of k) ≡ false → (i : ℕ) × HasSmall s i k
  used_small k e = go (n.owner k) refl
    where
      nobody : (was : Bool) → is_unused (if was then Empty else Fresh) ≡ false → ⊥
      nobody true q = cc
      nobody false q = cc

      go : (o : Option (ℕ × ℕ)) → n.owner k ≡ o → (i : ℕ) × HasSmall s i k
      go None p = absurd (nobody (n.was k) (subst (λ u. is_unused u ≡ false) (g.uses k ∙ ap (use_for (n.was k) at) p) e))
      go (Some (b, j)) p = let r = g.owners k b j p in (n.inode b, node_has b j k (at b) refl r.1 r.0)

  -- ---- large blocks

  pub large_lock : (i k : ℕ) → HasLarge s i k → large_cover n k (n.large_owner k) ≡ lock.Node i
  large_lock i k h =
      let e : h.node.large - 1 ≡ k = ap (λ q. q - 1) h.here ∙ omega arith in
      subst (λ q. large_cover n q (n.large_owner q) ≡ lock.Node i) e ((stands s at n g i h.node h.is).large (λ z. let w : h.node.large ≡ k + 1 = h.here in omega arith))

  pub free_large : (k : ℕ) → s.large_bit k ≡ false → large_cover n k (n.large_owner k) ≡ lock.Segment k
  free_large k e = ap (large_cover n k) (no_large_owner s at n g k e)

  pub node_has_large : (b k : ℕ) (o : Option Node) → at b ≡ o → has_large o ≡ true → n.large b ≡ k → HasLarge s (n.inode b) k
  node_has_large b k None p l e = absurd (cc)
  node_has_large b k (Some (Link target links)) p l e = absurd (cc)
  node_has_large b k (Some (Dir entries blocks)) p l e = absurd (cc)
  node_has_large b k (Some (File cells links when)) p l e = record {
    node = inode_of (n.stamp b) (n.block b) (n.large b) (File cells links when);
    is = inode_is s at n g b (File cells links when) p;
    here = (let q : (if nat_lt 65536 (length cells) then n.large b + 1 else 0) ≡ n.large b + 1 = rw l refl in q ∙ ap (λ v. v + 1) e);
  }

  pub used_large : (k : ℕ) → s.large_bit k ≡ true → (i : ℕ) × HasLarge s i k
  used_large k e = go (n.large_owner k) refl
    where
      go : (o : Option ℕ) → n.large_owner k ≡ o → (i : ℕ) × HasLarge s i k
      go None p = absurd (let z : s.large_bit k ≡ false = g.large_bits k ∙ ap is_some p in cc)
      go (Some b) p = let r = g.large_owners k b p in (n.inode b, node_has_large b k (at b) refl r.1 r.0)

-- ---- two pictures, and tidy edits between them

module _ (s t : Store) (at to : Nodes) (n m : Naming) (es : List Edit) (g : Pictures s at n) (h : Pictures t to m) (tidy : AreTidy s t es) where
  inode_moved : (i : ℕ) → inode_cover i (m.birth i) ≡ unwrap_or (inode_move i (first_said (bit_said i) es)) (inode_cover i (n.birth i))
  inode_moved i = inode_lock t to m h i ∙ ap (by_bit i) (tidy.bits i) ∙ go (first_said (bit_said i) es)
    where
      go : (o : Option Bool) → by_bit i (unwrap_or o (s.bit i)) ≡ unwrap_or (inode_move i o) (inode_cover i (n.birth i))
      go None = sym (inode_lock s at n g i)
      go (Some true) = refl
      go (Some false) = refl

  small_moved : (k : ℕ) → small_cover m k (m.owner k) ≡ unwrap_or (small_move k (first_said (taker_said k) es) (first_said (use_said k) es)) (small_cover n k (n.owner k))
  small_moved k = go (first_said (use_said k) es) refl
    where
      old : LockId
      old = small_cover n k (n.owner k)

      taker : Option ℕ
      taker = first_said (taker_said k) es

      same : first_said (use_said k) es ≡ None → (b : Bool) → is_unused (s.use_of k) ≡ b → small_cover m k (m.owner k) ≡ old
      same e true u = free_lock t to m h k (ap is_unused (tidy.uses k ∙ ap (λ o. unwrap_or o (s.use_of k)) e) ∙ u) ∙ sym (free_lock s at n g k u)
      same e false u = let r = used_small s at n g k u in small_lock t to m h r.0 k (tidy.keeps r.0 k r.1 e) ∙ sym (small_lock s at n g r.0 k r.1)

      said : (u : Use) → first_said (use_said k) es ≡ Some u → (b : Bool) → is_unused u ≡ b → small_cover m k (m.owner k) ≡ unwrap_or (if b then Some (lock.Segment (k / 1024)) else option_map node_lock taker) old
      said u e true f = free_lock t to m h k (ap is_unused (tidy.uses k ∙ ap (λ o. unwrap_or o (s.use_of k)) e) ∙ f)
      said u e false f = let r = tidy.gains k u e f in small_lock t to m h r.0 k r.2 ∙ sym (ap (λ o. unwrap_or (option_map node_lock o) old) r.1)

      go : (o : Option Use) → first_said (use_said k) es ≡ o → small_cover m k (m.owner k) ≡ unwrap_or (small_move k taker o) old
      go None e = same e (is_unused (s.use_of k)) refl
      go (Some u) e = said u e (is_unused u) refl

  large_moved : (k : ℕ) → large_cover m k (m.large_owner k) ≡ unwrap_or (large_move k (first_said (large_taker_said k) es) (first_said (large_said k) es)) (large_cover n k (n.large_owner k))
  large_moved k = go (first_said (large_said k) es) refl
    where
      old : LockId
      old = large_cover n k (n.large_owner k)

      same : first_said (large_said k) es ≡ None → (b : Bool) → s.large_bit k ≡ b → large_cover m k (m.large_owner k) ≡ old
      same e false u = free_large t to m h k (tidy.larges k ∙ ap (λ o. unwrap_or o (s.large_bit k)) e ∙ u) ∙ sym (free_large s at n g k u)
      same e true u = let r = used_large s at n g k u in large_lock t to m h r.0 k (tidy.keeps_large r.0 k r.1 e) ∙ sym (large_lock s at n g r.0 k r.1)

      go : (o : Option Bool) → first_said (large_said k) es ≡ o → large_cover m k (m.large_owner k) ≡ unwrap_or (large_move k (first_said (large_taker_said k) es) o) old
      go None e = same e (s.large_bit k) refl
      go (Some false) e = free_large t to m h k (tidy.larges k ∙ ap (λ o. unwrap_or o (s.large_bit k)) e)
      go (Some true) e = let r = tidy.gains_large k e in large_lock t to m h r.0 k r.2 ∙ sym (ap (λ o. unwrap_or (option_map node_lock o) old) r.1)

  one : (x : Sector) → cover_of m x ≡ unwrap_or (moved_by es x) (cover_of n x)
  one (InodeAt i) = inode_moved i
  one (SegmentAt k) = refl
  one (DirectoryAt k part) = small_moved k
  one (BytesAt k part) = small_moved k
  one (LargeAt k part) = large_moved k

pub covers_move : CoversMove
covers_move s t at to n m es g h tidy x = one s t at to n m es g h tidy x
