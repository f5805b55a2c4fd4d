-- Sound edits under locks that cover them: what moves was under a lock that is held alone, and comes under one.
use Rattle.std.proofs.Common.{ℕ, ◌≡◌, ◌+◌, ◌/◌, ⊎_elim, Bool, true, false, ◌==◌, nat_eq, if◌then◌else◌, Option, Some, None, List, [], ◌∷◌, refl, sym, ◌∙◌, subst}
use Rattle.std.specs.Option.{option_map, option_or}
use Rattle.std.specs.List.{AllByRecursion, Contains}
use Rattle.std.proofs.lemmas.Bool.{eqb-true}
use Rattle.frang_base.specs.declared.lock.LockId.{LockId}
use Rattle.frang_base.specs.declared.lock.LockId.TheVariants as lock
use Rattle.disk_definitions.specs.Store.{Store, Use, is_unused}
use Rattle.disk_definitions.specs.Naming.{Naming, Nodes, Pictures}
use Rattle.disk_definitions.specs.Edits.{Edit}
use Rattle.disk_definitions.specs.Edits.Edit.{SetInode, SetBit, SetUse, SetPlace, SetLarge, SetBytes, SetLargeBytes}
use Rattle.disk_definitions.specs.Ask.{Sector, InodeAt, DirectoryAt, SegmentAt, BytesAt, LargeAt}
use Rattle.disk_definitions.specs.Plans.{Lock}
use Rattle.plan_laws.specs.Locks.{IsSole, IsCovered}
use Rattle.plan_laws.proofs.Covering.{has_head, has_more, has_cases, not_in_none}
use Rattle.disk_definitions.specs.Covers.{inode_cover, small_cover, large_cover, cover_of}
use Rattle.disk_definitions.specs.Moves.{first_said, bit_said, use_said, large_said, taker_said, large_taker_said, is_small_of, inode_move, small_move, large_move, moved_by, node_lock}
use Rattle.plan_laws.proofs.Moving.{by_bit, inode_lock, small_lock, free_lock, used_small, large_lock, free_large, used_large}
use Rattle.plan_laws.proofs.Joining.{Writes, AreSound}
use Rattle.plan_laws.proofs.OneNode.{is_said}

-- ---- what is said is said by one of the edits

pub sayer : {X : Type 0} (f : Edit → Option X) (es : List Edit) (v : X) → first_said f es ≡ Some v → (e : Edit) × Contains es e × (f e ≡ Some v)
sayer {X} f [] v e = absurd (cc)
sayer {X} f (d ∷ es) v e = go (f d) refl e (sayer f es v)
  where
    go : (o : Option X) → f d ≡ o → option_or o (first_said f es) ≡ Some v → (first_said f es ≡ Some v → (e : Edit) × Contains es e × (f e ≡ Some v)) → (e : Edit) × Contains (d ∷ es) e × (f e ≡ Some v)
    go None q h rest = let r = rest h in (r.0, has_more d r.0 es r.1, r.2)
    go (Some w) q h rest = (d, has_head d es, q ∙ h)

pub something_said : {X : Type 0} (f : Edit → Option X) (es : List Edit) (e : Edit) (v : X) → Contains es e → f e ≡ Some v → (w : X) × (first_said f es ≡ Some w)
something_said {X} f [] e v c q = absurd (not_in_none e c)
something_said {X} f (d ∷ es) e v c q = go (f d) refl (something_said f es e v)
  where
    go : (o : Option X) → f d ≡ o → (Contains es e → f e ≡ Some v → (w : X) × (first_said f es ≡ Some w)) → (w : X) × (option_or o (first_said f es) ≡ Some w)
    go (Some w) p rest = (w, refl)
    go None p rest = rest (⊎_elim (λ i. absurd (let z : f e ≡ None = subst (λ y. f y ≡ None) i p in cc)) (λ i. i) (has_cases d e es c)) q

module _ (locks : List Lock) where
  pub bit_covered : (i : ℕ) (b : Bool) (e : Edit) → bit_said i e ≡ Some b → IsCovered locks e → IsSole locks (lock.Segment (i / 64))
  bit_covered i b (SetBit j c) q s = subst (λ z. IsSole locks (lock.Segment (z / 64))) (sym (eqb-true i j (is_said (nat_eq i j) c b q).0)) s
  bit_covered i b (SetInode j x d) q s = absurd (cc)
  bit_covered i b (SetUse k u) q s = absurd (cc)
  bit_covered i b (SetPlace k p x) q s = absurd (cc)
  bit_covered i b (SetLarge g c) q s = absurd (cc)
  bit_covered i b (SetBytes k part bytes) q s = absurd (cc)
  bit_covered i b (SetLargeBytes g part bytes) q s = absurd (cc)

  pub use_covered : (k : ℕ) (u : Use) (e : Edit) → use_said k e ≡ Some u → IsCovered locks e → IsSole locks (lock.Segment (k / 1024))
  use_covered k u (SetUse j w) q s = subst (λ z. IsSole locks (lock.Segment (z / 1024))) (sym (eqb-true k j (is_said (nat_eq k j) w u q).0)) s
  use_covered k u (SetInode j x d) q s = absurd (cc)
  use_covered k u (SetBit j c) q s = absurd (cc)
  use_covered k u (SetPlace j p x) q s = absurd (cc)
  use_covered k u (SetLarge g c) q s = absurd (cc)
  use_covered k u (SetBytes j part bytes) q s = absurd (cc)
  use_covered k u (SetLargeBytes g part bytes) q s = absurd (cc)

  pub large_covered : (g : ℕ) (b : Bool) (e : Edit) → large_said g e ≡ Some b → IsCovered locks e → IsSole locks (lock.Segment g)
  large_covered g b (SetLarge j c) q s = subst (λ z. IsSole locks (lock.Segment z)) (sym (eqb-true g j (is_said (nat_eq g j) c b q).0)) s
  large_covered g b (SetInode j x d) q s = absurd (cc)
  large_covered g b (SetBit j c) q s = absurd (cc)
  large_covered g b (SetUse k u) q s = absurd (cc)
  large_covered g b (SetPlace k p x) q s = absurd (cc)
  large_covered g b (SetBytes k part bytes) q s = absurd (cc)
  large_covered g b (SetLargeBytes j part bytes) q s = absurd (cc)

  taker_covered : (k i : ℕ) (e : Edit) → taker_said k e ≡ Some i → IsCovered locks e → IsSole locks (lock.Node i)
  taker_covered k i (SetInode j (Some x) d) q s = subst (λ z. IsSole locks (lock.Node z)) (is_said (is_small_of k x) j i q).1 s
  taker_covered k i (SetInode j None d) q s = absurd (cc)
  taker_covered k i (SetBit j c) q s = absurd (cc)
  taker_covered k i (SetUse a u) q s = absurd (cc)
  taker_covered k i (SetPlace a p x) q s = absurd (cc)
  taker_covered k i (SetLarge g c) q s = absurd (cc)
  taker_covered k i (SetBytes a part bytes) q s = absurd (cc)
  taker_covered k i (SetLargeBytes g part bytes) q s = absurd (cc)

  large_taker_covered : (g i : ℕ) (e : Edit) → large_taker_said g e ≡ Some i → IsCovered locks e → IsSole locks (lock.Node i)
  large_taker_covered g i (SetInode j (Some x) d) q s = subst (λ z. IsSole locks (lock.Node z)) (is_said (x.large == g + 1) j i q).1 s
  large_taker_covered g i (SetInode j None d) q s = absurd (cc)
  large_taker_covered g i (SetBit j c) q s = absurd (cc)
  large_taker_covered g i (SetUse k u) q s = absurd (cc)
  large_taker_covered g i (SetPlace k p x) q s = absurd (cc)
  large_taker_covered g i (SetLarge j c) q s = absurd (cc)
  large_taker_covered g i (SetBytes k part bytes) q s = absurd (cc)
  large_taker_covered g i (SetLargeBytes j part bytes) q s = absurd (cc)

  pub each_covered : (es : List Edit) → AllByRecursion (IsCovered locks) es → (e : Edit) → Contains es e → IsCovered locks e
  each_covered [] a e c = absurd (not_in_none e c)
  each_covered (d ∷ es) a e c = ⊎_elim (λ q. subst (IsCovered locks) q a.0) (λ i. each_covered es a.1 e i) (has_cases d e es c)

module _ (s t : Store) (at : Nodes) (n : Naming) (g : Pictures s at n) (es : List Edit) (sound : AreSound s t es) (locks : List Lock) (covered : AllByRecursion (IsCovered locks) es) where
  one : (e : Edit) → Contains es e → IsCovered locks e
  one = each_covered locks es covered

  written : (i : ℕ) → Writes es i → IsSole locks (lock.Node i)
  written i w = one (SetInode i w.0 w.1) w.2

  bit_segment : (i : ℕ) (b : Bool) → first_said (bit_said i) es ≡ Some b → IsSole locks (lock.Segment (i / 64))
  bit_segment i b e = let r = sayer (bit_said i) es b e in bit_covered locks i b r.0 r.2 (one r.0 r.1)

  use_segment : (k : ℕ) (u : Use) → first_said (use_said k) es ≡ Some u → IsSole locks (lock.Segment (k / 1024))
  use_segment k u e = let r = sayer (use_said k) es u e in use_covered locks k u r.0 r.2 (one r.0 r.1)

  large_segment : (k : ℕ) (b : Bool) → first_said (large_said k) es ≡ Some b → IsSole locks (lock.Segment k)
  large_segment k b e = let r = sayer (large_said k) es b e in large_covered locks k b r.0 r.2 (one r.0 r.1)

  -- ---- the locks before

  inode_before : (i : ℕ) (b : Bool) → first_said (bit_said i) es ≡ Some b → IsSole locks (inode_cover i (n.birth i))
  inode_before i b e = subst (IsSole locks) (sym (inode_lock s at n g i)) (go (s.bit i))
    where
      go : (c : Bool) → IsSole locks (by_bit i c)
      go true = written i (sound.bits i b e)
      go false = bit_segment i b e

  pub small_before : (k : ℕ) (u : Use) → first_said (use_said k) es ≡ Some u → IsSole locks (small_cover n k (n.owner k))
  small_before k u e = go (is_unused (s.use_of k)) refl
    where
      go : (b : Bool) → is_unused (s.use_of k) ≡ b → IsSole locks (small_cover n k (n.owner k))
      go true f = subst (IsSole locks) (sym (free_lock s at n g k f)) (use_segment k u e)
      go false f = let r = used_small s at n g k f in subst (IsSole locks) (sym (small_lock s at n g r.0 k r.1)) (written r.0 (sound.smalls k u r.0 e r.1))

  pub large_before : (k : ℕ) (b : Bool) → first_said (large_said k) es ≡ Some b → IsSole locks (large_cover n k (n.large_owner k))
  large_before k b e = go (s.large_bit k) refl
    where
      go : (c : Bool) → s.large_bit k ≡ c → IsSole locks (large_cover n k (n.large_owner k))
      go false f = subst (IsSole locks) (sym (free_large s at n g k f)) (large_segment k b e)
      go true f = let r = used_large s at n g k f in subst (IsSole locks) (sym (large_lock s at n g r.0 k r.1)) (written r.0 (sound.larges k b r.0 e r.1))

  -- ---- and the locks after

  abbrev Owned : Sector → LockId → Type 0
  Owned x l = IsSole locks (cover_of n x) × IsSole locks l

  -- the taker of a block
  taken : (f : Edit → Option ℕ) (l : LockId) → ((i : ℕ) (e : Edit) → f e ≡ Some i → IsCovered locks e → IsSole locks (lock.Node i)) → option_map node_lock (first_said f es) ≡ Some l → IsSole locks l
  taken f l covers = go (first_said f es) refl
    where
      go : (o : Option ℕ) → first_said f es ≡ o → option_map node_lock o ≡ Some l → IsSole locks l
      go None q e = absurd (cc)
      go (Some i) q e = let r = sayer f es i q in let same : lock.Node i ≡ l = cc in subst (IsSole locks) same (covers i r.0 r.2 (one r.0 r.1))

  inode_owned : (i : ℕ) (l : LockId) (o : Option Bool) → first_said (bit_said i) es ≡ o → inode_move i o ≡ Some l → Owned (InodeAt i) l
  inode_owned i l None q e = absurd (cc)
  inode_owned i l (Some true) q e = let same : lock.Node i ≡ l = cc in (inode_before i true q, subst (IsSole locks) same (written i (sound.bits i true q)))
  inode_owned i l (Some false) q e = let same : lock.Segment (i / 64) ≡ l = cc in (inode_before i false q, subst (IsSole locks) same (bit_segment i false q))

  small_owned : (k : ℕ) (l : LockId) (o : Option Use) → first_said (use_said k) es ≡ o → small_move k (first_said (taker_said k) es) o ≡ Some l → IsSole locks (small_cover n k (n.owner k)) × IsSole locks l
  small_owned k l None q e = absurd (cc)
  small_owned k l (Some u) q e = go (is_unused u) e
    where
      go : (b : Bool) → (if b then Some (lock.Segment (k / 1024)) else option_map node_lock (first_said (taker_said k) es)) ≡ Some l → IsSole locks (small_cover n k (n.owner k)) × IsSole locks l
      go true e = let same : lock.Segment (k / 1024) ≡ l = cc in (small_before k u q, subst (IsSole locks) same (use_segment k u q))
      go false e = (small_before k u q, taken (taker_said k) l (taker_covered locks k) e)

  large_owned : (k : ℕ) (l : LockId) (o : Option Bool) → first_said (large_said k) es ≡ o → large_move k (first_said (large_taker_said k) es) o ≡ Some l → IsSole locks (large_cover n k (n.large_owner k)) × IsSole locks l
  large_owned k l None q e = absurd (cc)
  large_owned k l (Some true) q e = (large_before k true q, taken (large_taker_said k) l (large_taker_covered locks k) e)
  large_owned k l (Some false) q e = let same : lock.Segment k ≡ l = cc in (large_before k false q, subst (IsSole locks) same (large_segment k false q))

  pub owned : (x : Sector) (l : LockId) → moved_by es x ≡ Some l → Owned x l
  owned (InodeAt i) l e = inode_owned i l (first_said (bit_said i) es) refl e
  owned (SegmentAt k) l e = absurd (cc)
  owned (DirectoryAt k part) l e = small_owned k l (first_said (use_said k) es) refl e
  owned (BytesAt k part) l e = small_owned k l (first_said (use_said k) es) refl e
  owned (LargeAt k part) l e = large_owned k l (first_said (large_said k) es) refl e
