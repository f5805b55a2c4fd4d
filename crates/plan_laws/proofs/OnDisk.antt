-- Over a picture of nodes a block is one node's, and so it stays while inodes keep their blocks.
use Rattle.std.proofs.Common.{ℕ, ◌≡◌, ◌<◌, ◌-◌, ◌/◌, ⊎_elim, Bool, true, false, if◌then◌else◌, Some, None, List, refl, sym, ◌∙◌, ap, subst, arith}
use Rattle.std.proofs.lemmas.Bool.{cases_eq}
use Rattle.frang_base.specs.Functions.{put}
use Rattle.frang_base.specs.declared.lock.LockId.{LockId}
use Rattle.frang_base.specs.declared.lock.LockId.TheVariants as lock
use Rattle.frang_base.proofs.Basics.{put_same, put_other}
use Rattle.tree_definitions.specs.declared.node.Node.{Node}
use Rattle.tree_definitions.specs.declared.node.Node.TheVariants.{Dir, File, Link}
use Rattle.disk_definitions.specs.Store.{Store, StoredNode, Use, is_unused}
use Rattle.disk_definitions.specs.Naming.{Naming, Nodes, Pictures, inode_of}
use Rattle.disk_definitions.specs.Edits.{Edit, edited_all}
use Rattle.disk_definitions.specs.Changes.{take_entry, relink, freed, drop_node}
use Rattle.disk_definitions.specs.Plans.{Room}
use Rattle.disk_definitions.specs.Plans.Room.{Inside, InBlock, NoRoom}
use Rattle.disk_definitions.specs.NamePlans.{is_last, fewer}
use Rattle.disk_definitions.specs.Meets.{is_directory_use}
use Rattle.plan_laws.proofs.Among.{is_among}
use Rattle.disk_definitions.specs.Covers.{small_cover, large_cover}
use Rattle.plan_laws.proofs.Standing.{stands, node_of}
use Rattle.plan_laws.specs.Moves.{HasSmall, HasLarge}
use Rattle.disk_definitions.specs.Moves.{first_said, use_said, large_said}
use Rattle.plan_laws.proofs.Moving.{small_lock, large_lock}
use Rattle.plan_laws.proofs.Joining.{AreSound, AreApart, AreQuiet, quiet_then}
use Rattle.plan_laws.proofs.OneNode.{is_said}
use Rattle.plan_laws.proofs.Changes.{drop_changes, blocks_down, large_list}
use Rattle.plan_laws.proofs.Sound.{KeepsBlocks, StandsFor, IsNobodys, IsFreeRoom, MayGo, freed_unused, drop_sound, relink_sound}

same_node : (i j : ℕ) (l : LockId) → l ≡ lock.Node i → l ≡ lock.Node j → i ≡ j
same_node i j l a b = cc

-- the second store has the nodes of the first, with their blocks, and no others
pub record HasSameNodes (s t : Store) : Type 0 where
  pub back : (i : ℕ) (z : StoredNode) → t.inode i ≡ Some z → (x : StoredNode) × (s.inode i ≡ Some x) × (z.blocks ≡ x.blocks) × (z.small ≡ x.small) × (z.large ≡ x.large)
  pub uses : (k : ℕ) → t.use_of k ≡ s.use_of k

pub itself : (s : Store) → HasSameNodes s s
itself s = record { back = λ i z e. (z, e, refl, refl, refl); uses = λ k. refl }

module _ (s t : Store) (i : ℕ) (x y : StoredNode) (is : s.inode i ≡ Some x) (inodes : (a : ℕ) → t.inode a ≡ put s.inode i (Some y) a) where
  -- one inode is another, with the same blocks
  pub one_other : (y.blocks ≡ x.blocks) × (y.small ≡ x.small) × (y.large ≡ x.large) → ((k : ℕ) → t.use_of k ≡ s.use_of k) → HasSameNodes s t
  one_other same uses = record { back = back; uses = uses }
    where
      back : (a : ℕ) (z : StoredNode) → t.inode a ≡ Some z → (x : StoredNode) × (s.inode a ≡ Some x) × (z.blocks ≡ x.blocks) × (z.small ≡ x.small) × (z.large ≡ x.large)
      back a z e = ⊎_elim
          (λ q. let new : Some y ≡ Some z = sym (inodes a ∙ ap (put s.inode i (Some y)) q ∙ put_same s.inode i (Some y)) ∙ e in
          let it : y ≡ z = cc in
          (x, ap s.inode q ∙ is, ap (λ v. v.blocks) (sym it) ∙ same.0, ap (λ v. v.small) (sym it) ∙ same.1, ap (λ v. v.large) (sym it) ∙ same.2))
          (λ d. (z, sym (inodes a ∙ put_other s.inode i (Some y) a d) ∙ e, refl, refl, refl)) (cases_eq a i)

pub taken_same : (s : Store) (i : ℕ) (x : StoredNode) (q : ℕ) → s.inode i ≡ Some x → HasSameNodes s (edited_all s (take_entry i x q))
taken_same s i x q is = one_other s (edited_all s (take_entry i x q)) i x (record x { size = x.size - 1 }) is (λ a. refl) (refl, refl, refl) (λ k. refl)

pub relinked_same : (s : Store) (i : ℕ) (x : StoredNode) (links : ℕ) → s.inode i ≡ Some x → HasSameNodes s (edited_all s (relink i x links))
relinked_same s i x links is = one_other s (edited_all s (relink i x links)) i x (record x { links = links }) is (λ a. refl) (refl, refl, refl) (λ k. refl)

module _ (s : Store) (at : Nodes) (n : Naming) (g : Pictures s at n) where
  pub one_small : (i j k : ℕ) → HasSmall s i k → HasSmall s j k → i ≡ j
  one_small i j k a b = same_node i j (small_cover n k (n.owner k)) (small_lock s at n g i k a) (small_lock s at n g j k b)

  pub one_large : (i j k : ℕ) → HasLarge s i k → HasLarge s j k → i ≡ j
  one_large i j k a b = same_node i j (large_cover n k (n.large_owner k)) (large_lock s at n g i k a) (large_lock s at n g j k b)

  pub nobodys : (k : ℕ) → n.owner k ≡ None → IsNobodys s k
  nobodys k e i h = let z : lock.Segment (k / 1024) ≡ lock.Node i = sym (ap (small_cover n k) e) ∙ small_lock s at n g i k h in cc

  pub no_ones : (k : ℕ) → n.large_owner k ≡ None → (i : ℕ) → HasLarge s i k → ⊥
  no_ones k e i h = let z : lock.Segment k ≡ lock.Node i = sym (ap (large_cover n k) e) ∙ large_lock s at n g i k h in cc

  -- a node with a directory's block is a directory
  pub directory_node : (j : ℕ) (y : StoredNode) (m : ℕ) → s.inode j ≡ Some y → m < y.blocks → is_directory_use (s.use_of (y.small m)) ≡ true → y.kind ≡ 2
  directory_node j y m is l e = let r = node_of s at n g j y is in by_node r.birth r.node r.inode
    where
      by_node : (b : ℕ) (node : Node) → y ≡ inode_of (n.stamp b) (n.block b) (n.large b) node → y.kind ≡ 2
      by_node b (Dir entries blocks) q = ap (λ z. z.kind) q
      by_node b (File cells links when) q = absurd (let f : is_directory_use (s.use_of (y.small m)) ≡ false = ((stands s at n g j y is).file (ap (λ z. z.kind) q)).uses m l in cc)
      by_node b (Link target links) q = absurd (let z : y.blocks ≡ 0 = ap (λ z. z.blocks) q in omega arith)

  module _ (t : Store) (same : HasSameNodes s t) where
    small_back : (i k : ℕ) → HasSmall t i k → HasSmall s i k
    small_back i k h = let r = same.back i h.node h.is in
        record { node = r.0; is = r.1; index = h.index; inside = subst (λ b. h.index < b) r.2 h.inside; here = ap (λ f. f h.index) (sym r.3) ∙ h.here }

    large_back : (i k : ℕ) → HasLarge t i k → HasLarge s i k
    large_back i k h = let r = same.back i h.node h.is in record { node = r.0; is = r.1; here = sym r.4 ∙ h.here }

    pub stands_for : (i : ℕ) (x : StoredNode) → s.inode i ≡ Some x → StandsFor t i x
    stands_for i x is z e =
        let r = same.back i z e in
        let it : r.0 ≡ x = (let q : Some r.0 ≡ Some x = sym r.1 ∙ is in cc) in
        subst (KeepsBlocks z) it (record { small = λ j l. (subst (λ b. j < b) r.2 l, ap (λ f. f j) (sym r.3)); large = sym r.4 })

    pub free_room : (room : Room) → ((k : ℕ) → room ≡ InBlock k → n.owner k ≡ None) → IsFreeRoom t room
    free_room (Inside q) free = tt
    free_room NoRoom free = tt
    free_room (InBlock k) free = λ i h. nobodys k (free k refl) i (small_back i k h)

    pub may_go : (j : ℕ) (y : StoredNode) → s.inode j ≡ Some y → MayGo t j y
    may_go j y is = record {
      stands = stands_for j y is;
      alone = λ i m l h. one_small i j (y.small m) (small_back i (y.small m) h) (record { node = y; is = is; index = m; inside = l; here = refl });
      large_alone = λ i k e h. one_large i j k (large_back i k h) (record { node = y; is = is; here = e });
      kind = λ m l e. directory_node j y m is l (ap is_directory_use (sym (same.uses (y.small m))) ∙ e);
    }

-- ---- a link fewer

pub fewer_sound : (s : Store) (j : ℕ) (y : StoredNode) → MayGo s j y → AreSound s (edited_all s (fewer j y)) (fewer j y)
fewer_sound s j y may = go (is_last y)
  where
    go : (b : Bool) → AreSound s (edited_all s (if b then drop_node j y else relink j y (y.links - 1))) (if b then drop_node j y else relink j y (y.links - 1))
    go true = drop_sound s j y may
    go false = relink_sound s j y (y.links - 1) may.stands

-- edits that put no block in use
pub record Frees (es : List Edit) : Type 0 where
  pub uses : (k : ℕ) (u : Use) → first_said (use_said k) es ≡ Some u → is_unused u ≡ true
  pub larges : (g : ℕ) → first_said (large_said g) es ≡ Some true → ⊥

drop_frees : (s : Store) (j : ℕ) (y : StoredNode) → Frees (drop_node j y)
drop_frees s j y =
    let is = drop_changes j y s in
    record {
      uses = λ k u e. let r = is_said (is_among k (blocks_down y.small y.blocks)) (freed y.kind) u (sym (is.uses k) ∙ e) in ap is_unused (sym r.1) ∙ freed_unused y.kind;
      larges = λ g e. let r = is_said (is_among g (large_list y.large)) false true (sym (is.larges g) ∙ e) in (let z : false ≡ true = r.1 in cc);
    }

pub fewer_frees : (s : Store) (j : ℕ) (y : StoredNode) → Frees (fewer j y)
fewer_frees s j y = go (is_last y)
  where
    go : (b : Bool) → Frees (if b then drop_node j y else relink j y (y.links - 1))
    go true = drop_frees s j y
    go false = record { uses = λ k u e. absurd (cc); larges = λ g e. cc }

pub before_freeing : (es fs : List Edit) → AreQuiet es → Frees fs → AreApart es fs
before_freeing es fs quiet frees = quiet_then es fs quiet (λ k u e f. absurd (let t : is_unused u ≡ true = frees.uses k u e in cc)) (λ g e. absurd (frees.larges g e))
