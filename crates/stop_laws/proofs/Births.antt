-- Which node an inode is of goes by the lock of the inode: a removal leaves it, where nothing that is removed had the lock alone.
use Rattle.std.proofs.Common.{ℕ, ◌≡◌, ◌≤◌, ◌<◌, ◌*◌, ◌⊎◌, ⊎_elim, inl, inr, Bool, true, false, is_some, Option, Some, None, List, [], ◌∷◌, refl, sym, ◌∙◌, ap, subst, arith}
use Rattle.frang_base.specs.Functions.{keep_if}
use Rattle.frang_base.specs.Locks.{has_lock}
use Rattle.frang_base.specs.declared.lock.LockId.{LockId}
use Rattle.frang_base.specs.declared.lock.LockId.TheVariants as lock
use Rattle.frang_base.specs.declared.op.Op.{Op}
use Rattle.frang_base.specs.declared.op.Op.TheVariants as op
use Rattle.frang_base.proofs.Tests.{none_of}
use Rattle.tree_definitions.specs.declared.node.Node.{Node}
use Rattle.tree_definitions.specs.declared.node.Node.TheVariants.{Dir, File, Link}
use Rattle.tree_definitions.specs.Perform.{perform}
use Rattle.tree_definitions.specs.Touched.{shape_of}
use Rattle.tree_definitions.specs.Tree.{FileTree, node_at}
use Rattle.tree_definitions.specs.WellFormed.{IsNew, IsWellFormed}
use Rattle.tree_laws.proofs.Balance.{Limits, Within}
use Rattle.tree_laws.proofs.StepsLaws.{perform_well}
use Rattle.tree_laws.proofs.WellFormedLaws.{Makes}
use Rattle.sector_bytes.specs.Blocks.{Block}
use Rattle.sector_bytes.specs.Sectors.{Sectors}
use Rattle.sector_world.specs.Histories.{Commit, Each, Item, logical, survives}
use Rattle.sector_world.specs.Histories.Item.{Done, Doubt}
use Rattle.sector_world.specs.Plans.{IsByPlan, Legal}
use Rattle.sector_world.specs.Seen as seen
use Rattle.sector_world.specs.Trees.{Distinct, tree_of}
use Rattle.disk_definitions.specs.Naming.{Naming}
use Rattle.disk_definitions.specs.Standing.{IsReached}
use Rattle.disk_definitions.specs.Store.{Store}
use Rattle.disk_definitions.specs.Ask.{InodeAt, number_of}
use Rattle.disk_definitions.specs.Meets.{IsOfTree}
use Rattle.disk_definitions.specs.Plans.{Hand, Finish}
use Rattle.disk_definitions.specs.Covers.{inode_cover}
use Rattle.line_laws.proofs.NodeLaws.{line_nodes_free, line_nodes_keep}
use Rattle.line_laws.proofs.Told.{namings_agree}
use Rattle.line_histories.specs.LinePlans.{hand_on, sector_plan, store_on}
use Rattle.line_histories.specs.Following.{CoversFollow, store_after}
use Rattle.line_histories.specs.Standing.{StandsForShape, StandsNumbered}
use Rattle.line_histories.specs.Trees.{AreTimes, MayTake, NumberedTree, performed_numbered}
use Rattle.line_histories.proofs.Disks.{blank_of}
use Rattle.line_histories.proofs.Runs.{both}
use Rattle.line_histories.specs.Parts.{IsFinished}
use Rattle.stop_laws.proofs.BytesAlong as along
use Rattle.stop_laws.proofs.Guarded.{inode_here}
use Rattle.stop_laws.proofs.Removing as removing
use Rattle.stop_laws.proofs.Removing.{AllGuarded, IsGuarded, lost}

-- ---- which nodes come

-- those of a tree, and one more
abbrev old_or : FileTree → ℕ → Limits
old_or t birth = record { allowed = λ b k. (is_some (node_at t b) ≡ true) ⊎ (b ≡ birth); least = λ b. 0 }

old_within : (t : FileTree) (birth b : ℕ) (z : Node) → node_at t b ≡ Some z → Within (old_or t birth) b z
old_within t birth b (Dir es k) is = (inl (ap is_some is), omega arith)
old_within t birth b (File cells links when) is = inl (ap is_some is)
old_within t birth b (Link target links) is = inl (ap is_some is)

within_old : (t : FileTree) (birth b : ℕ) (z : Node) → Within (old_or t birth) b z → (is_some (node_at t b) ≡ true) ⊎ (b ≡ birth)
within_old t birth b (Dir es k) w = w.0
within_old t birth b (File cells links when) w = w
within_old t birth b (Link target links) w = w

may_make : (t : FileTree) (birth : ℕ) (o : Op) → Makes (old_or t birth) o birth
may_make t birth (op.Create path) = inr refl
may_make t birth (op.Mkdir path) = (inr refl, omega arith)
may_make t birth (op.Symlink path target) = inr refl
may_make t birth _ = tt

-- an operation makes none but its own
only_new : (t : FileTree) → IsWellFormed t → (o : Op) (birth when m b : ℕ) → IsNew t birth → node_at t b ≡ None → is_some (node_at (perform t o birth when m).tree b) ≡ true → b ≡ birth
only_new t well o birth when m b new none there = go (node_at (perform t o birth when m).tree b) refl there
  where
    go : (x : Option Node) → node_at (perform t o birth when m).tree b ≡ x → is_some x ≡ true → b ≡ birth
    go None is some = absurd (cc)
    go (Some z) is some =
        ⊎_elim (λ old. absurd (let y : is_some (node_at t b) ≡ false = ap is_some none in cc)) (λ same. same)
        (within_old t birth b z ((perform_well (old_or t birth) t (record { well = well; allowed = old_within t birth }) o birth when m new (may_make t birth o)).allowed b z is))

-- ---- a finished line

-- an inode has the node that it had, or the new one where it had none
finished_step : (o : Op) (hand : Hand) (store : Store) (tree : FileTree) (naming after : Naming) (birth when ever : ℕ) (f : Finish) →
    IsFinished o hand store tree naming after birth when ever f → (i b : ℕ) → after.birth i ≡ Some b → (naming.birth i ≡ Some b) ⊎ ((naming.birth i ≡ None) × (b ≡ birth))
finished_step o hand store tree naming after birth when ever f fin i b is = go (is_some (node_at tree b)) refl
  where
    there : (after.inode b ≡ i) × (is_some (node_at (perform tree o birth when ever).tree b) ≡ true)
    there = fin.leads.pictures.whose i b is

    go : (t : Bool) → is_some (node_at tree b) ≡ t → (naming.birth i ≡ Some b) ⊎ ((naming.birth i ≡ None) × (b ≡ birth))
    go true was =
        let keeps : after.inode b ≡ naming.inode b =
        line_nodes_keep o hand store tree naming after birth when ever f fin.of fin.reached fin.at_hand fin.new fin.files fin.comes fin.leads b was there.1 in
        inl (ap naming.birth (sym there.0 ∙ keeps) ∙ fin.of.pictures.numbered b was)
    go false was =
        let none : node_at tree b ≡ None = none_of (node_at tree b) was in
        let free : naming.birth (after.inode b) ≡ None =
        (line_nodes_free o hand store tree naming after birth when ever f fin.of fin.reached fin.at_hand fin.new fin.files fin.comes fin.leads b none there.1).0 in
        inr (ap naming.birth (sym there.0) ∙ free, only_new tree fin.of.well_formed o birth when ever b fin.new none there.1)

-- ---- namings of one disk

pub births_agree : (s : Store) (tree : FileTree) (n m : Naming) → IsOfTree s tree n → IsOfTree s tree m → IsReached (node_at tree) → (i : ℕ) → m.birth i ≡ n.birth i
births_agree s tree n m of other reached i = go (n.birth i) refl (m.birth i) refl
  where
    bits : is_some (m.birth i) ≡ is_some (n.birth i)
    bits = sym (other.pictures.bits i) ∙ of.pictures.bits i

    go : (o : Option ℕ) → n.birth i ≡ o → (q : Option ℕ) → m.birth i ≡ q → q ≡ o
    go None is None too = refl
    go None is (Some c) too = absurd (let z : true ≡ false = sym (ap is_some too) ∙ bits ∙ ap is_some is in cc)
    go (Some b) is q too =
        let own = of.pictures.whose i b is in
        let here : m.inode b ≡ i = namings_agree s tree n m of other reached b own.1 ∙ own.0 in
        sym too ∙ ap m.birth (sym here) ∙ other.pictures.numbered b own.1

module _ (segments : ℕ) (when : ℕ → ℕ) (times : AreTimes when) (opening : ℕ → Block) (start : NumberedTree) (begins : StandsNumbered segments opening start) where
  abbrev pub shape : List Item → FileTree
  shape h = shape_of (tree_of (performed_numbered when) start h).tree

  -- a naming of what the sectors with versions say after the history
  abbrev pub IsOf : List Item → Naming → Type 0
  IsOf h n = IsOfTree (store_after segments opening h) (shape_of (tree_of (performed_numbered when) start h).tree) n

  pub stands_at : (h : List Item) → Legal (sector_plan segments when) opening h → Distinct MayTake start h →
      StandsForShape segments (logical opening h) (tree_of (performed_numbered when) start h).tree
  stands_at h l d = (both segments when times opening start begins h l d).0.stands

  named_on : (count : ℕ) (disk : Sectors) (tree : FileTree) (stands : StandsForShape count disk tree) → IsOfTree (store_on count disk) (shape_of tree) stands.below.stands.naming
  named_on count disk tree stands =
      subst (λ k. IsOfTree (store_on k disk) (shape_of tree) stands.below.stands.naming) stands.as_many
      (blank_of disk tree (record { well_formed = stands.well_formed; as_many = refl; below = stands.below; zeros = stands.zeros }))

  -- there is one
  pub named : (h : List Item) → Legal (sector_plan segments when) opening h → Distinct MayTake start h → (n : Naming) × IsOf h n
  named h l d = ((stands_at h l d).below.stands.naming, named_on segments (logical opening h) (tree_of (performed_numbered when) start h).tree (stands_at h l d))

  pub reached_at : (h : List Item) → Legal (sector_plan segments when) opening h → Distinct MayTake start h → IsReached (node_at (shape_of (tree_of (performed_numbered when) start h).tree))
  reached_at h l d = (stands_at h l d).below.stands.reached

  -- ---- one operation more

  module _ (c : Commit) (h : List Item) (l : Legal (sector_plan segments when) opening (Done c ∷ h)) (d : Distinct MayTake start (Done c ∷ h)) (by : IsByPlan c)
      (n m : Naming) (before : IsOf h n) (after : IsOf (Done c ∷ h) m) (i : ℕ) where
    pub birth_step : (b : ℕ) → m.birth i ≡ Some b → (n.birth i ≡ Some b) ⊎ ((n.birth i ≡ None) × (b ≡ c.op))
    birth_step b is =
        let naming = along.naming segments when times opening start begins c h l d by in
        let next = along.after segments when times opening start begins c h l d by in
        let store = store_on segments (along.next segments when times opening start begins c h l d by) in
        let to = shape_of (along.to segments when times opening start begins c h l d by) in
        let here : next.after.birth i ≡ Some b =
        births_agree store to m next.after (subst (λ s. IsOfTree s to m) (along.store_is segments when times opening start begins c h l d by) after)
        (along.then_of segments when times opening start begins c h l d by) (reached_at (Done c ∷ h) l d) i ∙ is in
        let first : n.birth i ≡ naming.birth i =
        births_agree (store_after segments opening h) (shape_of (tree_of (performed_numbered when) start h).tree) naming n
        (along.step segments when times opening start begins c h l d by).of before (reached_at h l.1 d.2) i in
        ⊎_elim (λ e. inl (first ∙ e)) (λ p. inr (first ∙ p.0, p.1))
        (finished_step c.asked (hand_on segments (logical opening h) c.hint) (store_on segments (logical opening h)) (shape_of (tree_of (performed_numbered when) start h).tree) naming
        next.after c.op (when c.op) next.ever (along.finish segments when times opening start begins c h l d by) next.done i b here)

  -- ---- covers of inodes

  module _ (home : ℕ → LockId) (few : segments ≤ 64) (i : ℕ) (low : i < 64 * segments) where
    abbrev s : ℕ
    s = number_of (InodeAt i)

    covered : (h : List Item) (n : Naming) → CoversFollow segments opening home h → IsOf h n → seen.cover_of home h s ≡ inode_cover i (n.birth i)
    covered h n follow of = follow (shape_of (tree_of (performed_numbered when) start h).tree) n of s (InodeAt i) (inode_here segments i few low)

    apart_locks : (o q : Option ℕ) → inode_cover i o ≡ inode_cover i q → is_some o ≡ is_some q
    apart_locks None None e = refl
    apart_locks (Some b) (Some c) e = refl
    apart_locks None (Some c) e = absurd (cc)
    apart_locks (Some b) None e = absurd (cc)

    -- an operation that doesn't have the lock alone leaves the inode
    pub birth_stays : (c : Commit) (h : List Item) → Legal (sector_plan segments when) opening (Done c ∷ h) → Distinct MayTake start (Done c ∷ h) → IsByPlan c → IsGuarded home c h →
        CoversFollow segments opening home h → CoversFollow segments opening home (Done c ∷ h) → (has_lock (lock.Node i) c.alone ≡ true → ⊥) →
        (n m : Naming) → IsOf h n → IsOf (Done c ∷ h) m → m.birth i ≡ n.birth i
    birth_stays c h l d by g follow follow_then none n m before after = go (n.birth i) refl (m.birth i) refl (c.moves s) refl
      where
        was : seen.cover_of home h s ≡ inode_cover i (n.birth i)
        was = covered h n follow before

        is : seen.moved (c.moves s) (seen.cover_of home h s) ≡ inode_cover i (m.birth i)
        is = covered (Done c ∷ h) m follow_then after

        go : (o : Option ℕ) → n.birth i ≡ o → (q : Option ℕ) → m.birth i ≡ q → (v : Option LockId) → c.moves s ≡ v → m.birth i ≡ n.birth i
        go None was_at None is_at v goes = is_at ∙ sym was_at
        go (Some b) was_at q is_at (Some new) goes =
            absurd (none (subst (λ k. has_lock k c.alone ≡ true) (was ∙ ap (inode_cover i) was_at) (g.from s new goes)))
        go None was_at (Some b) is_at (Some new) goes =
            absurd (none (subst (λ k. has_lock k c.alone ≡ true) (sym (ap (λ v. seen.moved v (seen.cover_of home h s)) goes) ∙ is ∙ ap (inode_cover i) is_at) (g.to s new goes)))
        go None was_at (Some b) is_at None goes =
            let same : inode_cover i (Some b) ≡ inode_cover i None =
            sym (ap (inode_cover i) is_at) ∙ sym is ∙ ap (λ v. seen.moved v (seen.cover_of home h s)) goes ∙ was ∙ ap (inode_cover i) was_at in
            absurd (let z : true ≡ false = apart_locks (Some b) None same in cc)
        go (Some b) was_at None is_at None goes =
            let same : inode_cover i None ≡ inode_cover i (Some b) =
            sym (ap (inode_cover i) is_at) ∙ sym is ∙ ap (λ v. seen.moved v (seen.cover_of home h s)) goes ∙ was ∙ ap (inode_cover i) was_at in
            absurd (let z : false ≡ true = apart_locks None (Some b) same in cc)
        go (Some b) was_at (Some e) is_at None goes =
            ⊎_elim (λ r. is_at ∙ sym r) (λ r. absurd (let z : true ≡ false = sym (ap is_some was_at) ∙ ap is_some r.0 in cc)) (birth_step c h l d by n m before after i e is_at)

    -- one that is the same over two histories makes the same of it, where it was the same
    pub birth_same : (c : Commit) (h g : List Item) → Legal (sector_plan segments when) opening (Done c ∷ h) → Distinct MayTake start (Done c ∷ h) →
        Legal (sector_plan segments when) opening (Done c ∷ g) → Distinct MayTake start (Done c ∷ g) → IsByPlan c →
        CoversFollow segments opening home h → CoversFollow segments opening home (Done c ∷ h) → CoversFollow segments opening home g → CoversFollow segments opening home (Done c ∷ g) →
        (n m n_g m_g : Naming) → IsOf h n → IsOf (Done c ∷ h) m → IsOf g n_g → IsOf (Done c ∷ g) m_g → n_g.birth i ≡ n.birth i → m_g.birth i ≡ m.birth i
    birth_same c h g l d l_g d_g by fh fch fg fcg n m n_g m_g of_n of_m of_n_g of_m_g same = go (m.birth i) refl (m_g.birth i) refl
      where
        covers : inode_cover i (m_g.birth i) ≡ inode_cover i (m.birth i)
        covers =
            sym (covered (Done c ∷ g) m_g fcg of_m_g)
            ∙ ap (λ k. seen.moved (c.moves s) k) (covered g n_g fg of_n_g ∙ ap (inode_cover i) same ∙ sym (covered h n fh of_n))
            ∙ covered (Done c ∷ h) m fch of_m

        both_some : (b e : ℕ) → m.birth i ≡ Some b → m_g.birth i ≡ Some e → m_g.birth i ≡ m.birth i
        both_some b e is is_g =
            ⊎_elim
            (λ old. ⊎_elim (λ old_g. is_g ∙ sym old_g ∙ same ∙ old ∙ sym is)
            (λ new_g. absurd (let z : false ≡ true = sym (ap is_some new_g.0) ∙ ap is_some same ∙ ap is_some old in cc)) (birth_step c g l_g d_g by n_g m_g of_n_g of_m_g i e is_g))
            (λ new. ⊎_elim (λ old_g. absurd (let z : true ≡ false = sym (ap is_some old_g) ∙ ap is_some same ∙ ap is_some new.0 in cc))
            (λ new_g. is_g ∙ ap (λ x. Some x) (new_g.1 ∙ sym new.1) ∙ sym is) (birth_step c g l_g d_g by n_g m_g of_n_g of_m_g i e is_g))
            (birth_step c h l d by n m of_n of_m i b is)

        go : (o : Option ℕ) → m.birth i ≡ o → (q : Option ℕ) → m_g.birth i ≡ q → m_g.birth i ≡ m.birth i
        go None is None is_g = is_g ∙ sym is
        go (Some b) is (Some e) is_g = both_some b e is is_g
        go None is (Some e) is_g = absurd (let z : true ≡ false = sym (ap is_some is_g) ∙ apart_locks (m_g.birth i) (m.birth i) covers ∙ ap is_some is in cc)
        go (Some b) is None is_g = absurd (let z : false ≡ true = sym (ap is_some is_g) ∙ apart_locks (m_g.birth i) (m.birth i) covers ∙ ap is_some is in cc)

    -- ---- a removal

    module _ (server durable : ℕ) (follow : (h : List Item) → Legal (sector_plan segments when) opening h → Distinct MayTake start h → Each IsByPlan h → CoversFollow segments opening home h) where
      pub births_stay : (h : List Item) → Legal (sector_plan segments when) opening h → Distinct MayTake start h → Each IsByPlan h → AllGuarded home h →
          removing.Apart home server durable (lock.Node i) h → Legal (sector_plan segments when) opening (removing.stays home server durable h) →
          Distinct MayTake start (removing.stays home server durable h) → Each IsByPlan (removing.stays home server durable h) →
          (n m : Naming) → IsOf h n → IsOf (removing.stays home server durable h) m → m.birth i ≡ n.birth i
      births_stay [] l d by g a l_left d_left by_left n m of of_left = births_agree (store_after segments opening []) (shape_of (tree_of (performed_numbered when) start []).tree) n m of of_left (reached_at [] l d) i
      births_stay (Doubt marked ∷ h) l d by g a l_left d_left by_left n m of of_left = births_stay h l d by g a l_left d_left by_left n m of of_left
      births_stay (Done c ∷ h) l d by g a l_left d_left by_left n m of of_left = go (survives server durable c) refl l_left d_left by_left of_left (births_stay h l.1 d.2 by.1 g.1 a.1)
        where
          go : (b : Bool) → survives server durable c ≡ b → Legal (sector_plan segments when) opening (keep_if b (Done c) (removing.stays home server durable h)) →
              Distinct MayTake start (keep_if b (Done c) (removing.stays home server durable h)) → Each IsByPlan (keep_if b (Done c) (removing.stays home server durable h)) →
              IsOf (keep_if b (Done c) (removing.stays home server durable h)) m →
              (Legal (sector_plan segments when) opening (removing.stays home server durable h) → Distinct MayTake start (removing.stays home server durable h) →
              Each IsByPlan (removing.stays home server durable h) → (x y : Naming) → IsOf h x → IsOf (removing.stays home server durable h) y → y.birth i ≡ x.birth i) → m.birth i ≡ n.birth i
          go true is l_left d_left by_left of_left before =
              let x = named h l.1 d.2 in
              let y = named (removing.stays home server durable h) l_left.1 d_left.2 in
              birth_same c h (removing.stays home server durable h) l d l_left d_left by.0 (follow h l.1 d.2 by.1) (follow (Done c ∷ h) l d by)
              (follow (removing.stays home server durable h) l_left.1 d_left.2 by_left.1) (follow (Done c ∷ removing.stays home server durable h) l_left d_left by_left)
              x.0 n y.0 m x.1 of y.1 of_left (before l_left.1 d_left.2 by_left.1 x.0 y.0 x.1 y.1)
          go false is l_left d_left by_left of_left before =
              let x = named h l.1 d.2 in
              before l_left d_left by_left x.0 m x.1 of_left
              ∙ sym (birth_stays c h l d by.0 g.0 (follow h l.1 d.2 by.1) (follow (Done c ∷ h) l d by) (a.0 (lost home server durable c is)) x.0 n x.1 of)
