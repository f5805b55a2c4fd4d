-- Nothing that a recovery removes is touched by a later operation of another server: the node of what is touched has kept its inode since, whose lock the lost operation had alone.
use Rattle.std.proofs.Common.{ℕ, ◌≡◌, ◌≢◌, ◌≤◌, ◌<◌, ◌*◌, ◌⊎◌, ⊎_elim, inl, inr, Bool, true, false, is_some, Option, Some, None, List, [], ◌∷◌, ◌++◌, refl, sym, ◌∙◌, ap, subst}
use Rattle.frang_base.specs.Locks.{has_lock}
use Rattle.frang_base.specs.declared.lock.LockId.{LockId}
use Rattle.frang_base.specs.declared.lock.LockId.TheVariants as lock
use Rattle.tree_definitions.specs.declared.history.Entry.{Entry}
use Rattle.tree_definitions.specs.Touched.{changes, shape_of, touches}
use Rattle.tree_definitions.specs.Tree.{FileTree, node_at}
use Rattle.tree_laws.proofs.ShapeNodes.{found}
use Rattle.sector_bytes.specs.Blocks.{Block}
use Rattle.sector_world.specs.Histories.{Commit, Each, Item}
use Rattle.sector_world.specs.Histories.Item.{Done, Doubt}
use Rattle.sector_world.specs.Plans.{IsByPlan, Legal}
use Rattle.sector_world.specs.Seen.{IsLost, Unmet}
use Rattle.sector_world.specs.Trees.{Distinct, tree_of}
use Rattle.disk_definitions.specs.Naming.{Naming}
use Rattle.disk_definitions.specs.Meets.{IsOfTree}
use Rattle.line_laws.proofs.Shaping.{some_shaped}
use Rattle.line_histories.specs.LinePlans.{sector_plan}
use Rattle.line_histories.specs.Following.{CoversFollow, store_after}
use Rattle.line_histories.specs.Trees.{MayNumber, MayTake, NumberedTree, performed_numbered}
use Rattle.line_histories.proofs.Runs.{both, numbered, take_distinct}
use Rattle.byte_trees.specs.Deeds.{Deed, Does, items, tree_after}
use Rattle.stop_laws.specs.Pairs.{ComesAfter, NothingLostIsTouched}
use Rattle.stop_laws.specs.Paired.{AreLines}
use Rattle.stop_laws.specs.Sight.{Begins}
use Rattle.stop_laws.proofs.Births as births
use Rattle.stop_laws.proofs.Guarded.{all_guarded, covers}
use Rattle.stop_laws.proofs.Lines.{shapes_follow}
use Rattle.stop_laws.proofs.Removing.{AllGuarded}
use Rattle.stop_laws.proofs.Uses.{lines_have_alone, lines_use, same_tree}

-- ---- a place in a history

pub each_behind : (P : Commit → Type 0) (more h : List Item) → Each P (more ++ h) → Each P h
each_behind P [] h all = all
each_behind P (Done c ∷ more) h all = each_behind P more h all.1
each_behind P (Doubt marked ∷ more) h all = each_behind P more h all

pub legal_behind : (plan : _) (opening : ℕ → Block) (more h : List Item) → Legal plan opening (more ++ h) → Legal plan opening h
legal_behind plan opening [] h all = all
legal_behind plan opening (Done c ∷ more) h all = legal_behind plan opening more h all.1
legal_behind plan opening (Doubt marked ∷ more) h all = legal_behind plan opening more h all

guarded_behind : (home : ℕ → LockId) (more h : List Item) → AllGuarded home (more ++ h) → AllGuarded home h
guarded_behind home [] h all = all
guarded_behind home (Done c ∷ more) h all = guarded_behind home more h all.1
guarded_behind home (Doubt marked ∷ more) h all = guarded_behind home more h all

module _ (numbers : List ℕ) (first : FileTree) where
  pub distinct_behind : (more h : List Item) → Distinct (MayNumber numbers) first (more ++ h) → Distinct (MayNumber numbers) first h
  distinct_behind [] h all = all
  distinct_behind (Done c ∷ more) h all = distinct_behind more h all.2
  distinct_behind (Doubt marked ∷ more) h all = distinct_behind more h all

module _ (segments : ℕ) (when : ℕ → ℕ) (opening : ℕ → Block) (first : FileTree) (numbers : List ℕ) (home : ℕ → LockId) (logged : ℕ → Bool) (bytes : ℕ → Option Block)
    (begin : Begins segments when opening first numbers home logged bytes) where
  abbrev start : NumberedTree
  start = numbered first numbers

  abbrev plan_legal : List Item → Type 0
  plan_legal h = Legal (sector_plan segments when) opening h

  abbrev are_distinct : List Item → Type 0
  are_distinct h = Distinct (MayNumber numbers) first h

  abbrev tree : List Item → FileTree
  tree h = (tree_of (performed_numbered when) start h).tree

  abbrev IsOf : List Item → Naming → Type 0
  IsOf h n = births.IsOf segments when begin.times opening start begin.stands h n

  taken : (h : List Item) → are_distinct h → Distinct MayTake start h
  taken h d = take_distinct when first numbers h d

  follow : (h : List Item) → plan_legal h → are_distinct h → Each IsByPlan h → CoversFollow segments opening home h
  follow h l d by = covers segments when opening first numbers home logged bytes begin h l d by

  shape_is : (deeds : List Deed) → plan_legal (items deeds) → are_distinct (items deeds) → AreLines when deeds → shape_of (tree_after first deeds) ≡ shape_of (tree (items deeds))
  shape_is deeds l d lines = shapes_follow segments when opening first numbers deeds begin.times begin.stands l d lines ∙ ap shape_of (sym (same_tree when first numbers (items deeds)))

  -- no node has the number of an operation to come
  not_there : (h : List Item) → plan_legal h → are_distinct h → (m : ℕ) → Each (λ e. e.op ≢ m) h → MayTake m start → is_some (node_at (shape_of (tree h)) m) ≡ false
  not_there h l d m others may =
      ap is_some (found (tree h) m) ∙ some_shaped (node_at (tree h) m)
      ∙ ap is_some ((both segments when begin.times opening start begin.stands h l (taken h d)).1 m others may).new

  -- ---- back to an operation

  module _ (c : Commit) (g : List Item) (i b : ℕ) (old : (is_some (node_at (shape_of (tree g)) b) ≡ true) ⊎ (b ≡ c.op)) where
    back : (more : List Item) → plan_legal (more ++ Done c ∷ g) → are_distinct (more ++ Done c ∷ g) → Each IsByPlan (more ++ Done c ∷ g) → (n : Naming) → IsOf (more ++ Done c ∷ g) n →
        n.birth i ≡ Some b → (m : Naming) → IsOf (Done c ∷ g) m → m.birth i ≡ Some b
    back [] l d by n of is m of_m =
        births.births_agree (store_after segments opening (Done c ∷ g)) (shape_of (tree (Done c ∷ g))) n m of of_m
        (births.reached_at segments when begin.times opening start begin.stands (Done c ∷ g) l (taken (Done c ∷ g) d)) i
        ∙ is
    back (Doubt marked ∷ more) l d by n of is m of_m = back more l d by n of is m of_m
    back (Done x ∷ more) l d by n of is m of_m =
        let y = births.named segments when begin.times opening start begin.stands (more ++ Done c ∷ g) l.1 (taken (more ++ Done c ∷ g) d.2) in
        ⊎_elim (λ was. back more l.1 d.2 by.1 y.0 y.1 was m of_m) (λ new. absurd (fresh new.1))
        (births.birth_step segments when begin.times opening start begin.stands x (more ++ Done c ∷ g) l (taken (Done x ∷ (more ++ Done c ∷ g)) d) by.0 y.0 n y.1 of i b is)
      where
        here : Each (λ e. e.op ≢ x.op) (Done c ∷ g)
        here = each_behind (λ e. e.op ≢ x.op) more (Done c ∷ g) d.1

        fresh : b ≡ x.op → ⊥
        fresh same =
            ⊎_elim
            (λ there.
            let none : is_some (node_at (shape_of (tree g)) x.op) ≡ false =
            not_there g (legal_behind (sector_plan segments when) opening more (Done c ∷ g) l.1).1 (distinct_behind numbers first more (Done c ∷ g) d.2).2 x.op here.1
            (taken (Done x ∷ (more ++ Done c ∷ g)) d).0 in
            let z : true ≡ false = sym there ∙ ap (λ k. is_some (node_at (shape_of (tree g)) k)) same ∙ none in
            cc)
            (λ own. here.0 (sym own ∙ same)) old

  -- ---- an operation that changed the node has its lock alone

  module _ (c : Commit) (e : Entry) (older : List Deed) (l : plan_legal (Done c ∷ items older)) (d : are_distinct (Done c ∷ items older)) (by : Each IsByPlan (Done c ∷ items older))
      (lines : AreLines when (Does c e ∷ older)) (i b : ℕ) (changed : changes (tree_after first older) e b ≡ true) (m : Naming) (of_m : IsOf (Done c ∷ items older) m)
      (is : m.birth i ≡ Some b) where
    before : (n : Naming) × IsOf (items older) n
    before = births.named segments when begin.times opening start begin.stands (items older) l.1 (taken (items older) d.2)

    stays_there : before.0.birth i ≡ Some b → has_lock (lock.Node i) c.alone ≡ true
    stays_there was =
        let own = before.1.pictures.whose i b was in
        let shapes = shape_is older l.1 d.2 lines.1 in
        subst (λ k. has_lock (lock.Node k) c.alone ≡ true) own.0
        (lines_have_alone segments when opening first numbers c e older begin.times begin.stands l d lines b before.0
        (subst (λ t. IsOfTree (store_after segments opening (items older)) t before.0) (sym shapes) before.1)
        (subst (λ t. is_some (node_at t b) ≡ true) (sym shapes) own.1) changed)

    -- the inode is one of the disk
    few : segments ≤ 64
    few = subst (λ k. k ≤ 64) (births.stands_at segments when begin.times opening start begin.stands (Done c ∷ items older) l (taken (Done c ∷ items older) d)).as_many of_m.few

    low : i < 64 * segments
    low =
        subst (λ k. i < 64 * k) (births.stands_at segments when begin.times opening start begin.stands (Done c ∷ items older) l (taken (Done c ∷ items older) d)).as_many
        (of_m.inodes i (of_m.pictures.bits i ∙ ap is_some is))

    is_new : before.0.birth i ≡ None → has_lock (lock.Node i) c.alone ≡ true
    is_new none = go (has_lock (lock.Node i) c.alone) refl
      where
        go : (t : Bool) → has_lock (lock.Node i) c.alone ≡ t → has_lock (lock.Node i) c.alone ≡ true
        go true has = has
        go false has =
            let same : m.birth i ≡ before.0.birth i =
            births.birth_stays segments when begin.times opening start begin.stands home few i low c (items older) l (taken (Done c ∷ items older) d) by.0
            (all_guarded segments when opening first numbers home logged bytes begin (Done c ∷ items older) l d by).0 (follow (items older) l.1 d.2 by.1) (follow (Done c ∷ items older) l d by)
            (λ a. let z : true ≡ false = sym a ∙ has in cc) before.0 m before.1 of_m in
            absurd (let z : true ≡ false = sym (ap is_some is) ∙ ap is_some same ∙ ap is_some none in cc)

    pub had_alone : has_lock (lock.Node i) c.alone ≡ true
    had_alone =
        ⊎_elim stays_there (λ new. is_new new.0)
        (births.birth_step segments when begin.times opening start begin.stands c (items older) l (taken (Done c ∷ items older) d) by.0 before.0 m before.1 of_m i b is)

  -- ---- so it isn't touched

  module _ (server durable : ℕ) (c : Commit) (e : Entry) (older : List Deed) (more : List Item) (c2 : Commit) (e2 : Entry) (older2 : List Deed)
      (l2 : plan_legal (Done c2 ∷ items older2)) (d2 : are_distinct (Done c2 ∷ items older2)) (by2 : Each IsByPlan (items older2)) (lines2 : AreLines when (Does c2 e2 ∷ older2))
      (lines : AreLines when (Does c e ∷ older)) (unmet : Unmet server durable (Done c2 ∷ items older2)) (comes : ComesAfter server durable c older more c2 older2) (b : ℕ)
      (old : (is_some (node_at (shape_of (tree_after first older)) b) ≡ true) ⊎ (b ≡ c.op)) (there : is_some (node_at (shape_of (tree_after first older2)) b) ≡ true)
      (changed : changes (tree_after first older) e b ≡ true) (touched : touches (tree_after first older2) e2 b ≡ true) where
    l_all : plan_legal (more ++ Done c ∷ items older)
    l_all = subst plan_legal comes.place l2.1

    d_all : are_distinct (more ++ Done c ∷ items older)
    d_all = subst are_distinct comes.place d2.2

    by_all : Each IsByPlan (more ++ Done c ∷ items older)
    by_all = subst (Each IsByPlan) comes.place by2

    l : plan_legal (Done c ∷ items older)
    l = legal_behind (sector_plan segments when) opening more (Done c ∷ items older) l_all

    d : are_distinct (Done c ∷ items older)
    d = distinct_behind numbers first more (Done c ∷ items older) d_all

    by : Each IsByPlan (Done c ∷ items older)
    by = each_behind IsByPlan more (Done c ∷ items older) by_all

    -- where it is touched
    now : (n : Naming) × IsOf (items older2) n
    now = births.named segments when begin.times opening start begin.stands (items older2) l2.1 (taken (items older2) d2.2)

    shape2 : shape_of (tree_after first older2) ≡ shape_of (tree (items older2))
    shape2 = shape_is older2 l2.1 d2.2 lines2.1

    is_now : now.0.birth (now.0.inode b) ≡ Some b
    is_now = now.1.pictures.numbered b (subst (λ t. is_some (node_at t b) ≡ true) shape2 there)

    used : has_lock (lock.Node (now.0.inode b)) c2.uses ≡ true
    used =
        lines_use segments when opening first numbers c2 e2 older2 begin.times begin.stands l2 d2 lines2 b now.0
        (subst (λ t. IsOfTree (store_after segments opening (items older2)) t now.0) (sym shape2) now.1) there touched

    -- behind the operation that is lost
    then_of : (m : Naming) × IsOf (Done c ∷ items older) m
    then_of = births.named segments when begin.times opening start begin.stands (Done c ∷ items older) l (taken (Done c ∷ items older) d)

    is_then : then_of.0.birth (now.0.inode b) ≡ Some b
    is_then =
        back c (items older) (now.0.inode b) b
        (⊎_elim (λ was. inl (subst (λ t. is_some (node_at t b) ≡ true) (shape_is older l.1 d.2 lines.1) was)) (λ own. inr own) old)
        more l_all d_all by_all now.0 (subst (λ h. IsOf h now.0) comes.place now.1) is_now then_of.0 then_of.1

    alone : has_lock (lock.Node (now.0.inode b)) c.alone ≡ true
    alone = had_alone c e older l d by lines (now.0.inode b) b changed then_of.0 then_of.1 is_then

    pub none : ⊥
    none =
        (each_behind (λ x. IsLost server durable x → has_lock (lock.Node (now.0.inode b)) x.alone ≡ true → ⊥) more (Done c ∷ items older)
        (subst (Each (λ x. IsLost server durable x → has_lock (lock.Node (now.0.inode b)) x.alone ≡ true → ⊥)) comes.place (unmet.0 comes.foreign (lock.Node (now.0.inode b)) used))).0 comes.lost alone

pub nothing_lost_is_touched : NothingLostIsTouched
nothing_lost_is_touched segments when opening first numbers home logged bytes begin server durable c e older more c2 e2 older2 l2 d2 by2 lines2 lines unmet comes b old there changed touched =
    none segments when opening first numbers home logged bytes begin server durable c e older more c2 e2 older2 l2 d2 by2 lines2 lines unmet comes b old there changed touched
