-- The locks of a line cover what it looks at, edits, touches and changes.
use Rattle.std.proofs.Common.{◌≡◌, ◌≢◌, ◌⊎◌, inl, inr, ⊎_elim, ℕ, true, List, [], ◌∷◌, ◌++◌, map, is_some, refl, sym, ◌∙◌, ap, subst}
use Rattle.std.proofs.lemmas.List.Elements.{Contains-append_right}
use Rattle.std.specs.List.{Contains}
use Rattle.frang_base.specs.declared.lock.LockId.{LockId}
use Rattle.frang_base.specs.declared.lock.LockId.TheVariants as lock
use Rattle.frang_base.specs.declared.op.Op.{Op}
use Rattle.frang_base.specs.declared.op.Op.TheVariants as op
use Rattle.frang_base.specs.declared.reply.Reply.{Reply}
use Rattle.tree_definitions.specs.Perform.{Step, Goes, Stops, perform_step, resolved as tree_resolved}
use Rattle.tree_definitions.specs.Touched.{visited}
use Rattle.tree_definitions.specs.Tree.{FileTree, node_at}
use Rattle.tree_laws.proofs.Resolving.{IsOf, Shaped, resolved_is}
use Rattle.disk_definitions.specs.Store.{Store}
use Rattle.disk_definitions.specs.Naming.{Naming}
use Rattle.disk_definitions.specs.Edits.{Edit}
use Rattle.disk_definitions.specs.Ask.{Sector, InodeAt, DirectoryAt, SegmentAt, BytesAt, LargeAt, run, looks}
use Rattle.disk_definitions.specs.Plans.{Hand, Plan, Finish, Lacks, Clears, Finishes, shared_nodes}
use Rattle.disk_definitions.specs.PlanOf.{plan_of}
use Rattle.disk_definitions.specs.Meets.{IsOfTree, IsHandOf}
use Rattle.plan_laws.specs.Locks.{IsSole}
use Rattle.plan_laws.specs.FilesPlanned.{HasFiles}
use Rattle.plan_laws.proofs.Covering.{has_cases, not_in_none, map_has}
use Rattle.plan_laws.specs.Looked.{edited_at}
use Rattle.disk_definitions.specs.Covers.{inode_cover, small_cover, cover_of}
use Rattle.plan_laws.specs.Covers.{IsHeld, PlanHolds, IsHeldSegment, changes_bytes}
use Rattle.plan_laws.proofs.Fine.{shared_held, only_held}
use Rattle.plan_laws.proofs.AllFine.{looks_are_covered, edits_are_covered}
use Rattle.plan_laws.proofs.TouchedHeld.{walks_are_held}
use Rattle.plan_laws.proofs.AllChanged.{changed_held}
use Rattle.plan_laws.proofs.WalksFine.{either}
use Rattle.disk_definitions.specs.Lines.{with_trail, plan_of_line, resolved}
use Rattle.line_laws.specs.Covered.{LineLooksAreCovered, LineEditsAreCovered, LineNodesAreHeld, LineChangesAreHeldAlone}
use Rattle.line_laws.proofs.Looked.{IsSectorOf, IsOnTrail, AreOnTrail}
use Rattle.line_laws.proofs.Comes.{line_same}
use Rattle.line_laws.proofs.Running.{step_plan, step_looks, run_performed, looks_performed}

-- ---- more locks

-- what a plan holds it holds behind a trail
trail_holds : (trail : List ℕ) (p : Plan) (l : LockId) → PlanHolds p l → PlanHolds (with_trail trail p) l
trail_holds trail Lacks l h = tt
trail_holds trail (Clears k locks) l h = (h.0, Contains-append_right (shared_nodes trail) locks (l, h.0) h.1)
trail_holds trail (Finishes f) l h = (h.0, Contains-append_right (shared_nodes trail) f.locks (l, h.0) h.1)

-- and the nodes of the trail too
trail_held : (trail : List ℕ) (p : Plan) (i : ℕ) → Contains trail i → PlanHolds (with_trail trail p) (lock.Node i)
trail_held trail Lacks i h = tt
trail_held trail (Clears k locks) i h = shared_held trail locks i h
trail_held trail (Finishes f) i h = shared_held trail f.locks i h

module _ (h : Hand) (s : Store) (birth when : ℕ) where
  step_holds : (trail : List ℕ) (step : Step) (i : ℕ) → Contains trail i → PlanHolds (step_plan h s birth when trail step) (lock.Node i)
  step_holds trail (Goes o) i c = trail_held trail (run (plan_of h birth when o) s) i c
  step_holds trail (Stops r) i c = only_held trail i c

  -- a step that is finished, by what it is
  pub by_finish : (P : Step → Finish → Type 0) (trail : List ℕ) →
      ((o : Op) (f : Finish) → run (plan_of h birth when o) s ≡ Finishes f → P (Goes o) (record f { locks = shared_nodes trail ++ f.locks })) →
      ((r : Reply) → P (Stops r) (record { reply = r; edits = []; locks = shared_nodes trail })) →
      (step : Step) (finish : Finish) → step_plan h s birth when trail step ≡ Finishes finish → P step finish
  by_finish P trail goes stops (Goes o) finish e = by_plan (run (plan_of h birth when o) s) refl e
    where
      by_plan : (p : Plan) → run (plan_of h birth when o) s ≡ p → with_trail trail p ≡ Finishes finish → P (Goes o) finish
      by_plan Lacks is e = absurd (cc)
      by_plan (Clears k locks) is e = absurd (cc)
      by_plan (Finishes f) is e = let z : record f { locks = shared_nodes trail ++ f.locks } ≡ finish = cc in subst (P (Goes o)) z (goes o f is)
  by_finish P trail goes stops (Stops r) finish e = let z : record { reply = r; edits = []; locks = shared_nodes trail } ≡ finish = cc in subst (P (Stops r)) z (stops r)

module _ (s : Store) (tree : FileTree) (n : Naming) (of : IsOfTree s tree n) where
  -- a sector of a node is under its lock
  cover_is : (b : ℕ) → is_some (node_at tree b) ≡ true → (sector : Sector) → IsSectorOf tree n b sector → cover_of n sector ≡ lock.Node (n.inode b)
  cover_is b there (InodeAt i) e = rw e (ap (inode_cover (n.inode b)) (of.pictures.numbered b there))
  cover_is b there (DirectoryAt k part) e = rw e.2 (ap (small_cover n (n.block b e.0)) (of.pictures.owned b e.0 e.1))
  cover_is b there (SegmentAt k) e = absurd e
  cover_is b there (BytesAt k part) e = absurd e
  cover_is b there (LargeAt g part) e = absurd e

  one_on_trail : (trail : List ℕ) (xs : List Sector) → AreOnTrail tree n trail xs → (x : Sector) → Contains xs x → IsOnTrail tree n trail x
  one_on_trail trail [] a x c = absurd (not_in_none x c)
  one_on_trail trail (y ∷ xs) a x c = ⊎_elim (λ e. subst (IsOnTrail tree n trail) e a.0) (λ i. one_on_trail trail xs a.1 x i) (has_cases y x xs c)

  module _ (h : Hand) (hand : IsHandOf h s tree.segments) (birth when : ℕ) where
    -- what the walks look at
    walk_covered : (o : Op) (x : Sector) → Contains (looks (resolved o) s) x → PlanHolds (step_plan h s birth when (map n.inode (tree_resolved tree o).trail) (tree_resolved tree o).step) (cover_of n x)
    walk_covered o x c =
        let w = tree_resolved tree o in
        let on = one_on_trail w.trail (looks (resolved o) s) (line_same s tree n of o).looked x c in
        subst (PlanHolds (step_plan h s birth when (map n.inode w.trail) w.step)) (sym (cover_is on.node on.there x on.of_node))
        (step_holds h s birth when (map n.inode w.trail) w.step (n.inode on.node) (map_has n.inode w.trail on.node on.on))

    -- what the plan looks at
    plan_covered : (trail : List ℕ) (step : Step) (x : Sector) → Contains (step_looks h s birth when step) x → PlanHolds (step_plan h s birth when trail step) (cover_of n x) ⊎ IsHeldSegment h x
    plan_covered trail (Goes o) x c = ⊎_elim (λ a. inl (trail_holds trail (run (plan_of h birth when o) s) (cover_of n x) a)) (λ b. inr b) (looks_are_covered o h s tree n birth when of hand x c)
    plan_covered trail (Stops r) x c = absurd (not_in_none x c)

    line_covered : (o : Op) (x : Sector) → Contains (looks (plan_of_line h birth when o) s) x → PlanHolds (run (plan_of_line h birth when o) s) (cover_of n x) ⊎ IsHeldSegment h x
    line_covered o x c =
        let w = tree_resolved tree o in
        subst (λ p. PlanHolds p (cover_of n x) ⊎ IsHeldSegment h x) (sym (run_performed h s birth when tree n of o))
        (⊎_elim (λ a. inl (walk_covered o x a)) (λ b. plan_covered (map n.inode w.trail) w.step x b)
        (either (looks (resolved o) s) (step_looks h s birth when w.step) x (subst (λ l. Contains l x) (looks_performed h s birth when tree n of o) c)))

pub line_looks_covered : LineLooksAreCovered
line_looks_covered o h s tree n birth when of hand x c = line_covered s tree n of h hand birth when o x c

pub line_edits_covered : LineEditsAreCovered
line_edits_covered o h s tree n birth when finish of hand is =
    let w = tree_resolved tree o in
    let trail = map n.inode w.trail in
    by_finish h s birth when (λ step finish. (edit : Edit) → Contains finish.edits edit → IsSole finish.locks (cover_of n (edited_at edit))) trail
    (λ o f is edit c. Contains-append_right (shared_nodes trail) f.locks _ (edits_are_covered o h s tree n birth when f of hand is edit c))
    (λ r edit c. absurd (not_in_none edit c))
    w.step finish (sym (run_performed h s birth when tree n of o) ∙ is)

pub line_nodes_held : LineNodesAreHeld
line_nodes_held o h s tree n birth when finish of hand is node c =
    let w = tree_resolved tree o in
    let trail = map n.inode w.trail in
    by_finish h s birth when (λ step finish. Contains (w.trail ++ visited tree step finish.reply) node → IsHeld finish.locks (lock.Node (n.inode node))) trail
    (λ o f is c. ⊎_elim (λ a. shared_held trail f.locks (n.inode node) (map_has n.inode w.trail node a)) (λ b. let r = walks_are_held o h s tree n birth when f of hand is node b in (r.0, Contains-append_right (shared_nodes trail) f.locks (lock.Node (n.inode node), r.0) r.1))
    (either w.trail (visited tree (Goes o) f.reply) node c))
    (λ r c. ⊎_elim (λ a. only_held trail (n.inode node) (map_has n.inode w.trail node a)) (λ b. absurd (not_in_none node b)) (either w.trail [] node c))
    w.step finish (sym (run_performed h s birth when tree n of o) ∙ is) c

-- ---- changes

-- where an operation changes file bytes, this is known
abbrev Known : Type 0 → Op → Type 0
Known H o = changes_bytes o ≡ true → H

known_shaped : (H : Type 0) (o : Op) → Known H o → Shaped (Known H) o
known_shaped H (op.Create path) f = λ p. f
known_shaped H (op.Mkdir path) f = λ p. f
known_shaped H (op.Symlink path target) f = λ p. f
known_shaped H (op.Link path to) f = λ p q. f
known_shaped H (op.Unlink path) f = λ p. f
known_shaped H (op.Rmdir path) f = λ p. f
known_shaped H (op.Rename path to) f = λ p q. f
known_shaped H (op.Write path off bytes) f = λ p. f
known_shaped H (op.Fill path off len byte) f = λ p. f
known_shaped H (op.Truncate path len) f = λ p. f
known_shaped H (op.Read path off len) f = λ p. f
known_shaped H (op.Stat path) f = λ p. f
known_shaped H (op.List path) f = λ p. f
known_shaped H (op.Readlink path) f = λ p. f
known_shaped H (op.Time path) f = λ p. f
known_shaped H op.Sync f = f
known_shaped H op.Mount f = f
known_shaped H op.Unmount f = f
known_shaped H op.Crash f = f
known_shaped H (op.CrashAt k) f = f
known_shaped H (op.CutAt k) f = f
known_shaped H op.Stall f = f

pub line_changes_alone : LineChangesAreHeldAlone
line_changes_alone o h s tree n birth when m finish of hand new files is node there differs =
    let w = tree_resolved tree o in
    let trail = map n.inode w.trail in
    let fit : Type 0 = HasFiles s tree m in
    by_finish h s birth when (λ step finish. IsOf (Known fit) step → node_at (perform_step tree step birth when m).tree node ≢ node_at tree node → IsSole finish.locks (lock.Node (n.inode node))) trail
    (λ o f is known differs. Contains-append_right (shared_nodes trail) f.locks _ (changed_held o h s tree n birth when m f of hand new known is node there differs))
    (λ r known differs. absurd (differs refl))
    w.step finish (sym (run_performed h s birth when tree n of o) ∙ is) (resolved_is (Known fit) tree o (known_shaped fit o files)) differs
