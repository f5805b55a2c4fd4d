-- A line needs, lacks and has cleared exactly where the tree and what is at hand ask for it.
use Rattle.std.proofs.Common.{◌≡◌, ◌↔◌, ℕ, Bool, true, false, Option, Some, None, List, ◌++◌, map, Result, Ok, Err, IfOk, refl, sym, ap, ◌∙◌, subst}
use Rattle.std.specs.Option.{option_map}
use Rattle.frang_base.specs.declared.fault.NoMemory.{NoMemory}
use Rattle.frang_base.specs.declared.op.Op.{Op}
use Rattle.frang_base.specs.declared.op.Op.TheVariants as op
use Rattle.frang_base.specs.declared.sector.Sector.{Sector as CodeSector}
use Rattle.tree_definitions.specs.Perform.{Step, Goes, Stops, resolved}
use Rattle.tree_definitions.specs.Tree.{FileTree}
use Rattle.disk_definitions.specs.Ask.{Ask, Met, Sector, looks, meet, number_of, run}
use Rattle.disk_definitions.specs.Held.{Segments}
use Rattle.disk_definitions.specs.Lines.{plan_of_line, with_trail}
use Rattle.disk_definitions.specs.Meets.{IsHandOf, IsOfTree}
use Rattle.disk_definitions.specs.Missing.{first_missing, unless_missing}
use Rattle.disk_definitions.specs.Naming.{Naming}
use Rattle.disk_definitions.specs.Picks.{picked_directory}
use Rattle.disk_definitions.specs.PlanOf.{plan_of}
use Rattle.disk_definitions.specs.Plans.{Clears, Finishes, Hand, Lacks, Lock, Plan, must_clear, shared_nodes}
use Rattle.disk_definitions.specs.Store.{Store, store_of}
use Rattle.disk_definitions.specs.Written.{Cached, at_hand, hand_of}
use Rattle.dir_lookup.specs.Reading.{numbered, reading}
use Rattle.plan_laws.proofs.AllPlans.{clears_exactly, lacks_exactly}
use Rattle.plan_laws.proofs.Deciding.{meets_where}
use Rattle.plan_laws.specs.Exact.{FindsNothing}
use Rattle.plan_laws.specs.Wants.{Wants}
use Rattle.line_laws.proofs.AtHand.{agrees}
use Rattle.line_laws.proofs.Edited.{hand}
use Rattle.line_laws.proofs.Inside.{lines_inside}
use Rattle.line_laws.proofs.OfDisk.{of_tree}
use Rattle.line_laws.proofs.Running.{run_performed, step_plan}
use Rattle.line_plan.specs.declared.ending.LineEnd.{LineEnd}
use Rattle.line_plan.specs.declared.ending.LineEnd.TheVariants as ends
use Rattle.line_plan.specs.Disks.{EndIsExact, LineIsExact, Takes, line_wants, step_wants}
use Rattle.line_plan.specs.Ends.{Comes, Ends}

-- ---- over the disk of a tree

-- the plan lacks segments, by what is wanted
abbrev pub LacksBy : Hand → Option Wants → Plan → Type 0
LacksBy h wanted p = (p ≡ Lacks) ↔ ((h.all ≡ false) × (w : Wants) × (wanted ≡ Some w) × FindsNothing h.held w)

-- the plan has a block cleared, by what is wanted
abbrev pub ClearsBy : Hand → Option Wants → Plan → Type 0
ClearsBy h wanted p =
    (k : ℕ) → ((locks : List Lock) × (p ≡ Clears k locks))
    ↔ ((w : Wants) × (wanted ≡ Some w) × (w.grows ≡ true) × (FindsNothing h.held w → ⊥) × (picked_directory h.held ≡ Some k) × (must_clear h k ≡ true))

lacks_behind : (trail : List ℕ) (p : Plan) → with_trail trail p ≡ Lacks → p ≡ Lacks
lacks_behind trail Lacks e = refl
lacks_behind trail (Clears k locks) e = absurd (cc)
lacks_behind trail (Finishes f) e = absurd (cc)

clears_behind : (trail : List ℕ) (p : Plan) (k : ℕ) (locks : List Lock) → with_trail trail p ≡ Clears k locks → (own : List Lock) × (p ≡ Clears k own)
clears_behind trail Lacks k locks e = absurd (cc)
clears_behind trail (Clears j own) k locks e = let z : j ≡ k = cc in (own, ap (λ j. Clears j own) z)
clears_behind trail (Finishes f) k locks e = absurd (cc)

module _ (h : Hand) (s : Store) (tree : FileTree) (n : Naming) (birth when : ℕ) (of : IsOfTree s tree n) where
  step_lacks : (trail : List ℕ) (step : Step) → LacksBy h (step_wants tree step) (step_plan h s birth when trail step)
  step_lacks trail (Goes o) =
      let law = lacks_exactly o h s tree n birth when of in
      (λ e. law.0 (lacks_behind trail (run (plan_of h birth when o) s) e), λ t. ap (with_trail trail) (law.1 t))
  step_lacks trail (Stops r) = (λ e. absurd (cc), λ t. absurd (let z = t.2 in cc))

  step_clears : (trail : List ℕ) (step : Step) → ClearsBy h (step_wants tree step) (step_plan h s birth when trail step)
  step_clears trail (Goes o) k =
      let law = clears_exactly o h s tree n birth when of k in (
        λ e. law.0 (clears_behind trail (run (plan_of h birth when o) s) k e.0 e.1),
        λ t. let c = law.1 t in (shared_nodes trail ++ c.0, ap (with_trail trail) c.1),
      )
  step_clears trail (Stops r) k = (λ e. absurd (let z = e.1 in cc), λ t. absurd (let z = t.1 in cc))

  module _ (o : Op) where
    pub line_lacks : LacksBy h (line_wants tree o) (run (plan_of_line h birth when o) s)
    line_lacks = subst (LacksBy h (line_wants tree o)) (sym (run_performed h s birth when tree n of o)) (step_lacks (map n.inode (resolved tree o).trail) (resolved tree o).step)

    pub line_clears : ClearsBy h (line_wants tree o) (run (plan_of_line h birth when o) s)
    line_clears = subst (ClearsBy h (line_wants tree o)) (sym (run_performed h s birth when tree n of o)) (step_clears (map n.inode (resolved tree o).trail) (resolved tree o).step)

-- ---- how it ends in code

module _ (cached : Cached) (held : Segments) (all : Bool) (tree : FileTree) (o : Op) (q : Plan)
    (lacks : LacksBy (hand_of cached held all) (line_wants tree o) q) (clears : ClearsBy (hand_of cached held all) (line_wants tree o) q) where
  abbrev of_code : Option Sector → LineEnd → Type 0
  of_code missing end = Ends (numbered (unless_missing missing q)) end

  needs : (missing : Option Sector) (end : LineEnd) → of_code missing end → (t : CodeSector) → (end ≡ ends.Need t) ↔ (option_map number_of missing ≡ Some t.0)
  needs (Some x) (ends.Need s) e t = (
    λ f. let z : s ≡ t = cc in (let y : number_of x ≡ s.0 = cc in ap (λ (n : ℕ). Some n) (y ∙ ap (λ (u : CodeSector). u.0) z)),
    λ f. let z : s.0 ≡ t.0 = cc in ap (λ n. ends.Need (record { 0 = n })) z,
  )
  needs (Some x) ends.Segments e t = absurd (cc)
  needs (Some x) (ends.Clear k over) e t = absurd (let z = e.1 in cc)
  needs (Some x) (ends.Done outcome) e t = absurd (let z = e.1 in cc)
  needs None (ends.Need s) e t = absurd (cc)
  needs None ends.Segments e t = (λ f. absurd (cc), λ f. absurd (cc))
  needs None (ends.Clear k over) e t = (λ f. absurd (cc), λ f. absurd (cc))
  needs None (ends.Done outcome) e t = (λ f. absurd (cc), λ f. absurd (cc))

  segments : (missing : Option Sector) (end : LineEnd) → of_code missing end → (end ≡ ends.Segments) ↔ Takes tree o missing (λ w. (all ≡ false) × FindsNothing held w)
  segments (Some x) (ends.Need s) e = (λ f. absurd (cc), λ t. absurd (let z = t.0 in cc))
  segments (Some x) ends.Segments e = absurd (cc)
  segments (Some x) (ends.Clear k over) e = absurd (let z = e.1 in cc)
  segments (Some x) (ends.Done outcome) e = absurd (let z = e.1 in cc)
  segments None (ends.Need s) e = absurd (cc)
  segments None ends.Segments e = (λ f. let r = lacks.0 (let z : q ≡ Lacks = cc in z) in (refl, r.1, r.2, (r.0, r.3)), λ t. refl)
  segments None (ends.Clear k over) e = (λ f. absurd (cc), λ t. absurd (let z = e.1 in (let y : q ≡ Lacks = lacks.1 (t.3.0, t.1, t.2, t.3.1) in cc)))
  segments None (ends.Done outcome) e = (λ f. absurd (cc), λ t. absurd (let z = e.1 in (let y : q ≡ Lacks = lacks.1 (t.3.0, t.1, t.2, t.3.1) in cc)))

  abbrev TakesClear : Option Sector → ℕ → Type 0
  TakesClear missing k = Takes tree o missing (λ w. (w.grows ≡ true) × (FindsNothing held w → ⊥) × (picked_directory held ≡ Some k) × (must_clear (hand_of cached held all) k ≡ true))

  cleared : (missing : Option Sector) (end : LineEnd) → of_code missing end → (k : ℕ) → ((over : Op) × (end ≡ ends.Clear k over)) ↔ TakesClear missing k
  cleared (Some x) (ends.Need s) e k = (λ f. absurd (let z = f.1 in cc), λ t. absurd (let z = t.0 in cc))
  cleared (Some x) ends.Segments e k = absurd (cc)
  cleared (Some x) (ends.Clear j over) e k = absurd (let z = e.1 in cc)
  cleared (Some x) (ends.Done outcome) e k = absurd (let z = e.1 in cc)
  cleared None (ends.Need s) e k = absurd (cc)
  cleared None ends.Segments e k = (
    λ f. absurd (let z = f.1 in cc),
    λ t. absurd (let r = (clears k).1 (t.1, t.2, t.3.0, t.3.1, t.3.2, t.3.3) in (let y = r.1 in cc)),
  )
  cleared None (ends.Clear j over) e k = (
    λ f. let z = f.1 in (let y = e.1 in (let p : q ≡ Clears k e.0 = cc in (let r = (clears k).0 (e.0, p) in (refl, r.0, r.1, (r.2, r.3, r.4, r.5))))),
    λ t. let r = (clears k).1 (t.1, t.2, t.3.0, t.3.1, t.3.2, t.3.3) in (let y = e.1 in (let x = r.1 in (let z : j ≡ k = cc in (over, ap (λ j. ends.Clear j over) z)))),
  )
  cleared None (ends.Done outcome) e k = (
    λ f. absurd (let z = f.1 in cc),
    λ t. absurd (let r = (clears k).1 (t.1, t.2, t.3.0, t.3.1, t.3.2, t.3.3) in (let y = r.1 in (let z = e.1 in cc))),
  )

  pub is_exact : (missing : Option Sector) (end : LineEnd) → of_code missing end → EndIsExact cached held all tree o missing end
  is_exact missing end e = record { need = needs missing end e; segments = segments missing end e; clear = cleared missing end e }

module _ (o : Op) (birth when : ℕ) (cached : Cached) (held : Segments) (all : Bool) where
  pub exact_if : (r : Result LineEnd NoMemory) → Comes (reading (plan_of_line (hand_of cached held all) birth when o) cached held) r → IfOk r (LineIsExact o birth when cached held all)
  exact_if (Ok end) e =
      λ disk tree of below.
      let s : Store = store_of tree.segments disk in
      let h : Hand = hand_of cached held all in
      let line : Ask Plan = plan_of_line h birth when o in
      let n : Naming = below.stands.naming in
      let is_of : IsOfTree s tree n = of_tree disk tree below in
      let at : IsHandOf h s tree.segments = hand op.Sync cached held all disk tree birth when of below in
      let missing : Option Sector = first_missing (at_hand cached held) (looks line s) in
      let met : meet line (at_hand cached held) ≡ unless_missing missing (run line s) =
      meets_where line (at_hand cached held) s (agrees cached held tree.segments disk of.as_cached below.whole (looks line s) (lines_inside o h s tree n birth when is_of at)) in
      is_exact cached held all tree o (run line s) (line_lacks h s tree n birth when is_of o) (line_clears h s tree n birth when is_of o) missing end
      (subst (λ (m : Met Plan). Ends (numbered m) end) met e)
  exact_if (Err fault) e = tt
