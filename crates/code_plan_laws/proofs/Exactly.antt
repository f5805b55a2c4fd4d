-- The code's plan needs, lacks and clears exactly where the definitions' does.
use Rattle.std.proofs.Common.{◌≡◌, ◌↔◌, ℕ, Bool, true, false, Option, Some, None, List, refl, sym, ap, subst}
use Rattle.std.specs.Option.{option_map}
use Rattle.frang_base.specs.declared.op.Op.{Op}
use Rattle.frang_base.specs.declared.sector.Sector.{Sector as CodeSector}
use Rattle.meta_version.specs.declared.plan.Plan.{Plan as CodePlan}
use Rattle.meta_version.specs.declared.plan.Plan.TheVariants as code
use Rattle.tree_definitions.specs.Tree.{FileTree}
use Rattle.disk_definitions.specs.Store.{Store, store_of}
use Rattle.disk_definitions.specs.Held.{Segments}
use Rattle.disk_definitions.specs.Picks.{picked_directory}
use Rattle.disk_definitions.specs.Ask.{Sector, Ask, looks, run, meet, number_of}
use Rattle.disk_definitions.specs.Plans.{Hand, Plan, Lock, Lacks, Clears, Finishes, must_clear}
use Rattle.disk_definitions.specs.PlanOf.{plan_of}
use Rattle.disk_definitions.specs.Meets.{IsHandOf}
use Rattle.disk_definitions.specs.Written.{hand_of, Cached, at_hand}
use Rattle.disk_definitions.specs.Missing.{first_missing, unless_missing}
use Rattle.plan_laws.proofs.Deciding.{meets_where}
use Rattle.plan_laws.proofs.AllInside.{all_inside}
use Rattle.dir_lookup.specs.Reading.{numbered}
use Rattle.dir_lookup.specs.Planned.{planned}
use Rattle.plan_laws.specs.Wants.{Wants, wants}
use Rattle.plan_laws.specs.Exact.{FindsNothing}
use Rattle.plan_laws.proofs.AllPlans.{lacks_exactly, clears_exactly}
use Rattle.line_laws.proofs.OfDisk.{of_tree, is_hand}
use Rattle.line_laws.proofs.Zeroed.{zero_places}
use Rattle.line_laws.proofs.AtHand.{agrees}
use Rattle.code_plan_laws.specs.CodeStands.{TakesBy, CodeIsExact, PlannedIsExact}

module _ (cached : Cached) (held : Segments) (all : Bool) (tree : FileTree) (o : Op) (q : Plan)
    (lacks : (q ≡ Lacks) ↔ ((all ≡ false) × (w : Wants) × (wants tree o ≡ Some w) × FindsNothing held w))
    (clears : (k : ℕ) → ((locks : List Lock) × (q ≡ Clears k locks)) ↔ ((w : Wants) × (wants tree o ≡ Some w) × (w.grows ≡ true) × (FindsNothing held w → ⊥) × (picked_directory held ≡ Some k) × (must_clear (hand_of cached held all) k ≡ true))) where
  abbrev of_code : Option Sector → CodePlan
  of_code missing = planned cached held (numbered (unless_missing missing q))

  needs : (missing : Option Sector) (s : CodeSector) → (of_code missing ≡ code.Need s) ↔ (option_map number_of missing ≡ Some s.0)
  needs (Some x) s = (λ e. let z : record { 0 = number_of x } ≡ s = cc in ap (λ (t : CodeSector). Some t.0) z, λ e. let z : number_of x ≡ s.0 = cc in ap (λ n. code.Need (record { 0 = n })) z)
  needs None s = (λ e. absurd (not_need q e), λ e. absurd (cc))
    where
      not_need : (p : Plan) → planned cached held (numbered (unless_missing None p)) ≡ code.Need s → ⊥
      not_need Lacks e = cc
      not_need (Clears k locks) e = cc
      not_need (Finishes f) e = cc

  is_lacks : (p : Plan) → planned cached held (numbered (unless_missing None p)) ≡ code.Segments → p ≡ Lacks
  is_lacks Lacks e = refl
  is_lacks (Clears k locks) e = absurd (cc)
  is_lacks (Finishes f) e = absurd (cc)

  segments : (missing : Option Sector) → (of_code missing ≡ code.Segments) ↔ TakesBy tree o missing (λ w. (all ≡ false) × FindsNothing held w)
  segments (Some x) = (λ e. absurd (cc), λ t. let z : Some x ≡ None = t.0 in absurd (cc))
  segments None = (
    λ e. let r = lacks.0 (is_lacks q e) in (refl, r.1, r.2, (r.0, r.3)),
    λ t. ap (λ (p : Plan). planned cached held (numbered (unless_missing None p))) (lacks.1 (t.3.0, t.1, t.2, t.3.1)),
  )

  is_clears : (p : Plan) (k : ℕ) → planned cached held (numbered (unless_missing None p)) ≡ code.Clear k → (locks : List Lock) × (p ≡ Clears k locks)
  is_clears Lacks k e = absurd (cc)
  is_clears (Clears j locks) k e = let z : j ≡ k = cc in (locks, ap (λ j. Clears j locks) z)
  is_clears (Finishes f) k e = absurd (cc)

  cleared : (missing : Option Sector) (k : ℕ) →
      (of_code missing ≡ code.Clear k) ↔ TakesBy tree o missing (λ w. (w.grows ≡ true) × (FindsNothing held w → ⊥) × (picked_directory held ≡ Some k) × (must_clear (hand_of cached held all) k ≡ true))
  cleared (Some x) k = (λ e. absurd (cc), λ t. let z : Some x ≡ None = t.0 in absurd (cc))
  cleared None k = (
    λ e. let r = (clears k).0 (is_clears q k e) in (refl, r.0, r.1, (r.2, r.3, r.4, r.5)),
    λ t. let r = (clears k).1 (t.1, t.2, t.3.0, t.3.1, t.3.2, t.3.3) in ap (λ (p : Plan). planned cached held (numbered (unless_missing None p))) r.1,
  )

  pub is_exact : (missing : Option Sector) → CodeIsExact cached held all tree o missing (of_code missing)
  is_exact missing = record { need = needs missing; segments = segments missing; clear = cleared missing }

pub planned_exact : PlannedIsExact
planned_exact o birth when cached held all disk tree of below =
    let s : Store = store_of tree.segments disk in
    let h : Hand = hand_of cached held all in
    let plan : Ask Plan = plan_of h birth when o in
    let hand : IsHandOf h s tree.segments = is_hand disk tree below cached held all of (λ k p e l. zero_places cached disk of.as_cached tree.segments k p e l) in
    let missing : Option Sector = first_missing (at_hand cached held) (looks plan s) in
    let e : meet plan (at_hand cached held) ≡ unless_missing missing (run plan s) =
    meets_where plan (at_hand cached held) s (agrees cached held tree.segments disk of.as_cached below.whole (looks plan s) (all_inside o h s tree below.stands.naming birth when (of_tree disk tree below) hand)) in
    subst (λ p. CodeIsExact cached held all tree o missing (planned cached held (numbered p))) (sym e)
    (is_exact cached held all tree o (run plan s)
    (lacks_exactly o h s tree below.stands.naming birth when (of_tree disk tree below))
    (clears_exactly o h s tree below.stands.naming birth when (of_tree disk tree below))
    missing)
