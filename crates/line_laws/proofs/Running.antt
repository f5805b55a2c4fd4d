-- The plan of a line: what its walks come to, and then the plan of that.
use Rattle.std.proofs.Common.{◌≡◌, ℕ, List, [], ◌++◌, map, refl, ◌∙◌, ap}
use Rattle.std.proofs.lemmas.List.{append-nil}
use Rattle.frang_base.specs.declared.op.Op.{Op}
use Rattle.tree_definitions.specs.Tree.{FileTree}
use Rattle.tree_definitions.specs.Perform.{Step, Goes, Stops, Resolved}
use Rattle.tree_definitions.specs.Perform as performs
use Rattle.disk_definitions.specs.Store.{Store}
use Rattle.disk_definitions.specs.Naming.{Naming}
use Rattle.disk_definitions.specs.Ask.{Sector, Got, run, looks}
use Rattle.disk_definitions.specs.Plans.{Hand, Plan, refuse}
use Rattle.disk_definitions.specs.PlanOf.{plan_of}
use Rattle.disk_definitions.specs.Meets.{IsOfTree}
use Rattle.plan_laws.proofs.Asking.{run-bind, looks-bind}
use Rattle.disk_definitions.specs.Lines.{resolved, with_trail, plan_step, plan_of_line}
use Rattle.line_laws.proofs.Comes.{comes_to}

module _ (h : Hand) (s : Store) (birth when : ℕ) where
  -- what a step is planned to do, behind a trail, and what is looked at for it
  abbrev pub step_plan : List ℕ → Step → Plan
  step_plan trail (Goes o) = with_trail trail (run (plan_of h birth when o) s)
  step_plan trail (Stops r) = refuse r trail

  abbrev pub step_looks : Step → List Sector
  step_looks (Goes o) = looks (plan_of h birth when o) s
  step_looks (Stops r) = []

  run_step : (trail : List ℕ) (step : Step) → run (plan_step h birth when trail step) s ≡ step_plan trail step
  run_step trail (Goes o) = run-bind (plan_of h birth when o) (λ plan. Got (with_trail trail plan)) s
  run_step trail (Stops r) = refl

  looks_step : (trail : List ℕ) (step : Step) → looks (plan_step h birth when trail step) s ≡ step_looks step
  looks_step trail (Goes o) = looks-bind (plan_of h birth when o) (λ plan. Got (with_trail trail plan)) s ∙ append-nil (looks (plan_of h birth when o) s)
  looks_step trail (Stops r) = refl

  pub run_line : (o : Op) → run (plan_of_line h birth when o) s ≡ step_plan (run (resolved o) s).trail (run (resolved o) s).step
  run_line o = let w = run (resolved o) s in run-bind (resolved o) (λ w. plan_step h birth when w.trail w.step) s ∙ run_step w.trail w.step

  pub looks_line : (o : Op) → looks (plan_of_line h birth when o) s ≡ looks (resolved o) s ++ step_looks (run (resolved o) s).step
  looks_line o =
      let w = run (resolved o) s in
      looks-bind (resolved o) (λ w. plan_step h birth when w.trail w.step) s ∙ ap (λ l. looks (resolved o) s ++ l) (looks_step w.trail w.step)

  -- over the disk of a tree by what the tree has
  module _ (tree : FileTree) (n : Naming) (of : IsOfTree s tree n) (o : Op) where
    pub run_performed : run (plan_of_line h birth when o) s ≡ step_plan (map n.inode (performs.resolved tree o).trail) (performs.resolved tree o).step
    run_performed = run_line o ∙ ap (λ (w : Resolved). step_plan w.trail w.step) (comes_to o s tree n of)

    pub looks_performed : looks (plan_of_line h birth when o) s ≡ looks (resolved o) s ++ step_looks (performs.resolved tree o).step
    looks_performed = looks_line o ∙ ap (λ (w : Resolved). looks (resolved o) s ++ step_looks w.step) (comes_to o s tree n of)
