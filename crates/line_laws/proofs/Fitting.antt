-- The edits of a finished line are fit, over whatever store of a tree.
use Rattle.std.proofs.Common.{◌≡◌, ◌<◌, ◌^◌, inl, ℕ, List, [], map, sym, ◌∙◌, subst}
use Rattle.frang_base.specs.declared.op.Op.{Op}
use Rattle.frang_base.specs.declared.op.Op.TheVariants as op
use Rattle.frang_base.specs.declared.reply.Reply.TheVariants as reply
use Rattle.tree_definitions.specs.Perform.{Resolved, resolved}
use Rattle.tree_definitions.specs.Tree.{FileTree}
use Rattle.disk_definitions.specs.Store.{Store}
use Rattle.disk_definitions.specs.Naming.{Naming}
use Rattle.disk_definitions.specs.Allowed.{IsAllowed}
use Rattle.disk_definitions.specs.Ask.{run}
use Rattle.disk_definitions.specs.FitPlans.{IsFitStore, IsFitFinish, PlanIsFit, HasFitPlan}
use Rattle.disk_definitions.specs.Meets.{IsOfTree, IsHandOf}
use Rattle.disk_definitions.specs.PlanOf.{plan_of}
use Rattle.disk_definitions.specs.Plans.{Hand, Finish}
use Rattle.disk_definitions.specs.Plans.Plan.{Finishes}
use Rattle.plan_fit.proofs.Refusing.{refuse_fits}
use Rattle.line_laws.proofs.Operations.{all_fit}
use Rattle.disk_definitions.specs.Lines.{plan_of_line}
use Rattle.line_laws.specs.Planned.{StepIsAllowed}
use Rattle.line_laws.proofs.Allowed.{stay_allowed}
use Rattle.line_laws.proofs.Comes.{comes_to}
use Rattle.line_laws.proofs.Covered.{by_finish}
use Rattle.line_laws.proofs.Running.{run_performed}

-- of every operation over paths without links: one without a path changes nothing
each_fit : (o : Op) → HasFitPlan o
each_fit (op.Create path) = all_fit (op.Create path) tt
each_fit (op.Mkdir path) = all_fit (op.Mkdir path) tt
each_fit (op.Symlink path target) = all_fit (op.Symlink path target) tt
each_fit (op.Link path to) = all_fit (op.Link path to) tt
each_fit (op.Unlink path) = all_fit (op.Unlink path) tt
each_fit (op.Rmdir path) = all_fit (op.Rmdir path) tt
each_fit (op.Rename path to) = all_fit (op.Rename path to) tt
each_fit (op.Write path off bytes) = all_fit (op.Write path off bytes) tt
each_fit (op.Fill path off len byte) = all_fit (op.Fill path off len byte) tt
each_fit (op.Truncate path len) = all_fit (op.Truncate path len) tt
each_fit (op.Read path off len) = all_fit (op.Read path off len) tt
each_fit (op.Stat path) = all_fit (op.Stat path) tt
each_fit (op.List path) = all_fit (op.List path) tt
each_fit (op.Readlink path) = all_fit (op.Readlink path) tt
each_fit (op.Time path) = all_fit (op.Time path) tt
each_fit _ = λ h s tree n birth when of at fit small timely may. refuse_fits h tree.segments s reply.Ok []

module _ (h : Hand) (s : Store) (tree : FileTree) (n : Naming) (birth when : ℕ) (of : IsOfTree s tree n) (at : IsHandOf h s tree.segments) (fit : IsFitStore tree.segments s) (small : birth < 2 ^ 64) (timely : when < 2 ^ 64) where
  plan_fits : (o : Op) (f : Finish) → run (plan_of h birth when o) s ≡ Finishes f → IsAllowed o → IsFitFinish h tree.segments s f
  plan_fits o f is may = subst (PlanIsFit h tree.segments s) is (each_fit o h s tree n birth when of at fit small timely may)

  pub line_fits : (o : Op) (f : Finish) → IsAllowed o → run (plan_of_line h birth when o) s ≡ Finishes f → IsFitFinish h tree.segments s f
  line_fits o f allowed is =
      let w = resolved tree o in
      by_finish h s birth when (λ step finish. StepIsAllowed step → IsFitFinish h tree.segments s finish) (map n.inode w.trail)
      (λ p g runs may. let r = plan_fits p g runs may in record { edits = r.edits; clear = r.clear })
      (λ r may. record { edits = tt; clear = λ k m. inl m })
      w.step f (sym (run_performed h s birth when tree n of o) ∙ is)
      (subst (λ (w : Resolved). StepIsAllowed w.step) (comes_to o s tree n of) (stay_allowed o s allowed))
