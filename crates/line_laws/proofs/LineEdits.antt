-- Each edit of a finished line of a sector with a version is of a sector that the line looked at.
use Rattle.std.proofs.Common.{◌≡◌, ℕ, true, sym, ◌∙◌, subst}
use Rattle.std.proofs.lemmas.List.Elements.{Contains-append_right}
use Rattle.std.specs.List.{Contains}
use Rattle.frang_base.specs.declared.op.Op.{Op}
use Rattle.disk_definitions.specs.Store.{Store}
use Rattle.disk_definitions.specs.Edits.{Edit}
use Rattle.disk_definitions.specs.Ask.{run, looks}
use Rattle.disk_definitions.specs.Plans.{Hand, Finish, Finishes}
use Rattle.disk_definitions.specs.Written.{is_metadata}
use Rattle.disk_definitions.specs.Lines.{resolved, plan_of_line}
use Rattle.plan_laws.proofs.Covering.{not_in_none}
use Rattle.plan_laws.specs.Looked.{edited_at}
use Rattle.plan_laws.proofs.AllLooked.{edits_are_looked_at}
use Rattle.line_laws.proofs.Running.{step_looks, run_line, looks_line}
use Rattle.line_laws.proofs.Covered.{by_finish}

pub lines_look_at_edits : (o : Op) (h : Hand) (s : Store) (birth when : ℕ) (f : Finish) → run (plan_of_line h birth when o) s ≡ Finishes f →
    (edit : Edit) → Contains f.edits edit → is_metadata edit ≡ true → Contains (looks (plan_of_line h birth when o) s) (edited_at edit)
lines_look_at_edits o h s birth when f e edit c m =
    let w = run (resolved o) s in
    let seen : Contains (step_looks h s birth when w.step) (edited_at edit) =
    by_finish h s birth when (λ step f. (edit : Edit) → Contains f.edits edit → is_metadata edit ≡ true → Contains (step_looks h s birth when step) (edited_at edit)) w.trail
    (λ o f is edit c m. edits_are_looked_at o h s birth when f is edit c m)
    (λ r edit c m. absurd (not_in_none edit c))
    w.step f (sym (run_line h s birth when o) ∙ e) edit c m in
    subst (λ l. Contains l (edited_at edit)) (sym (looks_line h s birth when o)) (Contains-append_right (looks (resolved o) s) (step_looks h s birth when w.step) (edited_at edit) seen)
