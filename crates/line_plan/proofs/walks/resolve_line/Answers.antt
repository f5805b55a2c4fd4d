-- By the walks of the operation.
use Rattle.std.proofs.Common.{◌≡◌, IfOk, sym, subst, ap}
use Rattle.dir_lookup.specs.Reading.{reading}
use Rattle.line_plan.specs.Lines.{line_as}
use Rattle.dir_lookup.specs.Looks.{looks_of}
use Rattle.dir_lookup.proofs.Looking.{adds_as}
use Rattle.namei.proofs.LinkLooks.{on_ok_then}
use Rattle.line_plan.proofs.walks.resolve_line.Goals as goal

pub returns-in-Nothing-clause-comes : goal.returns-in-Nothing-clause-comes
returns-in-Nothing-clause-comes c held =
    subst (λ w. IfOk c.as_it_stands.result (λ line. line_as line ≡ reading w c.args.sectors.now.entries held)) (sym c.in-Nothing.ensures) c.as_it_stands.ensures

pub returns-in-One-clause-comes : goal.returns-in-One-clause-comes
returns-in-One-clause-comes c held =
    subst (λ w. IfOk c.over_path.result (λ line. line_as line ≡ reading w c.args.sectors.now.entries held)) (sym c.in-One.ensures) (c.over_path.ensures.comes held)

pub returns-in-Two-clause-comes : goal.returns-in-Two-clause-comes
returns-in-Two-clause-comes c held =
    subst (λ w. IfOk c.over_paths.result (λ line. line_as line ≡ reading w c.args.sectors.now.entries held)) (sym c.in-Two.ensures) (c.over_paths.ensures.comes held)

pub returns-in-One-clause-looks : goal.returns-in-One-clause-looks
returns-in-One-clause-looks c held =
    on_ok_then c.over_path.result (c.over_path.ensures.looks held) (λ f. adds_as _ _ _ _ (ap (λ w. looks_of w c.args.sectors.now.entries held) (sym c.in-One.ensures)) f)

pub returns-in-Two-clause-looks : goal.returns-in-Two-clause-looks
returns-in-Two-clause-looks c held =
    on_ok_then c.over_paths.result (c.over_paths.ensures.looks held) (λ f. adds_as _ _ _ _ (ap (λ w. looks_of w c.args.sectors.now.entries held) (sym c.in-Two.ensures)) f)
