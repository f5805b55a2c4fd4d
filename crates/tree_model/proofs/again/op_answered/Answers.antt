use Rattle.std.proofs.Common.{◌≡◌, IfOk, sym, subst, ◌∙◌, ap}
use Rattle.frang_base.specs.declared.op.Op.{Op}
use Rattle.frang_base.specs.declared.op.Op.TheVariants as op
use Rattle.tree_definitions.specs.Apply.{apply}
use Rattle.tree_definitions.specs.History.{told_blocks}
use Rattle.tree_model.specs.Replayed.{done_by}
use Rattle.tree_model.proofs.again.op_answered.Goals as goal

pub returns-in-Read : goal.returns-in-Read
returns-in-Read c =
    let tree = c.args.tree.now in
    let number = c.args.number.0 in
    let answer = c.args.reply.now in
    let is : c.args.op.now ≡ op.Read c.as_slice.result.now c.in-Read.off c.in-Read.len = c.in-Read.is ∙ ap (λ p. op.Read p c.in-Read.off c.in-Read.len) (sym c.as_slice.ensures) in
    subst (λ (o : Op). IfOk c.read_answered.result (λ next. next ≡ done_by (apply tree o number c.args.when (told_blocks tree answer)) answer)) (sym is)
    (c.read_answered.ensures number c.args.when (told_blocks tree answer))
