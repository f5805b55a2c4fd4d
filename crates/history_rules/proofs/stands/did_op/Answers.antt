-- A read is read again.
use Rattle.std.proofs.Common.{◌≡◌, IfOk, sym, subst, ◌∙◌, ap}
use Rattle.frang_base.specs.declared.op.Op.{Op}
use Rattle.frang_base.specs.declared.op.Op.TheVariants as op
use Rattle.tree_definitions.specs.Apply.{apply}
use Rattle.tree_definitions.specs.History.{agrees, told_blocks}
use Rattle.history_rules.proofs.stands.did_op.Goals as goal

pub returns-in-Read-clause-is : goal.returns-in-Read-clause-is
returns-in-Read-clause-is c =
    let tree = c.args.tree.now in
    let r = c.args.reply.now in
    let is : c.args.op.now ≡ op.Read c.as_slice.result.now c.in-Read.off c.in-Read.len = c.in-Read.is ∙ ap (λ p. op.Read p c.in-Read.off c.in-Read.len) (sym c.as_slice.ensures) in
    subst (λ (o : Op). IfOk c.did_read.result (λ it. it ≡ agrees (apply tree o c.args.number.0 c.args.when (told_blocks tree r)).answer r)) (sym is)
    (c.did_read.ensures.is c.args.number.0 c.args.when (told_blocks tree r))
