-- The tree after the operation, if it is answered as before.
use Rattle.std.proofs.Common.{◌∙◌, sym}
use Rattle.tree_definitions.specs.Apply.{apply}
use Rattle.tree_definitions.specs.History.{agrees, told_blocks}
use Rattle.tree_model.proofs.Redoing.{next_left, none_left}
use Rattle.tree_model.proofs.replay.redo.Goals as goal

pub returns-in-Some : goal.returns-in-Some
returns-in-Some c =
    let a = apply c.args.tree.now c.args.op.now c.args.number.0 c.args.when (told_blocks c.args.tree.now c.args.reply.now) in
    record { ok = next_left (agrees a.answer c.args.reply.now) a.tree c.in-Some.next c.args.tree.now (sym c.in-Some.is ∙ c.in_ok-next.ensures) }

pub returns-in_default : goal.returns-in_default
returns-in_default c =
    let a = apply c.args.tree.now c.args.op.now c.args.number.0 c.args.when (told_blocks c.args.tree.now c.args.reply.now) in
    record { ok = none_left (agrees a.answer c.args.reply.now) a.tree c.args.tree.now (sym c.in_default.is ∙ c.in_ok-next.ensures) }
