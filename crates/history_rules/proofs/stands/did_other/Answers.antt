-- The operation is done in the tree, and its answer is the reply that was given, or not.
use Rattle.std.proofs.Common.{◌≡◌, sym, ◌∙◌, ap}
use Rattle.tree_definitions.specs.Apply.{apply}
use Rattle.tree_definitions.specs.History.{told_blocks}
use Rattle.file_tree.specs.Replies.{gives}
use Rattle.history_rules.proofs.Standing.{did_agrees, did_tree}
use Rattle.history_rules.proofs.stands.did_other.Goals as goal

pub returns-clause-is : goal.returns-clause-is
returns-clause-is c =
    let a = apply c.args.tree.now c.args.op.now c.args.number.0 c.args.when (told_blocks c.args.tree.now c.args.reply.now) in
    let is : a ≡ gives c.apply.new.self c.in_ok-answer.answer
    = ap (apply c.args.tree.now c.args.op.now c.args.number.0 c.args.when) (sym c.told_blocks-m.ensures) ∙ c.in_ok-answer.ensures.ok in
    c.same_reply.ensures ∙ did_agrees a c.apply.new.self c.in_ok-answer.answer c.args.reply.now is

pub returns-clause-tree : goal.returns-clause-tree
returns-clause-tree c =
    let a = apply c.args.tree.now c.args.op.now c.args.number.0 c.args.when (told_blocks c.args.tree.now c.args.reply.now) in
    let is : a ≡ gives c.apply.new.self c.in_ok-answer.answer
    = ap (apply c.args.tree.now c.args.op.now c.args.number.0 c.args.when) (sym c.told_blocks-m.ensures) ∙ c.in_ok-answer.ensures.ok in
    did_tree a c.apply.new.self c.args.tree.now c.in_ok-answer.answer c.args.reply.now c.same_reply.result is c.same_reply.ensures
