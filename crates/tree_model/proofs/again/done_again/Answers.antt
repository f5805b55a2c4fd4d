use Rattle.std.proofs.Common.{◌≡◌, true, false, sym, ◌∙◌, ap}
use Rattle.tree_definitions.specs.Apply.{apply}
use Rattle.tree_definitions.specs.History.{told_blocks, same_reply}
use Rattle.file_tree.specs.Replies.{gives}
use Rattle.tree_model.proofs.Answering.{done_again_is}
use Rattle.tree_model.proofs.again.done_again.Goals as goal

pub returns-then-not-same_reply : goal.returns-then-not-same_reply
returns-then-not-same_reply c =
    let tree = c.args.tree.now in
    let o = c.args.op.now in
    let n = c.args.number.0 in
    let answer = c.args.reply.now in
    let next = c.apply.new.self in
    let is : apply tree o n c.args.when (told_blocks tree answer) ≡ gives next c.in_ok-answer.answer
    = ap (λ t. apply t o n c.args.when (told_blocks tree answer)) (sym c.in_ok-next.ensures) ∙ ap (apply c.in_ok-next.next o n c.args.when) (sym c.told_blocks-m.ensures) ∙ c.in_ok-answer.ensures.ok in
    let same : same_reply c.in_ok-answer.answer answer ≡ false = cc in
    done_again_is (apply tree o n c.args.when (told_blocks tree answer)) next c.in_ok-answer.answer answer false is same

pub returns : goal.returns
returns c =
    let tree = c.args.tree.now in
    let o = c.args.op.now in
    let n = c.args.number.0 in
    let answer = c.args.reply.now in
    let next = c.apply.new.self in
    let is : apply tree o n c.args.when (told_blocks tree answer) ≡ gives next c.in_ok-answer.answer
    = ap (λ t. apply t o n c.args.when (told_blocks tree answer)) (sym c.in_ok-next.ensures) ∙ ap (apply c.in_ok-next.next o n c.args.when) (sym c.told_blocks-m.ensures) ∙ c.in_ok-answer.ensures.ok in
    let same : same_reply c.in_ok-answer.answer answer ≡ true = cc in
    done_again_is (apply tree o n c.args.when (told_blocks tree answer)) next c.in_ok-answer.answer answer true is same
