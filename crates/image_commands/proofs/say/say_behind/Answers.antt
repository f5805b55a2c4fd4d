-- What is said first, and then the lines that are left; or the first of them.
use Rattle.std.proofs.Common.{◌∷◌, ◌++◌, [], append_assoc, subst, sym}
use Rattle.frang_base.specs.declared.said.Said.TheVariants as said
use Rattle.image_commands.specs.Saying.{SaysAll}
use Rattle.image_commands.proofs.SayLaws.{says_later, unfinished}
use Rattle.image_commands.proofs.say.say_behind.Goals as goal

pub returns-in-Done : goal.returns-in-Done
returns-in-Done g c =
    says_later (g.O.Outside.state c.args.out.now) (g.O.Outside.state c.say_all-said.new.out) (g.O.Outside.state c.say_left.new.out) (c.args.before.now ++ c.args.lines.now ++ said.End ∷ []) c.say_left.result
    c.say_all-said.ensures.counts c.say_left.ensures

pub returns-in_default : goal.returns-in_default
returns-in_default g c =
    subst (λ ls. SaysAll (g.O.Outside.state c.args.out.now) (g.O.Outside.state c.say_all-said.new.out) ls c.say_all-said.result) (sym (append_assoc c.args.before.now c.args.lines.now (said.End ∷ [])))
    (unfinished (g.O.Outside.state c.args.out.now) (g.O.Outside.state c.say_all-said.new.out) c.args.before.now (c.args.lines.now ++ said.End ∷ []) c.say_all-said.result
    c.in_default.not-Done c.say_all-said.ensures.says)
