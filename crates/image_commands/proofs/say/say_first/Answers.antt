-- By whether the line was said.
use Rattle.std.proofs.Common.{◌∷◌, sym, subst, refl}
use Rattle.std.specs.Prelude.{Some}
use Rattle.image_commands.specs.Saying.{said_act}
use Rattle.image_commands.specs.Steps.{SaysNext}
use Rattle.image_commands.proofs.SayLaws.{next_stopped}
use Rattle.image_commands.proofs.say.say_first.Goals as goal

pub returns-in-Ok-clause-outcome : goal.returns-in-Ok-clause-outcome
returns-in-Ok-clause-outcome g c = λ rest. (c.args.line.now, refl, c.in-Ok.ensures.outcome)

pub returns-in-Err-clause-outcome : goal.returns-in-Err-clause-outcome
returns-in-Err-clause-outcome g c = λ rest.
    subst (λ e. SaysNext (g.O.Outside.state c.args.out.now) (g.O.Outside.state c.say_one.new.out) c.args.count (c.args.line.now ∷ rest) rest (Some e)) (sym c.stopped_by.ensures)
    (next_stopped (g.O.Outside.state c.args.out.now) (g.O.Outside.state c.say_one.new.out) (said_act c.args.line.now) c.args.count (c.args.line.now ∷ rest) rest c.in-Err.fault c.in-Err.ensures.outcome)
