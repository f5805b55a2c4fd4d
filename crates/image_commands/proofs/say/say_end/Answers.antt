-- By whether the end was said.
use Rattle.std.proofs.Common.{[], sym, subst, refl}
use Rattle.std.specs.Prelude.{Some}
use Rattle.frang_base.specs.declared.said.Said.TheVariants as said
use Rattle.image_commands.specs.Saying.{said_act}
use Rattle.image_commands.specs.Steps.{SaysNext}
use Rattle.image_commands.proofs.SayLaws.{next_stopped}
use Rattle.image_commands.proofs.say.say_end.Goals as goal

pub returns-in-Ok-clause-outcome : goal.returns-in-Ok-clause-outcome
returns-in-Ok-clause-outcome g c = (refl, c.in-Ok.ensures.outcome)

pub returns-clause-outcome : goal.returns-clause-outcome
returns-clause-outcome g c =
    subst (λ e. SaysNext (g.O.Outside.state c.args.out.now) (g.O.Outside.state c.say_one.new.out) c.args.count [] [] (Some e)) (sym c.stopped_by.ensures)
    (next_stopped (g.O.Outside.state c.args.out.now) (g.O.Outside.state c.say_one.new.out) (said_act said.End) c.args.count [] [] c.in-Err.fault c.in-Err.ensures.outcome)
