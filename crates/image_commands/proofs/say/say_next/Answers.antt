-- By the line that is next.
use Rattle.std.proofs.Common.{◌∙◌, ap, Ok}
use Rattle.image_commands.proofs.SayLaws.{ends_next, first_next}
use Rattle.image_commands.proofs.say.say_next.Goals as goal

pub returns-in-Ok-Some-clause-outcome : goal.returns-in-Ok-Some-clause-outcome
returns-in-Ok-Some-clause-outcome g c =
    first_next (g.O.Outside.state c.args.out.now) (g.O.Outside.state c.say_first.new.out) c.args.count c.next.result c.in-Ok-Some.line c.args.lines.now c.next.new.self c.say_first.result
    (c.in-Ok-Some.is ∙ ap Ok c.in-Ok-Some.field-0-is) c.next.ensures.ok (c.say_first.ensures.outcome c.next.new.self)

pub returns-in-Ok-None-clause-outcome : goal.returns-in-Ok-None-clause-outcome
returns-in-Ok-None-clause-outcome g c =
    ends_next (g.O.Outside.state c.args.out.now) (g.O.Outside.state c.say_end.new.out) c.args.count c.next.result c.args.lines.now c.next.new.self c.say_end.result
    (c.in-Ok-None.is ∙ ap Ok c.in-Ok-None.field-0-is) c.next.ensures.ok c.say_end.ensures.outcome
