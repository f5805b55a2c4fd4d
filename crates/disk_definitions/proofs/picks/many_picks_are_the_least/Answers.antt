-- By induction on how many.
use Rattle.disk_definitions.proofs.ManyLaws.{picks_the_least, where_there_are_enough, one_after_another}
use Rattle.disk_definitions.proofs.picks.many_picks_are_the_least.Goals as goal

pub returns-clause-least : goal.returns-clause-least
returns-clause-least c = picks_the_least

pub returns-clause-enough : goal.returns-clause-enough
returns-clause-enough c = where_there_are_enough

pub returns-clause-one_after_another : goal.returns-clause-one_after_another
returns-clause-one_after_another c = one_after_another
