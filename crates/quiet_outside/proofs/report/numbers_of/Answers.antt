-- Each text that is a line is counted.
use Rattle.quiet_outside.proofs.report.numbers_of.Goals as goal

pub count-requires-clause-counted : goal.count-requires-clause-counted
count-requires-clause-counted c = c.loop-i.invariant.few
