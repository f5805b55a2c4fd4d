-- With the texts that are left the numbers are those of all.
use Rattle.std.proofs.Common.{drop}
use Rattle.quiet_outside.specs.SoakNumbers.{IsCounted}
use Rattle.quiet_outside.specs.SoakReports.{said_lines}
use Rattle.quiet_outside.proofs.report.numbers_of.Given as goal

abbrev pub invariant-loop-i : goal.invariant-loop-i
invariant-loop-i l = IsCounted l.numbers l.i (said_lines (drop l.i l.lines)) (said_lines l.lines)
