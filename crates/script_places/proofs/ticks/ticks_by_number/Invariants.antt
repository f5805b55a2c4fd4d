use Rattle.std.proofs.Common.{drop}
use Rattle.script_places.proofs.TicksPassed.{SoFar}
use Rattle.script_places.proofs.ticks.ticks_by_number.Given as goal

-- the numbers up to the last line passed have their ticks, and the lines left come behind them
abbrev pub invariant-loop-line : goal.invariant-loop-line
invariant-loop-line l = SoFar l.lines (drop l.line-index l.lines) l.ticks.items l.passed
