use Rattle.std.proofs.Common.{◌≡◌, drop}
use Rattle.script_places.specs.Placed.{ascends}
use Rattle.script_places.proofs.Ascending.{ascends_from}
use Rattle.script_places.proofs.order.ascends.Given as goal

-- the lines that are left ascend from the least number on, if all ascend
abbrev pub invariant-loop-line : goal.invariant-loop-line
invariant-loop-line l = ascends_from l.least (drop l.line-index l.lines) ≡ ascends l.lines
