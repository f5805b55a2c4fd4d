use Rattle.std.proofs.Common.{◌≡◌, drop, max}
use Rattle.script_places.specs.Placed.{mark_count}
use Rattle.script_places.proofs.marks.mark_count.Given as goal

-- with the lines that are left it is the count of all
abbrev pub invariant-loop-line : goal.invariant-loop-line
invariant-loop-line l = max l.count (mark_count (drop l.line-index l.lines)) ≡ mark_count l.lines
