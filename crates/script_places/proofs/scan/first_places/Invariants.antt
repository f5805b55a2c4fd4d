use Rattle.std.proofs.Common.{◌≡◌, ◌≤◌, length}
use Rattle.script_places.proofs.Placing.{AreFirst}
use Rattle.script_places.proofs.scan.first_places.Given as goal

-- of the lines from the place on each party has its first
abbrev pub invariant-loop-at : goal.invariant-loop-at
invariant-loop-at l = record {
  inside : l.at ≤ length l.lines;
  long : length l.places.items ≡ 256;
  first : AreFirst l.places.items l.at l.lines;
}

abbrev pub decreases-loop-at : goal.decreases-loop-at
decreases-loop-at l = l.at
