use Rattle.std.proofs.Common.{◌≡◌, ◌+◌, drop}
use Rattle.std.specs.List.{position_or_len}
use Rattle.world_definitions.specs.Worlds.{marks_of}
use Rattle.script_places.specs.Placed.{is_next_of}
use Rattle.script_places.proofs.scan.next_place.Given as goal

-- the place is that of the line at which it stands, and it is found among those that are left
abbrev pub invariant-loop-line : goal.invariant-loop-line
invariant-loop-line l = record {
  at : l.at ≡ l.from + l.line-index;
  found : l.at + position_or_len (is_next_of (marks_of l.answered) l.who.0) (drop l.line-index (drop l.from l.lines)) ≡ l.from + position_or_len (is_next_of (marks_of l.answered) l.who.0) (drop l.from l.lines);
}
