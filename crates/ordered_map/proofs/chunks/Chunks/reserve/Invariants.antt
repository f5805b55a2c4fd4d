-- The chunks stay, and there are as many blank ones as were counted.
use Rattle.std.proofs.Common.{◌≡◌, ◌≤◌}
use Rattle.std.specs.Prelude.{max}
use Rattle.ordered_map.proofs.chunks.Chunks.reserve.Given as goal

abbrev pub invariant-loop : goal.invariant-loop
invariant-loop g l = record {
  chunks : l.self.chunks ≡ l.fn.self.chunks;
  blank : l.self.blank ≡ l.counter;
  more : l.fn.self.blank ≤ l.counter;
  bound : l.counter ≤ max l.fn.self.blank l.fn.n;
}
