-- What is left, and what was moved, the last of it first, are all.
use Rattle.std.proofs.Common.{◌≡◌, ◌+◌, ◌≤◌, ◌++◌, reverse, vec_len, vec_capacity}
use Rattle.ordered_map.proofs.chunk.move_above.Given as goal

abbrev pub invariant-loop : goal.invariant-loop
invariant-loop g l = record {
  moved : l.from.items ++ reverse l.to.items ≡ l.fn.from.items;
  from_len : vec_len l.from + l.counter ≡ vec_len l.fn.from + l.n;
  to_len : vec_len l.to + l.n ≡ l.counter;
  from_capacity : vec_capacity l.from ≡ vec_capacity l.fn.from;
  to_capacity : vec_capacity l.fn.to ≤ vec_capacity l.to;
}
