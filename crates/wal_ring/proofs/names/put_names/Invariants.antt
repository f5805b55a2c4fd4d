use Rattle.std.proofs.Common.{◌≡◌, ◌+◌, ◌≤◌, ◌++◌, drop, map, vec_len, vec_capacity}
use Rattle.ring_definitions.specs.Rings.{names_of}
use Rattle.wal_ring.proofs.names.put_names.Given as goal

abbrev pub invariant-loop-change : goal.invariant-loop-change
invariant-loop-change l = record {
  items : l.named.items ++ map (λ c. record { sector = c.sector; version = c.version; first = l.first }) (drop l.change-index l.changes) ≡ l.fn.named.items ++ names_of l.first l.fn.redo;
  len : vec_len l.named ≡ vec_len l.fn.named + l.change-index;
  capacity : vec_capacity l.fn.named ≤ vec_capacity l.named;
}
