use Rattle.std.proofs.Common.{◌≡◌, ◌++◌, map, filter}
use Rattle.tree_definitions.specs.Touched.{differs}
use Rattle.history_rules.proofs.known.push_differing.Given as goal

-- the iterator of a map is seen as the entries that it has left
abbrev pub invariant-loop-birth : goal.invariant-loop-birth
invariant-loop-birth l = record {
  can : (goal.iterator-loop-birth).can_next l.birth-iterator;
  ends : (goal.iterator-loop-birth).is_finite l.birth-iterator;
  rest : l.changed.items ++ filter (differs l.tree l.next) (map (λ n. n.0) l.birth-iterator) ≡ l.initial.changed.items ++ filter (differs l.tree l.next) (map (λ n. n.0) l.nodes.entries);
}
