use Rattle.std.proofs.Common.{◌≡◌, map}
use Rattle.std.specs.List.{list_any}
use Rattle.tree_definitions.specs.Touched.{shape_of, differs}
use Rattle.tree_model.proofs.compare.any_differs.Given as goal

-- the iterator of a map is seen as the entries that it has left
abbrev pub invariant-loop-birth : goal.invariant-loop-birth
invariant-loop-birth l = record {
  can : (goal.iterator-loop-birth).can_next l.birth-iterator;
  ends : (goal.iterator-loop-birth).is_finite l.birth-iterator;
  rest : list_any (differs (shape_of l.old) (shape_of l.new)) (map (λ n. n.0) l.birth-iterator) ≡ list_any (differs (shape_of l.old) (shape_of l.new)) (map (λ n. n.0) l.nodes.entries);
}
