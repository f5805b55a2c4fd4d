use Rattle.std.proofs.Common.{◌≡◌, ◌++◌, false}
use Rattle.std.specs.List.{flat_map}
use Rattle.tree_definitions.specs.Removal.{file_sectors, is_doubtful, doubtful}
use Rattle.tree_model.proofs.settle.doubtful.Given as goal

-- the iterator of a map is seen as the entries that it has left
abbrev pub invariant-loop-birth : goal.invariant-loop-birth
invariant-loop-birth l = record {
  can : (goal.iterator-loop-birth).can_next l.birth-iterator;
  ends : (goal.iterator-loop-birth).is_finite l.birth-iterator;
  rest : l.runs.items ++ flat_map (λ n. file_sectors (λ b sector. is_doubtful l.server.0 b sector false l.opening l.list) n.0 n.1) l.birth-iterator ≡ doubtful l.server.0 l.opening l.list;
}
