use Rattle.std.proofs.Common.{◌≡◌, ◌++◌, map, true}
use Rattle.std.specs.List.{list_all}
use Rattle.frang_base.specs.Name.{is_name}
use Rattle.file_tree.proofs.looks.names_of.Given as goal

-- the iterator of a map is seen as the entries that it has left
abbrev pub invariant-loop-name : goal.invariant-loop-name
invariant-loop-name l = record {
  can : (goal.iterator-loop-name).can_next l.name-iterator;
  ends : (goal.iterator-loop-name).is_finite l.name-iterator;
  names : list_all is_name l.names ≡ true;
  rest : l.names ++ map (λ e. e.0) l.name-iterator ≡ map (λ e. e.0) l.entries;
}
