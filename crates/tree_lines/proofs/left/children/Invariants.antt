use Rattle.std.proofs.Common.{◌≡◌, ◌++◌, map, true}
use Rattle.std.specs.List.{list_all}
use Rattle.tree_lines.specs.Below.{is_entry_named}
use Rattle.tree_lines.specs.Waiting.{child}
use Rattle.tree_lines.proofs.left.children.Given as goal

-- the iterator of a map is seen as the entries that it has left
abbrev pub invariant-loop-name : goal.invariant-loop-name
invariant-loop-name l = record {
  can : (goal.iterator-loop-name).can_next l.name-iterator;
  ends : (goal.iterator-loop-name).is_finite l.name-iterator;
  named : list_all is_entry_named l.name-iterator ≡ true → list_all is_entry_named l.entries ≡ true;
  rest : l.more.items ++ map (child l.above l.depth) l.name-iterator ≡ map (child l.above l.depth) l.entries;
}
