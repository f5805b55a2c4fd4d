-- The names of the places so far are added.
use Rattle.std.proofs.Common.{◌≡◌}
use Rattle.std.specs.List.{filter_map, fold}
use Rattle.tree_definitions.specs.Numbers.{below}
use Rattle.dir_lookup.specs.Stored.{entries_at}
use Rattle.op_look.specs.Looks.{with_name}
use Rattle.op_look.proofs.names.add_names.Given as goal

abbrev pub invariant-loop-place : goal.invariant-loop-place
invariant-loop-place l = l.sorted.entries ≡ fold with_name l.initial.sorted.entries (filter_map (entries_at l.sector) (below l.place))
