use Rattle.std.proofs.Common.{◌≡◌, drop}
use Rattle.std.specs.List.{list_any}
use Rattle.tree_definitions.specs.Touched.{touches}
use Rattle.history_rules.proofs.known.touches_any.Given as goal

abbrev pub invariant-loop-birth : goal.invariant-loop-birth
invariant-loop-birth l = list_any (touches l.tree l.entry) (drop l.birth-index l.nodes) ≡ list_any (touches l.tree l.entry) l.nodes
