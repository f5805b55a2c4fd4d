use Rattle.std.proofs.Common.{◌≡◌, drop, true}
use Rattle.tree_definitions.specs.Removal.{settled_from}
use Rattle.tree_model.specs.Replayed.{all_within}
use Rattle.tree_model.proofs.settle.settle_all.Given as goal

abbrev pub invariant-loop-item : goal.invariant-loop-item
invariant-loop-item l = record {
  rest : settled_from l.opening l.list.items (drop l.item-index l.history) ≡ settled_from l.opening l.initial.list.items l.history;
  within : all_within (drop l.item-index l.history) ≡ true;
}
