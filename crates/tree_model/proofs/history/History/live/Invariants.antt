use Rattle.std.proofs.Common.{◌≡◌, ◌++◌, drop}
use Rattle.std.specs.List.{flat_map}
use Rattle.tree_definitions.specs.Live.{item_of, live_history}
use Rattle.tree_model.proofs.history.History.live.Given as goal

abbrev pub invariant-loop-one : goal.invariant-loop-one
invariant-loop-one l = l.items.items ++ flat_map (item_of l.script l.run) (drop l.one-index l.said) ≡ live_history l.script l.run l.said
