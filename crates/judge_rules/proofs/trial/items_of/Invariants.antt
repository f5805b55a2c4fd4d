-- The items of the lines so far.
use Rattle.std.proofs.Common.{◌≡◌, map, take}
use Rattle.std.specs.List.{All}
use Rattle.tree_definitions.specs.Live.{item_of}
use Rattle.judge_rules.specs.Judging.{WithinAt}
use Rattle.judge_rules.specs.Scripts.{items_of}
use Rattle.judge_rules.proofs.trial.items_of.Given as goal

abbrev pub invariant-loop-said : goal.invariant-loop-said
invariant-loop-said l = record {
  are : map items_of l.items.items ≡ map (item_of l.script 1) (take l.said-index l.saids);
  within : All WithinAt l.items.items;
}
