use Rattle.std.proofs.Common.{◌≡◌, drop}
use Rattle.tree_definitions.specs.History.{doubted}
use Rattle.tree_model.proofs.steps.doubt.Given as goal

abbrev pub invariant-loop-run : goal.invariant-loop-run
invariant-loop-run l = doubted l.tree (drop l.run-index l.runs) ≡ doubted l.initial.tree l.runs
