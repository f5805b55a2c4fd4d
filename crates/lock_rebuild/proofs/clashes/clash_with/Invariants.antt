-- None of the servers so far.
use Rattle.lock_rebuild.specs.Lists.{HasNoneBelow}
use Rattle.lock_rebuild.proofs.clashes.clash_with.Given as goal

abbrev pub invariant-loop-number : goal.invariant-loop-number
invariant-loop-number l = HasNoneBelow l.clerks l.lock l.first.0 l.number
