-- None of the servers so far with any.
use Rattle.std.proofs.Common.{ℕ, ◌<◌}
use Rattle.lock_rebuild.specs.Lists.{HasNoneBelow}
use Rattle.lock_rebuild.proofs.clashes.clash_at.Given as goal

abbrev pub invariant-loop-number : goal.invariant-loop-number
invariant-loop-number l = (a : ℕ) → a < l.number → HasNoneBelow l.clerks l.lock a 256
