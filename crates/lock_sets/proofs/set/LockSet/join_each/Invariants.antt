-- The set so far, and the locks that are left.
use Rattle.std.proofs.Common.{◌≡◌, drop}
use Rattle.set_definitions.specs.Sets.{joined_all}
use Rattle.lock_sets.proofs.set.LockSet.join_each.Given as goal

abbrev pub invariant-loop-need : goal.invariant-loop-need
invariant-loop-need l = joined_all l.self (drop l.need-index l.needs) ≡ joined_all l.initial.self l.needs
