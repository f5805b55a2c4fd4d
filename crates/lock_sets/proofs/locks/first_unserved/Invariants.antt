-- The first of the locks that are left is the first of all.
use Rattle.std.proofs.Common.{◌≡◌, drop}
use Rattle.set_definitions.specs.Sets.{to_ask}
use Rattle.lock_sets.proofs.locks.first_unserved.Given as goal

abbrev pub invariant-loop-need : goal.invariant-loop-need
invariant-loop-need l = to_ask l.table.locks l.server.0 (drop l.need-index l.locks) ≡ to_ask l.table.locks l.server.0 l.locks
