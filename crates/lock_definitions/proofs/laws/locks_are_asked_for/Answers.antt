use Rattle.lock_definitions.specs.Locks.{no_locks}
use Rattle.lock_definitions.specs.Calls.{released}
use Rattle.lock_definitions.specs.Runs.{after_calls}
use Rattle.lock_definitions.proofs.States.{AreLocks-no_locks, AreLocks-after_calls, AreLocks-released, held-released, unasked_calls}
use Rattle.lock_definitions.proofs.laws.locks_are_asked_for.Goals as goal

pub returns : goal.returns
returns c = record {
  unheld = λ before since server lock none unasked. unasked_calls (after_calls no_locks before) (AreLocks-after_calls no_locks AreLocks-no_locks before) since server lock unasked none;
  released = λ before since server lock unasked.
      let are = AreLocks-after_calls no_locks AreLocks-no_locks before in
      unasked_calls (released (after_calls no_locks before) server lock) (AreLocks-released (after_calls no_locks before) are server lock) since server lock unasked (held-released (after_calls no_locks before) are server lock);
}
