use Rattle.lock_definitions.specs.Locks.{no_locks}
use Rattle.lock_definitions.proofs.States.{AreLocks-no_locks, AreLocks-after_calls}
use Rattle.lock_definitions.proofs.laws.holders_stay_compatible.Goals as goal

pub returns : goal.returns
returns c = record { state = AreLocks-after_calls no_locks AreLocks-no_locks; compatible = λ calls. (AreLocks-after_calls no_locks AreLocks-no_locks calls).compatible }
