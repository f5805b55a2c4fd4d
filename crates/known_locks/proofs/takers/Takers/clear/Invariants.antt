use Rattle.std.proofs.Common.{◌≡◌, ◌++◌, map, take, drop}
use Rattle.lock_definitions.specs.Calls.{hold_not_by}
use Rattle.known_locks.proofs.takers.Takers.clear.Given as goal

abbrev pub invariant-loop-hold : goal.invariant-loop-hold
invariant-loop-hold l = l.hold-items ≡ map (hold_not_by l.dead.0) (take l.hold-index l.initial.hold-items) ++ drop l.hold-index l.initial.hold-items
