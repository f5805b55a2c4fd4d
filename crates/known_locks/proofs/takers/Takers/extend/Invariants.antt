use Rattle.std.proofs.Common.{◌≡◌, ◌++◌, map, take, drop}
use Rattle.lock_definitions.specs.Calls.{hold_extended}
use Rattle.known_locks.proofs.takers.Takers.extend.Given as goal

abbrev pub invariant-loop-hold : goal.invariant-loop-hold
invariant-loop-hold l = l.hold-items ≡ map (hold_extended l.by.0 l.expiry) (take l.hold-index l.initial.hold-items) ++ drop l.hold-index l.initial.hold-items
