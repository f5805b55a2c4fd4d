-- What is listed, with the logs that are left, are all.
use Rattle.std.proofs.Common.{◌≡◌, ◌++◌, drop}
use Rattle.known_locks.specs.Listed.{logs_from}
use Rattle.known_locks.proofs.takers.Takers.logs.Given as goal

abbrev pub invariant-loop-dead : goal.invariant-loop-dead
invariant-loop-dead l = l.logs ++ logs_from l.party.0 l.dead (drop l.dead l.hold-items) ≡ logs_from l.party.0 0 l.hold-items
