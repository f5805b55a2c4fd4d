-- With the rest, it is with all.
use Rattle.std.proofs.Common.{◌≡◌, drop}
use Rattle.lock_rebuild.specs.Steps.{with_logs}
use Rattle.lock_rebuild.proofs.rebuilding.Rebuilding.put_logs.Given as goal

abbrev pub invariant-loop-dead : goal.invariant-loop-dead
invariant-loop-dead l = with_logs l.party.0 l.self (drop l.dead-index l.logs) ≡ with_logs l.party.0 l.fn.self l.logs
