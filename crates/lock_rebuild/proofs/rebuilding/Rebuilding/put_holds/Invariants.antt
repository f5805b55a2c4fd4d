-- With the rest, it is with all.
use Rattle.std.proofs.Common.{◌≡◌, drop}
use Rattle.lock_rebuild.specs.Steps.{with_holds}
use Rattle.lock_rebuild.proofs.rebuilding.Rebuilding.put_holds.Given as goal

abbrev pub invariant-loop-entry : goal.invariant-loop-entry
invariant-loop-entry l = with_holds l.server.0 l.self (drop l.entry-index l.held) ≡ with_holds l.server.0 l.fn.self l.held
