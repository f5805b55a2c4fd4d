-- With the rest, it is with all.
use Rattle.std.proofs.Common.{◌≡◌, drop}
use Rattle.lock_rebuild.specs.Steps.{with_wishes}
use Rattle.lock_rebuild.proofs.rebuilding.put_wishes.Given as goal

abbrev pub invariant-loop-entry : goal.invariant-loop-entry
invariant-loop-entry l = with_wishes l.server.0 l.table.locks (drop l.entry-index l.wants) ≡ with_wishes l.server.0 l.fn.table.locks l.wants
