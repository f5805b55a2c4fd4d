-- The holds so far are not the dead server's, the others are as they were.
use Rattle.std.proofs.Common.{None, set, ap, ◌∙◌, arith}
use Rattle.lock_definitions.specs.Calls.{hold_not_by}
use Rattle.lock_table.proofs.InPlace.{one_more}
use Rattle.known_locks.proofs.takers.Takers.clear.Goals as goal

pub loop-hold-preserved : goal.loop-hold-preserved
loop-hold-preserved c =
    let i = c.loop-hold.hold-index in
    let items = c.loop-hold.hold-items in
    ap (set items i) c.hold_not_by.ensures ∙ one_more (hold_not_by c.args.dead.0) c.self.inside.holds items i None (omega (arith, c.self.invariant)) c.loop-hold.invariant
