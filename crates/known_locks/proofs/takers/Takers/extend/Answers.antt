-- The holds so far are extended, the others are as they were.
use Rattle.std.proofs.Common.{None, map, set, ap, ◌∙◌, arith}
use Rattle.lock_definitions.specs.Calls.{hold_extended}
use Rattle.lock_table.proofs.InPlace.{one_more, all_of_them}
use Rattle.known_locks.proofs.takers.Takers.extend.Goals as goal

pub loop-hold-preserved : goal.loop-hold-preserved
loop-hold-preserved c =
    let i = c.loop-hold.hold-index in
    let items = c.loop-hold.hold-items in
    ap (set items i) c.hold_extended.ensures
    ∙ one_more (hold_extended c.args.by.0 c.args.expiry) c.self.inside.holds items i None (omega (arith, c.self.invariant)) c.loop-hold.invariant

pub returns : goal.returns
returns c =
    all_of_them (hold_extended c.args.by.0 c.args.expiry) c.self.inside.holds c.loop-hold.hold-items c.loop-hold.hold-index (omega (arith, c.self.invariant)) c.loop-hold.invariant
    ∙ ap (map (hold_extended c.args.by.0 c.args.expiry)) c.self.view_is
