-- One change's sector is added at each turn.
use Rattle.std.proofs.Common.{arith}
use Rattle.recovery_demon.proofs.NamedSectors.{changes_more}
use Rattle.recovery_demon.proofs.naming.add_named.Goals as goal

pub loop-change-preserved : goal.loop-change-preserved
loop-change-preserved c =
    changes_more c.args.segments c.args.changes.now c.loop-change.change-index c.change-item.result c.args.sectors.now.entries c.loop-change.sectors.entries c.add_one.new.sectors.entries (omega arith)
    c.change-item.is c.loop-change.invariant c.in_ok-add_one.ensures
