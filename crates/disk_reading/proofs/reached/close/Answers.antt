-- Each round leaves fewer without a flag.
use Rattle.std.proofs.Common.{◌≡◌, false, sym, ◌∙◌, subst}
use Rattle.disk_reading.specs.Reach.{AreNamedBelow, nodes_at, is_closed}
use Rattle.disk_reading.proofs.ReachLaws.{spread_falls}
use Rattle.disk_reading.proofs.reached.close.Goals as goal

pub loop-flags-smaller : goal.loop-flags-smaller
loop-flags-smaller c =
    let at = nodes_at c.args.nodes.now.entries in
    let h : is_closed c.loop-flags.flags at ≡ false = sym c.is_closed.ensures ∙ c.loop-flags-test.true in
    spread_falls at c.loop-flags.flags c.spread.new.flags (subst (AreNamedBelow at) (sym c.loop-flags.invariant.long) c.requires.below) c.spread.ensures h
