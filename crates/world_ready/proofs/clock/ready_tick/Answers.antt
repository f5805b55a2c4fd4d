-- Before the end of the clock, with no line at the gate, where nothing else may happen.
use Rattle.std.proofs.Common.{◌<◌, sym, ◌∙◌, arith}
use Rattle.std.proofs.lemmas.Bool.{false≢true}
use Rattle.frang_base.specs.declared.limits.TheConstants.{LAST_TICK}
use Rattle.world_ready.proofs.ClockReady.{at_gate, busy, ticks}
use Rattle.world_ready.proofs.clock.ready_tick.Goals as goal

pub returns-then-is_one_at_gate : goal.returns-then-is_one_at_gate
returns-then-is_one_at_gate c = at_gate c.args.world.now c.args.tree.now (sym c.is_one_at_gate.ensures ∙ c.if-is_one_at_gate.true)

pub returns-then-not-is_quiet : goal.returns-then-not-is_quiet
returns-then-not-is_quiet c = busy c.args.world.now c.args.tree.now (λ quiet. false≢true (sym c.if-not-is_quiet.true ∙ c.is_quiet.ensures.1 quiet))

pub returns : goal.returns
returns c =
    let below : c.args.world.now.tick < LAST_TICK = omega arith in
    ticks c.args.world.now c.args.tree.now below (sym c.is_one_at_gate.ensures ∙ c.if-is_one_at_gate.false) (c.is_quiet.ensures.0 c.if-not-is_quiet.false)
