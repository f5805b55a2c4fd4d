-- Not at its end, not while a line is at the gate, and else where nothing else may happen.
use Rattle.std.proofs.Common.{◌<◌, arith, sym, ◌∙◌}
use Rattle.std.proofs.lemmas.Bool.{lt-ltb}
use Rattle.frang_base.specs.declared.limits.TheConstants.{LAST_TICK}
use Rattle.world_next.specs.Over.{core_over}
use Rattle.world_next.proofs.Ticking.{no_tick_at_gate, ticks}
use Rattle.world_next.proofs.clock.tick_event.Goals as goal

pub returns-then-is_one_at_gate : goal.returns-then-is_one_at_gate
returns-then-is_one_at_gate c = λ tree none. no_tick_at_gate (core_over c.args.world.now tree) (sym c.is_one_at_gate.ensures ∙ c.if-is_one_at_gate.true)

pub returns : goal.returns
returns c = λ tree none.
    let early : c.args.world.now.tick < LAST_TICK = omega (arith, c.if-now-ge-LAST_TICK.false, c.now.ensures) in
    ticks (core_over c.args.world.now tree) none (sym c.is_one_at_gate.ensures ∙ c.if-is_one_at_gate.false) (lt-ltb c.args.world.now.tick LAST_TICK early)
