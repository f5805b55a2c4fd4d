-- All that are up want everything, where it is due.
use Rattle.std.proofs.Common.{◌%◌, eq-eqb, ap, ◌∙◌}
use Rattle.frang_base.specs.declared.limits.TheConstants.{FLUSH_TICKS}
use Rattle.core_definitions.specs.WriteEffects.{flushed_at}
use Rattle.world_state.specs.States.{State, core_at}
use Rattle.world_state.proofs.Effects.{flushed_is}
use Rattle.world_state.proofs.Lasting.{parties_last}
use Rattle.world_state.proofs.world.World.flush.Goals as goal

pub invariant_of-self : goal.invariant_of-self
invariant_of-self c =
    let s : State = record { places = c.self.inside.places; run = c.self.inside.run; tick = c.self.inside.tick; parties = c.self.inside.parties; locks = c.self.inside.locks; flights = c.self.inside.flights; ticks = c.self.inside.ticks; over = c.self.inside.over } in
    parties_last s c.flush.new.self c.self.inside.locks c.self.invariant c.flush.ensures.keeps c.flush.ensures.becomes.stays.segments

pub returns-then-now-eq0-clause-core : goal.returns-then-now-eq0-clause-core
returns-then-now-eq0-clause-core c =
    let s : State = record { places = c.self.inside.places; run = c.self.inside.run; tick = c.self.inside.tick; parties = c.self.inside.parties; locks = c.self.inside.locks; flights = c.self.inside.flights; ticks = c.self.inside.ticks; over = c.self.inside.over } in
    flushed_is s c.flush.new.self c.args.now c.flush.ensures.becomes (eq-eqb (c.args.now % FLUSH_TICKS) 0 c.if-now-eq0.true)
    ∙ ap (λ (s : State). record (core_at s) { servers = flushed_at (core_at s) c.args.now }) c.self.view_is
