-- The recovery is over, and the server whose log it was is off.
use Rattle.std.proofs.Common.{sym, subst, ap, ◌∙◌}
use Rattle.core_definitions.specs.EndEffects.{finished}
use Rattle.world_state.specs.States.{IsRecoveredBy, State, core_at}
use Rattle.world_state.proofs.Recovering.{finish_works, finished_is, is_party}
use Rattle.world_state.proofs.Lasting.{parties_last}
use Rattle.world_parties.proofs.Keeping.{keeps_then}
use Rattle.world_state.proofs.world.World.finish.Goals as goal

pub set_recovery-requires-clause-party : goal.set_recovery-requires-clause-party
set_recovery-requires-clause-party c = is_party (core_at c.args.self.now) c.args.by.0 (finish_works (core_at c.args.self.now) c.args.by.0 c.requires)

pub recovered-requires : goal.recovered-requires
recovered-requires c = c.recovered_by-dead.ensures.server

pub invariant_of-self : goal.invariant_of-self
invariant_of-self c =
    let s : State = record { places = c.self.inside.places; run = c.self.inside.run; tick = c.self.inside.tick; parties = c.self.inside.parties; locks = c.self.inside.locks; flights = c.self.inside.flights; ticks = c.self.inside.ticks; over = c.self.inside.over } in
    parties_last s c.recovered.new.self c.clear.new.self c.self.invariant (keeps_then s.parties c.set_recovery.new.self c.recovered.new.self (c.set_recovery.ensures.keeps tt) c.recovered.ensures.keeps)
    (c.recovered.ensures.becomes.stays.segments ∙ c.set_recovery.ensures.becomes.stays.segments)

pub returns : goal.returns
returns c =
    let s : State = record { places = c.self.inside.places; run = c.self.inside.run; tick = c.self.inside.tick; parties = c.self.inside.parties; locks = c.self.inside.locks; flights = c.self.inside.flights; ticks = c.self.inside.ticks; over = c.self.inside.over } in
    let P : State → Type 0 = λ s. IsRecoveredBy s c.args.by.0 c.recovered_by-dead.result.0 in
    finished_is s c.set_recovery.new.self c.recovered.new.self c.clear.new.self c.args.by.0 c.recovered_by-dead.result.0 c.set_recovery.ensures.becomes c.recovered.ensures.becomes c.clear.ensures.locks
    (subst P (sym c.self.view_is) c.recovered_by-dead.ensures) ∙ ap (λ (s : State). finished (core_at s) c.args.by.0) c.self.view_is
