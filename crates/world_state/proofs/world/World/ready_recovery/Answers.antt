-- The core knows nothing of it.
use Rattle.std.proofs.Common.{ap, ◌∙◌, subst}
use Rattle.world_parties.specs.States.{RestStays}
use Rattle.world_state.specs.States.{State, core_at}
use Rattle.world_state.proofs.Effects.{same_is}
use Rattle.world_state.proofs.Recovering.{is_party}
use Rattle.world_state.proofs.Lasting.{parties_last}
use Rattle.world_state.proofs.world.World.ready_recovery.Goals as goal

pub ready-requires : goal.ready-requires
ready-requires c = is_party (core_at c.args.self.now) c.args.by.0 c.requires

pub invariant_of-self : goal.invariant_of-self
invariant_of-self c =
    let s : State = record { places = c.self.inside.places; run = c.self.inside.run; tick = c.self.inside.tick; parties = c.self.inside.parties; locks = c.self.inside.locks; flights = c.self.inside.flights; ticks = c.self.inside.ticks; over = c.self.inside.over } in
    parties_last s c.ready.new.self c.self.inside.locks c.self.invariant c.ready.ensures.keeps c.ready.ensures.same.stays.segments

pub returns-clause-core : goal.returns-clause-core
returns-clause-core c =
    let s : State = record { places = c.self.inside.places; run = c.self.inside.run; tick = c.self.inside.tick; parties = c.self.inside.parties; locks = c.self.inside.locks; flights = c.self.inside.flights; ticks = c.self.inside.ticks; over = c.self.inside.over } in
    same_is s c.ready.new.self c.ready.ensures.same ∙ ap core_at c.self.view_is

pub returns-clause-rest : goal.returns-clause-rest
returns-clause-rest c = subst (λ (o : State). RestStays o.parties c.ready.new.self c.args.by.0) c.self.view_is c.ready.ensures.rest
