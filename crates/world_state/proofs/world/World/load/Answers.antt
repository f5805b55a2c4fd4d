-- The slot is read.
use Rattle.std.proofs.Common.{ap, ◌∙◌}
use Rattle.std.specs.Option.{option_map}
use Rattle.core_definitions.specs.EndEffects.{loaded, slot_loaded}
use Rattle.core_definitions.specs.EndGuards.{is_recovery, wants_slot}
use Rattle.world_parties.specs.States.{servers_at}
use Rattle.world_state.specs.States.{State, core_at}
use Rattle.world_state.proofs.Effects.{party_is}
use Rattle.world_state.proofs.Recovering.{is_party, slot_is_wanted}
use Rattle.world_state.proofs.Lasting.{parties_last}
use Rattle.world_state.proofs.world.World.load.Goals as goal

pub load-requires-clause-party : goal.load-requires-clause-party
load-requires-clause-party c = is_party (core_at c.args.self.now) c.args.by.0 c.requires.worker

pub load-requires-clause-wanted : goal.load-requires-clause-wanted
load-requires-clause-wanted c =
    let s : State = record { places = c.self.inside.places; run = c.self.inside.run; tick = c.self.inside.tick; parties = c.self.inside.parties; locks = c.self.inside.locks; flights = c.self.inside.flights; ticks = c.self.inside.ticks; over = c.self.inside.over } in
    slot_is_wanted s c.args.by.0 c.args.slot (ap (λ (s : State). is_recovery (wants_slot (core_at s) c.args.slot) ((core_at s).servers c.args.by.0).recovery) c.self.view_is ∙ c.requires.wanted)

pub invariant_of-self : goal.invariant_of-self
invariant_of-self c =
    let s : State = record { places = c.self.inside.places; run = c.self.inside.run; tick = c.self.inside.tick; parties = c.self.inside.parties; locks = c.self.inside.locks; flights = c.self.inside.flights; ticks = c.self.inside.ticks; over = c.self.inside.over } in
    parties_last s c.load.new.self c.self.inside.locks c.self.invariant c.load.ensures.keeps c.load.ensures.becomes.stays.segments

pub returns : goal.returns
returns c =
    let s : State = record { places = c.self.inside.places; run = c.self.inside.run; tick = c.self.inside.tick; parties = c.self.inside.parties; locks = c.self.inside.locks; flights = c.self.inside.flights; ticks = c.self.inside.ticks; over = c.self.inside.over } in
    party_is s c.load.new.self c.args.by.0 (record (servers_at s.parties c.args.by.0) { recovery = option_map (slot_loaded c.args.slot c.args.block.now) (servers_at s.parties c.args.by.0).recovery }) c.load.ensures.becomes
    ∙ ap (λ (s : State). loaded (core_at s) c.args.by.0 c.args.slot c.args.block.now) c.self.view_is
