-- There is room, or nothing has changed that the core knows.
use Rattle.std.proofs.Common.{◌≤◌, refl, ap, ◌∙◌}
use Rattle.std.proofs.lemmas.Result.{on_ok_weaker}
use Rattle.core_definitions.specs.Servers.{Server}
use Rattle.world_parties.specs.States.{recovery_in}
use Rattle.world_parties.proofs.Flagging.{server_changes}
use Rattle.world_state.specs.States.{State, core_at}
use Rattle.world_state.proofs.Planning.{back_lasts, fits_again, of_party, unchanged_is}
use Rattle.world_state.proofs.world.World.ready_fetch.Goals as goal

pub put-requires-clause-fits : goal.put-requires-clause-fits
put-requires-clause-fits c =
    fits_again c.self.inside.parties.segments c.take-party.new.self.segments c.args.a.0 c.take-party.result.recovery _ c.take-party.ensures.fits c.take-party.ensures.others.stays.segments refl

pub invariant_of-self : goal.invariant_of-self
invariant_of-self c =
    let s : State = record { places = c.self.inside.places; run = c.self.inside.run; tick = c.self.inside.tick; parties = c.self.inside.parties; locks = c.self.inside.locks; flights = c.self.inside.flights; ticks = c.self.inside.ticks; over = c.self.inside.over } in
    back_lasts s c.take-party.new.self c.put.new.self c.args.a.0 c.take-party.result (record c.take-party.result { server = c.reserve_sectors-made.new.self }) c.self.invariant c.take-party.ensures.party c.take-party.ensures.others c.put.ensures.keeps c.put.ensures.becomes
    (server_changes c.take-party.result c.reserve_sectors-made.new.self c.reserve_sectors-made.ensures.flying (ap (λ (x : Server). x.under) c.reserve_sectors-made.ensures.server) (ap (λ (x : Server). x.cache) c.reserve_sectors-made.ensures.server) (ap (λ (x : Server). x.ring) c.reserve_sectors-made.ensures.server))

pub returns-clause-core : goal.returns-clause-core
returns-clause-core c =
    let s : State = record { places = c.self.inside.places; run = c.self.inside.run; tick = c.self.inside.tick; parties = c.self.inside.parties; locks = c.self.inside.locks; flights = c.self.inside.flights; ticks = c.self.inside.ticks; over = c.self.inside.over } in
    unchanged_is s c.put.new.self c.args.a.0 c.take-party.result (record c.take-party.result { server = c.reserve_sectors-made.new.self }) c.take-party.ensures.server (c.put.ensures.becomes c.self.inside.parties c.take-party.ensures.others)
    (ap (λ (x : Server). record x { recovery = recovery_in c.take-party.result.recovery }) c.reserve_sectors-made.ensures.server) ∙ ap core_at c.self.view_is

pub returns-clause-ok : goal.returns-clause-ok
returns-clause-ok c =
    on_ok_weaker c.reserve_sectors-made.result (λ is. of_party c.put.new.self c.args.a.0 (record c.take-party.result { server = c.reserve_sectors-made.new.self }) (λ party. 1 ≤ party.server.spare) (c.put.ensures.put c.self.inside.parties c.take-party.ensures.others).at is) c.reserve_sectors-made.ensures.ok
