-- The recovery that is ready is that of the write's party.
use Rattle.std.proofs.Common.{◌≡◌, Option, Some, sym, subst}
use Rattle.std.specs.Option.{option_map}
use Rattle.std.proofs.lemmas.Result.{on_ok_weaker}
use Rattle.core_definitions.specs.Flights as core
use Rattle.flight_laws.specs.Flights.{flights_of}
use Rattle.sector_bytes.specs.SectorMaps.{value_at}
use Rattle.world_state.specs.States.{State, core_at}
use Rattle.world_state.proofs.Landing.{loss_made_ready}
use Rattle.world_state.proofs.world.World.ready_lose.Goals as goal

pub returns-clause-ok : goal.returns-clause-ok
returns-clause-ok c =
    let P : State → Type 0 = λ s. Some c.in-Some.by.0 ≡ option_map (λ (flight : core.Flight). flight.server) (value_at (core_at s).flights c.args.ticket.0) in
    on_ok_weaker c.ready.result
    (λ ready. loss_made_ready c.ready.new.self (value_at (flights_of c.self.inside.flights.flying) c.args.ticket.0) c.in-Some.by.0 (subst P (sym c.self.view_is) c.in-Some.ensures.party) ready)
    c.ready.ensures.ready
