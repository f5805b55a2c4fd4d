-- What is in flight of the mount is what the core knows of it.
use Rattle.std.proofs.Common.{sym, ap, ◌∙◌}
use Rattle.core_definitions.specs.Cores.{due_at}
use Rattle.log_slots.specs.Reading.{log_rules}
use Rattle.flight_laws.specs.Flights.{flights_of}
use Rattle.world_state.specs.States.{State, core_at}
use Rattle.world_state.proofs.world.World.due.Goals as goal

pub returns : goal.returns
unfolding log_rules
returns c =
    c.due.ensures (flights_of c.self.inside.flights.flying) (c.the_mounts_writes_are_the_cores.ensures.asked c.self.inside.flights.flying c.args.a.0 ∙ sym c.has_flights-flies.ensures)
    ∙ ap (λ (s : State). due_at (core_at s) c.args.a.0) c.self.view_is
