-- There are none exactly where the core has none.
use Rattle.std.proofs.Common.{ℕ, ◌==◌, ap, ◌∙◌}
use Rattle.core_definitions.specs.Logs.{is_none}
use Rattle.world_state.specs.States.{State, core_at}
use Rattle.world_state.proofs.Losing.{none_counted}
use Rattle.world_state.proofs.world.World.is_none_in_flight.Goals as goal

pub returns : goal.returns
returns c =
    ap (λ (n : ℕ). n == 0) c.count.ensures.all ∙ none_counted c.self.inside.flights.flying
    ∙ ap (λ (s : State). is_none (core_at s).flights) c.self.view_is
