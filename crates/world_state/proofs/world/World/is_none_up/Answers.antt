-- What is asked of all parties is asked of the core.
use Rattle.std.proofs.Common.{not, ap, ◌∙◌}
use Rattle.core_definitions.specs.EndGuards.{none_up}
use Rattle.world_state.specs.States.{State, core_at}
use Rattle.world_state.proofs.world.World.is_none_up.Goals as goal

pub returns : goal.returns
returns c = ap not c.is_any_up.ensures ∙ ap (λ (s : State). none_up (core_at s)) c.self.view_is
