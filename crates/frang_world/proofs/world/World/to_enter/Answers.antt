-- Of the core, whatever the host has read.
use Rattle.std.proofs.Common.{ap, ◌∙◌}
use Rattle.hall_runs.specs.Gates.{number_to_enter}
use Rattle.frang_world.specs.States.{State, core_of}
use Rattle.frang_world.proofs.world.World.to_enter.Goals as goal

pub returns : goal.returns
returns c = c.to_enter.ensures c.self.inside.tree ∙ ap (λ (s : State). number_to_enter (core_of s) c.args.server.0) c.self.view_is
