-- Of the core, whatever the host has read.
use Rattle.std.proofs.Common.{ap, ◌∙◌}
use Rattle.hall_runs.specs.Gates.{line_at_gate}
use Rattle.frang_world.specs.States.{State, core_of}
use Rattle.frang_world.proofs.world.World.at_gate.Goals as goal

pub returns : goal.returns
returns c = c.at_gate.ensures c.self.inside.tree ∙ ap (λ (s : State). line_at_gate (core_of s) c.args.server.0) c.self.view_is
