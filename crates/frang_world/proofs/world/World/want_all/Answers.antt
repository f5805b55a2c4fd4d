-- The server wants everything written, and nothing is ready.
use Rattle.std.proofs.Common.{ap, ◌∙◌}
use Rattle.core_definitions.specs.Cores.{Core, with_server}
use Rattle.core_definitions.specs.Servers.{wanting_all_up}
use Rattle.frang_world.specs.States.{State, core_of}
use Rattle.frang_world.proofs.Aside.{over}
use Rattle.frang_world.proofs.Keeping.{kept_beside}
use Rattle.frang_world.proofs.world.World.want_all.Goals as goal

pub invariant_of-self : goal.invariant_of-self
invariant_of-self c = kept_beside c.self.inside.world c.want_written.new.self c.self.inside.tree (ap (λ (d : Core). d.setting.segments) c.want_written.ensures) c.self.invariant c.put_ready.new.ready c.put_ready.ensures

pub returns-clause-core : goal.returns-clause-core
returns-clause-core c =
    ap (λ (d : Core). over d c.self.inside.tree.read c.self.inside.tree.shown) c.want_written.ensures
    ∙ ap (λ (s : State). with_server (core_of s) c.args.server.0 (wanting_all_up ((core_of s).servers c.args.server.0))) c.self.view_is
