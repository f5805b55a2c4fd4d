-- The server is held, or no longer, and nothing is ready.
use Rattle.std.proofs.Common.{ap, ◌∙◌}
use Rattle.frang_base.specs.Functions.{put}
use Rattle.core_definitions.specs.Cores.{Core}
use Rattle.frang_world.specs.States.{State, core_of}
use Rattle.frang_world.proofs.Aside.{over}
use Rattle.frang_world.proofs.Keeping.{kept_beside}
use Rattle.frang_world.proofs.world.World.hold.Goals as goal

pub invariant_of-self : goal.invariant_of-self
invariant_of-self c = kept_beside c.self.inside.world c.hold.new.self c.self.inside.tree (ap (λ (d : Core). d.setting.segments) c.hold.ensures) c.self.invariant c.put_ready.new.ready c.put_ready.ensures

pub returns-clause-core : goal.returns-clause-core
returns-clause-core c =
    ap (λ (d : Core). over d c.self.inside.tree.read c.self.inside.tree.shown) c.hold.ensures
    ∙ ap (λ (s : State). record (core_of s) { paused = put (core_of s).paused c.args.server.0 c.args.on }) c.self.view_is
