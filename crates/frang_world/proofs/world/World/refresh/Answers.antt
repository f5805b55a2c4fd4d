-- The core is the same, and nothing is ready.
use Rattle.std.proofs.Common.{ap, ◌∙◌}
use Rattle.frang_world.specs.States.{core_of}
use Rattle.frang_world.proofs.Keeping.{core_same, kept_same, nothing_fits}
use Rattle.frang_world.proofs.world.World.refresh.Goals as goal

pub invariant_of-self : goal.invariant_of-self
invariant_of-self c =
    kept_same c.self.inside.world c.refresh.new.world c.self.inside.tree c.refresh.new.tree c.refresh.ensures.core c.refresh.ensures.reading c.self.invariant c.put_ready.new.ready
    (nothing_fits c.refresh.new.world c.refresh.new.tree c.put_ready.new.ready c.put_ready.ensures)

pub returns-clause-core : goal.returns-clause-core
returns-clause-core c = core_same c.self.inside.world c.refresh.new.world c.self.inside.tree c.refresh.new.tree c.refresh.ensures.core c.refresh.ensures.reading ∙ ap core_of c.self.view_is
