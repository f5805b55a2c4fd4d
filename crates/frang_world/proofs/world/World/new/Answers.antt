-- Nothing has happened, and nothing is ready.
use Rattle.core_definitions.specs.Settings.{setting_of}
use Rattle.frang_world.proofs.Keeping.{first_is, first_kept}
use Rattle.frang_world.proofs.world.World.new.Goals as goal

pub invariant_of-result : goal.invariant_of-result
invariant_of-result c =
    first_kept c.in_ok-world.world c.in_ok-tree.tree (setting_of c.args.script c.args.segments c.args.run) c.in_ok-world.ensures c.in_ok-tree.ensures.segments c.in_ok-tree.ensures.read c.in_ok-tree.ensures.shown

pub returns : goal.returns
returns c = first_is c.in_ok-world.world c.in_ok-tree.tree (setting_of c.args.script c.args.segments c.args.run) c.in_ok-world.ensures c.in_ok-tree.ensures.segments c.in_ok-tree.ensures.read c.in_ok-tree.ensures.shown
