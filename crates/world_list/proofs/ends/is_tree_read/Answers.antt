-- At rest, nothing is needed any more.
use Rattle.std.proofs.Common.{◌&&◌, sym, ap, ◌∙◌}
use Rattle.core_definitions.specs.Logs.{is_none}
use Rattle.host_tree.specs.Reading.{needed}
use Rattle.world_list.proofs.TreeEnds.{read_so}
use Rattle.world_list.proofs.ends.is_tree_read.Goals as goal

pub returns-then-is_at_rest : goal.returns-then-is_at_rest
returns-then-is_at_rest c =
    c.is_read.ensures ∙ ap (λ b. b && is_none (needed c.args.tree.now.segments c.args.tree.now.read)) (sym (sym c.is_at_rest.ensures ∙ c.if-is_at_rest.true)) ∙ read_so c.args.world.now c.args.tree.now c.requires
