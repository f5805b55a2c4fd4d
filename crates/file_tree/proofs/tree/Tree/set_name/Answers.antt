use Rattle.std.proofs.Common.{◌∙◌, ap}
use Rattle.tree_edits.specs.Edits.{with_name, edited}
use Rattle.tree_edits.proofs.Swaps.{edited_is}
use Rattle.tree_edits.proofs.Counting.{same_counted, set_name_same}
use Rattle.file_tree.proofs.Targets.{targets_after, set_name_odd}
use Rattle.file_tree.proofs.tree.Tree.set_name.Goals as goal

pub invariant_of-self : goal.invariant_of-self
invariant_of-self c = (
  same_counted (with_name c.args.name.now c.args.birth) (set_name_same c.args.name.now c.args.birth) (record { segments = c.self.inside.segments; nodes = c.self.inside.nodes.entries }) c.self.inside.taken c.args.dir c.set_name.new.nodes.entries c.self.invariant.0 c.set_name.ensures,
  targets_after (with_name c.args.name.now c.args.birth) (set_name_odd c.args.name.now c.args.birth) (record { segments = c.self.inside.segments; nodes = c.self.inside.nodes.entries }) c.args.dir c.set_name.new.nodes.entries c.self.invariant.1 c.set_name.ensures,
)

pub returns : goal.returns
returns c = edited_is (with_name c.args.name.now c.args.birth) (record { segments = c.self.inside.segments; nodes = c.self.inside.nodes.entries }) c.args.dir c.set_name.new.nodes.entries c.set_name.ensures ∙ ap (λ t. edited t c.args.dir (with_name c.args.name.now c.args.birth)) c.self.view_is
