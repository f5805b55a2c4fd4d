use Rattle.std.proofs.Common.{◌∙◌, ap}
use Rattle.tree_edits.specs.Edits.{without_name, edited}
use Rattle.tree_edits.proofs.Swaps.{edited_is}
use Rattle.tree_edits.proofs.Counting.{same_counted, name_same}
use Rattle.file_tree.proofs.Targets.{targets_after, name_odd}
use Rattle.file_tree.proofs.tree.Tree.drop_name.Goals as goal

pub invariant_of-self : goal.invariant_of-self
invariant_of-self c = (
  same_counted (without_name c.args.name.now) (name_same c.args.name.now) (record { segments = c.self.inside.segments; nodes = c.self.inside.nodes.entries }) c.self.inside.taken c.args.dir c.drop_name.new.nodes.entries c.self.invariant.0 c.drop_name.ensures,
  targets_after (without_name c.args.name.now) (name_odd c.args.name.now) (record { segments = c.self.inside.segments; nodes = c.self.inside.nodes.entries }) c.args.dir c.drop_name.new.nodes.entries c.self.invariant.1 c.drop_name.ensures,
)

pub returns-clause-is : goal.returns-clause-is
returns-clause-is c = edited_is (without_name c.args.name.now) (record { segments = c.self.inside.segments; nodes = c.self.inside.nodes.entries }) c.args.dir c.drop_name.new.nodes.entries c.drop_name.ensures ∙ ap (λ t. edited t c.args.dir (without_name c.args.name.now)) c.self.view_is

pub returns-clause-within : goal.returns-clause-within
returns-clause-within c = (same_counted (without_name c.args.name.now) (name_same c.args.name.now) (record { segments = c.self.inside.segments; nodes = c.self.inside.nodes.entries }) c.self.inside.taken c.args.dir c.drop_name.new.nodes.entries c.self.invariant.0 c.drop_name.ensures).within
