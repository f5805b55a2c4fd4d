use Rattle.std.proofs.Common.{◌∙◌, ap, subst}
use Rattle.tree_edits.specs.Counts.{IsSwapped}
use Rattle.tree_edits.specs.Edits.{with_links, edited}
use Rattle.tree_edits.proofs.Swaps.{edited_is, edited_swapped}
use Rattle.tree_edits.proofs.Counting.{same_counted, links_same}
use Rattle.file_tree.proofs.Targets.{targets_after, links_odd}
use Rattle.file_tree.proofs.tree.Tree.set_links.Goals as goal

pub invariant_of-self : goal.invariant_of-self
invariant_of-self c = (
  same_counted (with_links c.args.count) (links_same c.args.count) (record { segments = c.self.inside.segments; nodes = c.self.inside.nodes.entries }) c.self.inside.taken c.args.birth c.set_links.new.nodes.entries c.self.invariant.0 c.set_links.ensures,
  targets_after (with_links c.args.count) (links_odd c.args.count) (record { segments = c.self.inside.segments; nodes = c.self.inside.nodes.entries }) c.args.birth c.set_links.new.nodes.entries c.self.invariant.1 c.set_links.ensures,
)

pub returns-clause-is : goal.returns-clause-is
returns-clause-is c = edited_is (with_links c.args.count) (record { segments = c.self.inside.segments; nodes = c.self.inside.nodes.entries }) c.args.birth c.set_links.new.nodes.entries c.set_links.ensures ∙ ap (λ t. edited t c.args.birth (with_links c.args.count)) c.self.view_is

pub returns-clause-swapped : goal.returns-clause-swapped
returns-clause-swapped c =
    subst (λ t. IsSwapped t.nodes c.args.birth c.set_links.new.nodes.entries) c.self.view_is (edited_swapped (with_links c.args.count) c.self.inside.nodes.entries c.args.birth c.set_links.new.nodes.entries c.set_links.ensures)
