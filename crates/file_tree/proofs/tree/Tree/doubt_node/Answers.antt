use Rattle.std.proofs.Common.{◌∙◌, ap}
use Rattle.tree_edits.specs.Edits.{with_doubt, edited}
use Rattle.tree_edits.proofs.Swaps.{edited_is}
use Rattle.tree_edits.proofs.Counting.{same_counted, doubt_same}
use Rattle.file_tree.proofs.Targets.{targets_after, doubt_odd}
use Rattle.file_tree.proofs.tree.Tree.doubt_node.Goals as goal

pub invariant_of-self : goal.invariant_of-self
invariant_of-self c =
    let edit = with_doubt c.args.from c.args.count in (
      same_counted edit (doubt_same c.args.from c.args.count) (record { segments = c.self.inside.segments; nodes = c.self.inside.nodes.entries }) c.self.inside.taken c.args.birth c.doubt.new.nodes.entries c.self.invariant.0 c.doubt.ensures,
      targets_after edit (doubt_odd c.args.from c.args.count) (record { segments = c.self.inside.segments; nodes = c.self.inside.nodes.entries }) c.args.birth c.doubt.new.nodes.entries c.self.invariant.1 c.doubt.ensures,
    )

pub returns : goal.returns
returns c =
    let edit = with_doubt c.args.from c.args.count in
    edited_is edit (record { segments = c.self.inside.segments; nodes = c.self.inside.nodes.entries }) c.args.birth c.doubt.new.nodes.entries c.doubt.ensures ∙ ap (λ t. edited t c.args.birth edit) c.self.view_is
