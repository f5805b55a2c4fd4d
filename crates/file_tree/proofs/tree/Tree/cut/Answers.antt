use Rattle.std.proofs.Common.{◌∙◌, ap}
use Rattle.tree_edits.specs.Edits.{with_first, edited}
use Rattle.tree_edits.proofs.Swaps.{edited_is, edited_swapped}
use Rattle.tree_edits.proofs.Counting.{can_count, counted_after, cut_room}
use Rattle.file_tree.proofs.Targets.{targets_after, first_odd}
use Rattle.file_tree.proofs.tree.Tree.cut.Goals as goal

pub with-self-inside-requires : goal.with-self-inside-requires
with-self-inside-requires c =
    can_count (record { segments = c.self.inside.segments; nodes = c.self.inside.nodes.entries }) c.self.inside.taken c.blocks_in-before.result c.blocks_in-after.result c.args.birth c.cut.new.nodes.entries c.self.invariant.0 c.blocks_in-before.ensures c.blocks_in-after.ensures
    (cut_room c.args.when c.args.len (record { segments = c.self.inside.segments; nodes = c.self.inside.nodes.entries }) c.args.birth c.cut.new.nodes.entries c.self.invariant.0.within c.cut.ensures)

pub invariant_of-self : goal.invariant_of-self
invariant_of-self c = (
  counted_after (record { segments = c.self.inside.segments; nodes = c.self.inside.nodes.entries }) c.self.inside.taken c.blocks_in-before.result c.blocks_in-after.result c.args.birth c.cut.new.nodes.entries c.with-self-inside.result c.self.invariant.0 (edited_swapped (with_first c.args.when c.args.len) c.self.inside.nodes.entries c.args.birth c.cut.new.nodes.entries c.cut.ensures)
      c.blocks_in-before.ensures c.blocks_in-after.ensures (cut_room c.args.when c.args.len (record { segments = c.self.inside.segments; nodes = c.self.inside.nodes.entries }) c.args.birth c.cut.new.nodes.entries c.self.invariant.0.within c.cut.ensures) c.with-self-inside.ensures,
  targets_after (with_first c.args.when c.args.len) (first_odd c.args.when c.args.len) (record { segments = c.self.inside.segments; nodes = c.self.inside.nodes.entries }) c.args.birth c.cut.new.nodes.entries c.self.invariant.1 c.cut.ensures,
)

pub returns : goal.returns
returns c = edited_is (with_first c.args.when c.args.len) (record { segments = c.self.inside.segments; nodes = c.self.inside.nodes.entries }) c.args.birth c.cut.new.nodes.entries c.cut.ensures ∙ ap (λ t. edited t c.args.birth (with_first c.args.when c.args.len)) c.self.view_is
