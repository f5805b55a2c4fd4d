use Rattle.std.proofs.Common.{◌∙◌, ap, sym, subst, IfSome}
use Rattle.tree_definitions.specs.Tree.{node_at}
use Rattle.tree_edits.specs.Counts.{blocks_of, HasRoom}
use Rattle.tree_edits.specs.Edits.{with_blocks, edited}
use Rattle.tree_edits.proofs.Swaps.{edited_is, edited_swapped}
use Rattle.tree_edits.proofs.Counting.{can_count, counted_after, edited_room}
use Rattle.file_tree.proofs.Targets.{targets_after, blocks_odd}
use Rattle.file_tree.proofs.tree.Tree.set_blocks.Goals as goal

pub with-self-inside-requires : goal.with-self-inside-requires
with-self-inside-requires c =
    let edit = with_blocks c.args.count in
    let asked = subst (λ t. IfSome (node_at t c.args.dir) (λ node. HasRoom t c.args.dir (blocks_of (edit node)))) (sym c.self.view_is) c.requires in
    can_count (record { segments = c.self.inside.segments; nodes = c.self.inside.nodes.entries }) c.self.inside.taken c.blocks_in-before.result c.blocks_in-after.result c.args.dir c.set_blocks.new.nodes.entries c.self.invariant.0 c.blocks_in-before.ensures c.blocks_in-after.ensures
    (edited_room edit (record { segments = c.self.inside.segments; nodes = c.self.inside.nodes.entries }) c.args.dir c.set_blocks.new.nodes.entries c.self.invariant.0.within asked c.set_blocks.ensures)

pub invariant_of-self : goal.invariant_of-self
invariant_of-self c =
    let edit = with_blocks c.args.count in
    let asked = subst (λ t. IfSome (node_at t c.args.dir) (λ node. HasRoom t c.args.dir (blocks_of (edit node)))) (sym c.self.view_is) c.requires in (
      counted_after (record { segments = c.self.inside.segments; nodes = c.self.inside.nodes.entries }) c.self.inside.taken c.blocks_in-before.result c.blocks_in-after.result c.args.dir c.set_blocks.new.nodes.entries c.with-self-inside.result c.self.invariant.0 (edited_swapped edit c.self.inside.nodes.entries c.args.dir c.set_blocks.new.nodes.entries c.set_blocks.ensures)
          c.blocks_in-before.ensures c.blocks_in-after.ensures (edited_room edit (record { segments = c.self.inside.segments; nodes = c.self.inside.nodes.entries }) c.args.dir c.set_blocks.new.nodes.entries c.self.invariant.0.within asked c.set_blocks.ensures) c.with-self-inside.ensures,
      targets_after (edit) (blocks_odd c.args.count) (record { segments = c.self.inside.segments; nodes = c.self.inside.nodes.entries }) c.args.dir c.set_blocks.new.nodes.entries c.self.invariant.1 c.set_blocks.ensures,
    )

pub returns-clause-is : goal.returns-clause-is
returns-clause-is c =
    let edit = with_blocks c.args.count in
    edited_is edit (record { segments = c.self.inside.segments; nodes = c.self.inside.nodes.entries }) c.args.dir c.set_blocks.new.nodes.entries c.set_blocks.ensures ∙ ap (λ t. edited t c.args.dir edit) c.self.view_is

pub returns-clause-within : goal.returns-clause-within
returns-clause-within c =
    let edit = with_blocks c.args.count in
    let asked = subst (λ t. IfSome (node_at t c.args.dir) (λ node. HasRoom t c.args.dir (blocks_of (edit node)))) (sym c.self.view_is) c.requires in
    (counted_after (record { segments = c.self.inside.segments; nodes = c.self.inside.nodes.entries }) c.self.inside.taken c.blocks_in-before.result c.blocks_in-after.result c.args.dir c.set_blocks.new.nodes.entries c.with-self-inside.result c.self.invariant.0 (edited_swapped edit c.self.inside.nodes.entries c.args.dir c.set_blocks.new.nodes.entries c.set_blocks.ensures) c.blocks_in-before.ensures c.blocks_in-after.ensures (edited_room edit (record { segments = c.self.inside.segments; nodes = c.self.inside.nodes.entries }) c.args.dir c.set_blocks.new.nodes.entries c.self.invariant.0.within asked c.set_blocks.ensures) c.with-self-inside.ensures).within
