use Rattle.std.proofs.Common.{◌∙◌, ap, sym, subst, IfSome}
use Rattle.tree_definitions.specs.Tree.{node_at}
use Rattle.tree_edits.specs.Counts.{blocks_of, HasRoom}
use Rattle.tree_edits.specs.Edits.{with_cells, edited}
use Rattle.tree_edits.specs.Written.{cells_of}
use Rattle.tree_edits.proofs.Swaps.{edited_is, edited_swapped}
use Rattle.tree_edits.proofs.Counting.{can_count, counted_after, edited_room}
use Rattle.file_tree.proofs.Targets.{targets_after, cells_odd}
use Rattle.file_tree.proofs.tree.Tree.put_bytes.Goals as goal

pub with-self-inside-requires : goal.with-self-inside-requires
with-self-inside-requires c =
    let edit = with_cells c.args.when c.args.off (cells_of c.args.bytes.now) in
    let asked = subst (λ t. IfSome (node_at t c.args.birth) (λ node. HasRoom t c.args.birth (blocks_of (edit node)))) (sym c.self.view_is) c.requires.room in
    can_count (record { segments = c.self.inside.segments; nodes = c.self.inside.nodes.entries }) c.self.inside.taken c.blocks_in-before.result c.blocks_in-after.result c.args.birth c.put_bytes.new.nodes.entries c.self.invariant.0 c.blocks_in-before.ensures c.blocks_in-after.ensures
    (edited_room edit (record { segments = c.self.inside.segments; nodes = c.self.inside.nodes.entries }) c.args.birth c.put_bytes.new.nodes.entries c.self.invariant.0.within asked c.in_ok-put_bytes.ensures.ok)

pub invariant_of-self-2 : goal.invariant_of-self-2
invariant_of-self-2 c =
    let edit = with_cells c.args.when c.args.off (cells_of c.args.bytes.now) in
    let asked = subst (λ t. IfSome (node_at t c.args.birth) (λ node. HasRoom t c.args.birth (blocks_of (edit node)))) (sym c.self.view_is) c.requires.room in (
      counted_after (record { segments = c.self.inside.segments; nodes = c.self.inside.nodes.entries }) c.self.inside.taken c.blocks_in-before.result c.blocks_in-after.result c.args.birth c.put_bytes.new.nodes.entries c.with-self-inside.result c.self.invariant.0 (edited_swapped edit c.self.inside.nodes.entries c.args.birth c.put_bytes.new.nodes.entries c.in_ok-put_bytes.ensures.ok)
          c.blocks_in-before.ensures c.blocks_in-after.ensures (edited_room edit (record { segments = c.self.inside.segments; nodes = c.self.inside.nodes.entries }) c.args.birth c.put_bytes.new.nodes.entries c.self.invariant.0.within asked c.in_ok-put_bytes.ensures.ok) c.with-self-inside.ensures,
      targets_after (edit) (cells_odd c.args.when c.args.off (cells_of c.args.bytes.now)) (record { segments = c.self.inside.segments; nodes = c.self.inside.nodes.entries }) c.args.birth c.put_bytes.new.nodes.entries c.self.invariant.1 c.in_ok-put_bytes.ensures.ok,
    )

pub returns-clause-ok : goal.returns-clause-ok
returns-clause-ok c =
    let edit = with_cells c.args.when c.args.off (cells_of c.args.bytes.now) in
    edited_is edit (record { segments = c.self.inside.segments; nodes = c.self.inside.nodes.entries }) c.args.birth c.put_bytes.new.nodes.entries c.in_ok-put_bytes.ensures.ok ∙ ap (λ t. edited t c.args.birth edit) c.self.view_is
