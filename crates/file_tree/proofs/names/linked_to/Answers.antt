use Rattle.std.proofs.Common.{◌≡◌, false, sym, ◌∙◌, ap, subst, refl, IsSome}
use Rattle.tree_definitions.specs.declared.node.Node.TheVariants.{Dir}
use Rattle.tree_definitions.specs.Tree.{node_at, lacks_block}
use Rattle.tree_edits.specs.Counts.{blocks_of, HasRoom}
use Rattle.tree_edits.specs.Edits.{with_links}
use Rattle.file_tree.proofs.Rooms.{grown_room, links_room, elsewhere_edited, no_dir}
use Rattle.file_tree.proofs.names.linked_to.Goals as goal

pub replace-requires-clause-there : goal.replace-requires-clause-there
replace-requires-clause-there c =
    let apart = no_dir c.args.tree.now c.args.birth c.in-Free.dir c.in-Free.entries.now c.in-Free.blocks c.in-Free.ensures.there.0 c.requires in
    let found = ap (λ t. node_at t c.in-Free.dir) c.set_links.ensures.is ∙ elsewhere_edited c.args.tree.now c.args.birth c.in-Free.dir (with_links _) apart ∙ c.in-Free.ensures.there.0 in
    subst IsSome (sym found) refl

pub replace-requires-clause-room : goal.replace-requires-clause-room
replace-requires-clause-room c =
    let apart = no_dir c.args.tree.now c.args.birth c.in-Free.dir c.in-Free.entries.now c.in-Free.blocks c.in-Free.ensures.there.0 c.requires in
    let lacks : lacks_block c.args.tree.now c.in-Free.entries.now c.in-Free.blocks ≡ false = sym c.lacks_block.ensures.is ∙ c.if-lacks_block.false in
    let more = c.in_ok-entries-in-Free.entries in
    links_room c.args.tree.now c.set_links.new.self c.args.birth c.in-Free.dir _ (blocks_of (Dir more c.grown-blocks.result)) c.set_links.ensures.is c.set_links.ensures.swapped apart
    (subst (λ n. HasRoom c.args.tree.now c.in-Free.dir (blocks_of (Dir more n))) (sym c.grown-blocks.ensures)
    (grown_room c.args.tree.now c.in-Free.dir c.in-Free.entries.now more c.in-Free.blocks c.lacks_block.ensures.within c.in-Free.ensures.there.0 lacks))
