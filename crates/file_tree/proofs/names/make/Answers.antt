use Rattle.std.proofs.Common.{◌≡◌, false, sym, ◌∙◌, subst}
use Rattle.tree_definitions.specs.declared.node.Node.TheVariants.{Dir}
use Rattle.tree_definitions.specs.Tree.{lacks_block}
use Rattle.tree_edits.specs.Counts.{blocks_of, HasRoom}
use Rattle.file_tree.proofs.Rooms.{bare_room, grown_room, put_room, put_there}
use Rattle.file_tree.proofs.names.make.Goals as goal

pub put-requires-clause-room : goal.put-requires-clause-room
put-requires-clause-room c = bare_room c.args.tree.now c.args.birth c.args.node c.lacks_block.ensures.within c.requires.bare

pub replace-requires-clause-there : goal.replace-requires-clause-there
replace-requires-clause-there c = put_there c.args.tree.now c.put.new.self c.args.birth c.in-Free.dir c.args.node _ c.in_ok-put-in-Free.ensures.ok c.in-Free.ensures.there.0

pub replace-requires-clause-room : goal.replace-requires-clause-room
replace-requires-clause-room c =
    let lacks : lacks_block c.args.tree.now c.in-Free.entries.now c.in-Free.blocks ≡ false = sym c.lacks_block.ensures.is ∙ c.if-lacks_block.false in
    let more = c.in_ok-entries-in-Free.entries in
    put_room c.args.tree.now c.put.new.self c.args.birth c.in-Free.dir c.args.node (blocks_of (Dir more c.grown-blocks.result)) c.requires.bare c.in_ok-put-in-Free.ensures.ok c.in_ok-put-in-Free.ensures.swapped
    (subst (λ n. HasRoom c.args.tree.now c.in-Free.dir (blocks_of (Dir more n))) (sym c.grown-blocks.ensures)
    (grown_room c.args.tree.now c.in-Free.dir c.in-Free.entries.now more c.in-Free.blocks c.lacks_block.ensures.within c.in-Free.ensures.there.0 lacks))
