use Rattle.std.proofs.Common.{◌≡◌, ℕ, false, sym, refl, ◌∙◌, ap, subst, Some, IfSome, IsSome, arith, rules, ne_eqb}
use Rattle.std.proofs.lemmas.Bool.Decides.{nat_tests}
use Rattle.tree_definitions.specs.declared.node.Node.TheVariants.{Dir}
use Rattle.tree_definitions.specs.Entries.{Entries, with_entry}
use Rattle.tree_definitions.specs.Tree.{node_at, with_node, lacks_block, entries_full}
use Rattle.tree_definitions.specs.Apply.{moved, moved_to, room_made}
use Rattle.tree_edits.specs.Counts.{blocks_of, HasRoom}
use Rattle.tree_edits.specs.Edits.{edited, with_blocks, without_name}
use Rattle.file_tree.proofs.Rooms.{grown_room, same_room}
use Rattle.file_tree.proofs.Moves.{has_entry, room_and_gone, across_is, moved_to_is}
use Rattle.file_tree.proofs.rename.moved_to.Goals as goal

pub set_blocks-requires : goal.set_blocks-requires
set_blocks-requires c =
    let tree = c.args.tree.now in
    let held = c.dir_at-held.result in
    let lacks : lacks_block tree held.entries.now held.blocks ≡ false = sym c.lacks_block.ensures.is ∙ c.if-lacks_block.false in
    subst (λ o. IfSome o (λ node. HasRoom tree c.args.to (blocks_of (with_blocks c.grown-blocks.result node)))) (sym c.dir_at-held.ensures.is)
    (subst (λ n. HasRoom tree c.args.to (blocks_of (Dir held.entries.now n))) (sym c.grown-blocks.ensures) (grown_room tree c.args.to held.entries.now held.entries.now held.blocks c.lacks_block.ensures.within c.dir_at-held.ensures.is lacks))

pub replace-requires-clause-there : goal.replace-requires-clause-there
replace-requires-clause-there c =
    let what = c.args.what.now in
    let held = c.dir_at-held.result in
    let is = c.drop_name.ensures.is ∙ ap (λ t. edited t what.dir (without_name what.name.now)) c.set_blocks.ensures.is in
    let found = ap (λ t. node_at t c.args.to) is ∙ room_and_gone c.args.tree.now what.dir c.args.to what.name.now held.entries.now held.blocks c.grown-blocks.result c.if-what-to.false c.dir_at-held.ensures.is in
    subst IsSome (sym found) refl

pub replace-requires-clause-room : goal.replace-requires-clause-room
replace-requires-clause-room c =
    let what = c.args.what.now in
    let held = c.dir_at-held.result in
    let is = c.drop_name.ensures.is ∙ ap (λ t. edited t what.dir (without_name what.name.now)) c.set_blocks.ensures.is in
    let found = ap (λ t. node_at t c.args.to) is ∙ room_and_gone c.args.tree.now what.dir c.args.to what.name.now held.entries.now held.blocks c.grown-blocks.result c.if-what-to.false c.dir_at-held.ensures.is in
    same_room c.drop_name.new.self c.args.to (Dir held.entries.now c.grown-blocks.result) (Dir c.in_ok-entries.entries c.grown-blocks.result) c.drop_name.ensures.within found refl

pub returns-clause-ok : goal.returns-clause-ok
returns-clause-ok c = λ entries blocks found.
    let tree = c.args.tree.now in
    let what = c.args.what.now in
    let held = c.dir_at-held.result in
    let same : Some (Dir entries blocks) ≡ Some (Dir held.entries.now held.blocks) = sym found ∙ c.dir_at-held.ensures.is in
    let same_entries : entries ≡ held.entries.now = cc in
    let same_blocks : blocks ≡ held.blocks = cc in
    let lacks : lacks_block tree held.entries.now held.blocks ≡ false = sym c.lacks_block.ensures.is ∙ c.if-lacks_block.false in
    let full : entries_full held.entries.now ≡ false = first_of (search rules, grind (arith, nat_tests, c.len.ensures.len), cc) in
    let own = has_entry what.name.now what.birth (node_at tree what.dir) c.requires.what in
    let steps = λ (es : Entries) (n : ℕ). with_node (edited (edited tree c.args.to (with_blocks n)) what.dir (without_name what.name.now)) c.args.to (Dir es n) in
    let is = c.drop_name.ensures.is ∙ ap (λ t. edited t what.dir (without_name what.name.now)) c.set_blocks.ensures.is in
    let after : c.replace.new.self ≡ moved (room_made tree c.args.to held.entries.now held.blocks) what.dir what.name.now c.args.to c.args.new.now what.birth
    = c.replace.ensures ∙ ap (λ t. with_node t c.args.to (Dir c.in_ok-entries.entries c.grown-blocks.result)) is
    ∙ ap (λ es. steps es c.grown-blocks.result) c.in_ok-entries.ensures ∙ ap (steps (with_entry held.entries.now c.args.new.now what.birth)) c.grown-blocks.ensures
    ∙ across_is tree what.dir c.args.to what.name.now c.args.new.now what.birth own.0 held.entries.now own.1 held.blocks c.if-what-to.false own.2 c.dir_at-held.ensures.is in
    ap (λ es. moved_to tree what.dir what.name.now what.birth c.args.to es blocks c.args.new.now) same_entries
    ∙ ap (λ n. moved_to tree what.dir what.name.now what.birth c.args.to held.entries.now n c.args.new.now) same_blocks
    ∙ moved_to_is tree c.replace.new.self what.dir what.name.now what.birth c.args.to held.entries.now held.blocks c.args.new.now (ne_eqb what.dir c.args.to c.if-what-to.false) full lacks after
