use Rattle.std.proofs.Common.{◌≡◌, sym, refl, ◌∙◌, ap, subst, Some, IsSome}
use Rattle.tree_definitions.specs.declared.node.Node.TheVariants.{Dir}
use Rattle.tree_definitions.specs.Entries.{entry_at}
use Rattle.tree_definitions.specs.Tree.{with_node}
use Rattle.file_tree.specs.Named.{HasEntry}
use Rattle.file_tree.proofs.Rooms.{same_room}
use Rattle.file_tree.proofs.Moves.{moved_within_is}
use Rattle.file_tree.proofs.rename.moved_within.Goals as goal

pub with_other_name-requires : goal.with_other_name-requires
with_other_name-requires c =
    let has : entry_at c.dir_at-held.result.entries.now c.args.what.now.name.now ≡ Some c.args.what.now.birth = subst (HasEntry c.args.what.now.name.now c.args.what.now.birth) c.dir_at-held.ensures.is c.requires in
    subst IsSome (sym has) refl

pub replace-requires-clause-room : goal.replace-requires-clause-room
replace-requires-clause-room c =
    let held = c.dir_at-held.result in
    same_room c.args.tree.now c.args.what.now.dir (Dir held.entries.now held.blocks) (Dir c.in_ok-entries.entries held.blocks) c.dir_at-held.ensures.within c.dir_at-held.ensures.is refl

pub returns-clause-ok : goal.returns-clause-ok
returns-clause-ok c =
    let tree = c.args.tree.now in
    let what = c.args.what.now in
    let held = c.dir_at-held.result in
    c.replace.ensures ∙ ap (λ entries. with_node tree what.dir (Dir entries held.blocks)) c.in_ok-entries.ensures
    ∙ moved_within_is tree what.dir what.name.now c.args.new.now what.birth held.entries.now held.blocks c.dir_at-held.ensures.is
