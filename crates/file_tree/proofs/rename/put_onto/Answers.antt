use Rattle.std.proofs.Common.{◌≡◌, sym, ◌∙◌, ap, subst, IfSome}
use Rattle.tree_definitions.specs.Tree.{node_at}
use Rattle.tree_definitions.specs.Apply.{one_link_fewer}
use Rattle.tree_edits.specs.Edits.{edited, without_name, with_name, Names}
use Rattle.file_tree.proofs.Rooms.{elsewhere_edited}
use Rattle.file_tree.proofs.Moves.{still_named, names_it, moved_is, apart_from_empty}
use Rattle.file_tree.proofs.rename.put_onto.Goals as goal

pub set_name-requires : goal.set_name-requires
set_name-requires c =
    let tree = c.args.tree.now in
    let what = c.args.what.now in
    let onto = c.args.onto.now in
    subst (λ t. IfSome (node_at t onto.dir) (Names onto.name.now)) (sym c.drop_name.ensures.is)
    (names_it onto.name.now onto.birth (node_at (edited tree what.dir (without_name what.name.now)) onto.dir) (still_named tree what.dir onto.dir what.name.now onto.name.now what.birth onto.birth c.requires.others c.requires.what c.requires.onto))

pub returns : goal.returns
returns c =
    let tree = c.args.tree.now in
    let what = c.args.what.now in
    let onto = c.args.onto.now in
    let first = edited tree what.dir (without_name what.name.now) in
    let second = edited first onto.dir (with_name onto.name.now what.birth) in
    let is = c.set_name.ensures ∙ ap (λ t. edited t onto.dir (with_name onto.name.now what.birth)) c.drop_name.ensures.is in
    let apart = apart_from_empty tree what.name.now what.birth what.dir onto.birth c.requires.what c.requires.empty in
    let apart_onto = apart_from_empty tree onto.name.now onto.birth onto.dir onto.birth c.requires.onto c.requires.empty in
    let stays : node_at second onto.birth ≡ node_at tree onto.birth
    = elsewhere_edited first onto.dir onto.birth (with_name onto.name.now what.birth) apart_onto ∙ elsewhere_edited tree what.dir onto.birth (without_name what.name.now) apart in
    c.drop_link.ensures ∙ ap (λ t. one_link_fewer t onto.birth (node_at t onto.birth)) is
    ∙ ap (one_link_fewer second onto.birth) stays
    ∙ ap (λ t. one_link_fewer t onto.birth (node_at tree onto.birth)) (moved_is tree what.dir onto.dir what.name.now onto.name.now what.birth onto.birth c.requires.others c.requires.what c.requires.onto)
