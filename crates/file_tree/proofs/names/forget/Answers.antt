use Rattle.std.proofs.Common.{◌≡◌, ◌∙◌, ap}
use Rattle.tree_definitions.specs.Tree.{node_at}
use Rattle.tree_definitions.specs.Apply.{one_link_fewer}
use Rattle.tree_edits.specs.Edits.{edited, without_name}
use Rattle.file_tree.proofs.Rooms.{elsewhere_edited}
use Rattle.file_tree.proofs.Moves.{gone_is, apart_from_dir}
use Rattle.file_tree.proofs.names.forget.Goals as goal

pub returns : goal.returns
returns c =
    let tree = c.args.tree.now in
    let name = c.args.name.now in
    let apart = apart_from_dir tree name c.args.birth c.args.birth c.args.dir c.requires.there c.requires.no_dir in
    let stays : node_at (edited tree c.args.dir (without_name name)) c.args.birth ≡ node_at tree c.args.birth = elsewhere_edited tree c.args.dir c.args.birth (without_name name) apart in
    c.drop_link.ensures ∙ ap (λ t. one_link_fewer t c.args.birth (node_at t c.args.birth)) c.drop_name.ensures.is
    ∙ ap (one_link_fewer (edited tree c.args.dir (without_name name)) c.args.birth) stays
    ∙ ap (λ t. one_link_fewer t c.args.birth (node_at tree c.args.birth)) (gone_is tree c.args.dir name c.args.birth (node_at tree c.args.dir) c.requires.there)
