-- By the tree after the entry's operation, if there is one.
use Rattle.std.proofs.Common.{◌∙◌, sym}
use Rattle.std.specs.List.{list_any}
use Rattle.tree_definitions.specs.Tree.{FileTree}
use Rattle.tree_definitions.specs.History.{applied, is_answer}
use Rattle.tree_definitions.specs.Touched.{births, differs, shape_of}
use Rattle.tree_model.proofs.Answering.{told_of_next, told_of_none}
use Rattle.tree_model.proofs.touch.changes_shape.Goals as goal

pub returns-in-Some : goal.returns-in-Some
returns-in-Some c =
    let tree = c.args.tree.now in
    let e = c.args.entry.now in
    c.differ_in_shape.ensures
    ∙ told_of_next (is_answer tree e) (applied tree e).tree c.in-Some.next (λ (t : FileTree). list_any (differs (shape_of tree) (shape_of t)) (births tree t)) (sym c.in-Some.is ∙ c.in_ok-next.ensures)

pub returns-in-None : goal.returns-in-None
returns-in-None c =
    let tree = c.args.tree.now in
    let e = c.args.entry.now in
    told_of_none (is_answer tree e) (applied tree e).tree (λ (t : FileTree). list_any (differs (shape_of tree) (shape_of t)) (births tree t)) (sym c.in-None.is ∙ c.in_ok-next.ensures)
