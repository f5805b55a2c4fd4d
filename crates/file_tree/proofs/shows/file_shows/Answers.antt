use Rattle.std.proofs.Common.{◌≡◌, ◌≤◌, true, Some, length, take, drop, sym, ◌∙◌, ap, arith, rules}
use Rattle.tree_definitions.specs.declared.node.Node.TheVariants.{File}
use Rattle.tree_definitions.specs.Tree.{node_at}
use Rattle.tree_definitions.specs.History.{cells_show}
use Rattle.file_tree.proofs.Showing.{shown_fits}
use Rattle.file_tree.proofs.shows.file_shows.Goals as goal

pub returns-then-off-len-clause-fits : goal.returns-then-off-len-clause-fits
returns-then-off-len-clause-fits c = λ h.
    let cells = c.in-Some-File.cells in
    let begins : c.args.off ≤ length cells = omega arith in
    let small : length cells ≤ 1114112 = omega arith in
    let shows : cells_show (take c.args.len (drop c.args.off cells)) c.args.bytes.now ≡ true = ap (λ cs. cells_show cs c.args.bytes.now) (sym c.shown.ensures) ∙ sym c.cells_show.ensures ∙ h in
    let found : node_at c.args.tree.now c.args.birth ≡ Some (File cells c.in-Some-File.field-0-1 c.in-Some-File.field-0-2) = first_of (search rules, cc) in
    shown_fits c.args.tree.now c.args.birth c.args.off c.args.len c.in-Some-File.field-0-1 c.in-Some-File.field-0-2 c.args.bytes.now cells found begins small shows
