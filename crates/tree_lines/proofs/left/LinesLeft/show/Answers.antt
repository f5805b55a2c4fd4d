-- The text is made that of the node's path, and its entries are put into its place.
use Rattle.std.proofs.Common.{◌++◌, ◌∙◌, option_to_list, reverse, ap, subst, sym}
use Rattle.std.specs.Prelude.{IsSome}
use Rattle.tree_definitions.specs.TreeLines.{path_text}
use Rattle.tree_lines.specs.Below.{is_below}
use Rattle.tree_lines.specs.Waiting.{IsPathOf, next_birth}
use Rattle.tree_lines.proofs.BelowLaws.{here_below}
use Rattle.tree_lines.proofs.LeftLaws.{says_step}
use Rattle.tree_lines.proofs.left.LinesLeft.show.Goals as goal

pub path_text-requires : goal.path_text-requires
path_text-requires c =
    let w = c.self.inside in
    let nodes = option_to_list w.here ++ reverse w.left.items in
    let some : IsSome (next_birth nodes) = subst IsSome (sym (ap (λ s. next_birth s.nodes) c.self.view_is ∙ ap next_birth c.enter.ensures.keeps.nodes)) c.requires in
    let path : IsPathOf w.text.items nodes = subst (λ s. IsPathOf s.text s.nodes) (sym c.self.view_is) c.in_ok-enter.ensures.at.0 in
    ap is_below c.deref.ensures.value ∙ here_below w.text.items nodes some path c.self.invariant.2

pub returns-clause-ok : goal.returns-clause-ok
returns-clause-ok c =
    says_step c.args.self.now c.enter.new.self c.open.new.self (record { kind = c.args.kind; size = c.args.size; links = c.args.links; entries = c.args.entries.now }) c.in_ok-path.path
    c.enter.ensures.keeps c.in_ok-enter.ensures.at (c.in_ok-path.ensures.is ∙ ap path_text c.deref.ensures.value ∙ ap (λ s. path_text s.text) c.self.view_is) c.in_ok-open.ensures.text c.in_ok-open.ensures.nodes
