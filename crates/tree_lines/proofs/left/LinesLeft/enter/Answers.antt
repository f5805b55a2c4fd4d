-- What lies above the next node's path is the same before and after; so the nodes lie below parts of the new text.
use Rattle.std.proofs.Common.{◌++◌, length, option_to_list, reverse, ap, subst}
use Rattle.tree_lines.specs.Waiting.{Keeps}
use Rattle.tree_lines.proofs.BelowLaws.{kept_below}
use Rattle.tree_lines.proofs.LeftLaws.{entered_nested, kept}
use Rattle.tree_lines.proofs.left.LinesLeft.enter.Goals as goal

pub returns-in-Some-clause-keeps : goal.returns-in-Some-clause-keeps
returns-in-Some-clause-keeps c =
    let w = c.self.inside in
    let nodes = option_to_list w.here ++ reverse w.left.items in
    subst (λ old. Keeps old (record { text = c.go_below.new.text.items; nodes = nodes })) c.self.view_is
    (kept nodes c.in-Some.here (reverse w.left.items) (length w.text.items) c.go_below.new.text.items w.text.items (ap (λ o. option_to_list o ++ reverse w.left.items) c.in-Some.is) c.self.invariant.0 c.go_below.ensures.kept)

pub invariant_of-self : goal.invariant_of-self
invariant_of-self c =
    let w = c.self.inside in
    let nodes = option_to_list w.here ++ reverse w.left.items in
    let is = ap (λ o. option_to_list o ++ reverse w.left.items) c.in-Some.is in (
      entered_nested nodes c.in-Some.here (reverse w.left.items) (length w.text.items) c.go_below.new.text.items is c.self.invariant.0 c.go_below.ensures.long,
      c.self.invariant.1,
      kept_below nodes c.in-Some.here (reverse w.left.items) (length w.text.items) c.go_below.new.text.items w.text.items is c.self.invariant.0 c.go_below.ensures.kept c.self.invariant.2,
    )
