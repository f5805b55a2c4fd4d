-- The entries of the next node, put above those that were left, stand in its place.
use Rattle.std.proofs.Common.{◌≡◌, ◌-◌, ◌∷◌, ◌++◌, length, option_to_list, reverse, sym, ◌∙◌, ap, subst, arith, rules}
use Rattle.tree_lines.specs.Waiting.{AreBelow, AreNested, IsPathOf, children, opened}
use Rattle.tree_lines.proofs.BelowLaws.{opened_below}
use Rattle.tree_lines.proofs.LeftLaws.{opened_nested, put}
use Rattle.tree_lines.proofs.left.LinesLeft.open.Goals as goal

pub invariant_of-self-2 : goal.invariant_of-self-2
invariant_of-self-2 c =
    let w = c.self.inside in
    let text = w.text.items in
    let l = c.in-Some.here in
    let es = c.args.entries.now in
    let long : c.len.result ≡ length text = first_of (search rules, grind (arith, rules), cc) in
    let last = c.pop-self-inside.result in
    let new = c.pop-self-inside.new.self.items in
    let is : option_to_list last ++ reverse new ≡ opened text (l ∷ reverse w.left.items) es
    = put text l es w.left.items c.in_ok-more.more.items c.append.new.self.items new last (c.in_ok-more.ensures.are ∙ ap (λ n. reverse (children n (l.depth - 1) es)) long) c.in_ok-append.ensures.items c.pop-self-inside.ensures.items in
    let before : AreNested (length text) (l ∷ reverse w.left.items) = subst (λ o. AreNested (length text) (option_to_list o ++ reverse w.left.items)) c.in-Some.is c.self.invariant.0 in
    let path = subst (λ o. IsPathOf text (option_to_list o ++ reverse w.left.items)) c.in-Some.is (subst (λ s. IsPathOf s.text s.nodes) (sym c.self.view_is) c.requires.at.0) in
    let below = subst (λ o. AreBelow text (option_to_list o ++ reverse w.left.items)) c.in-Some.is c.self.invariant.2 in (
      subst (AreNested (length text)) (sym is) (opened_nested text (l ∷ reverse w.left.items) es before),
      λ none. search rules,
      subst (AreBelow text) (sym is) (opened_below text l (reverse w.left.items) es path c.in_ok-more.ensures.named below),
    )

pub returns-clause-nodes : goal.returns-clause-nodes
returns-clause-nodes c =
    let w = c.self.inside in
    let text = w.text.items in
    let l = c.in-Some.here in
    let es = c.args.entries.now in
    let long : c.len.result ≡ length text = first_of (search rules, grind (arith, rules), cc) in
    put text l es w.left.items c.in_ok-more.more.items c.append.new.self.items c.pop-self-inside.new.self.items c.pop-self-inside.result (c.in_ok-more.ensures.are ∙ ap (λ n. reverse (children n (l.depth - 1) es)) long) c.in_ok-append.ensures.items c.pop-self-inside.ensures.items
    ∙ ap (λ o. opened text (option_to_list o ++ reverse w.left.items) es) (sym c.in-Some.is) ∙ ap (λ s. opened s.text s.nodes es) c.self.view_is
