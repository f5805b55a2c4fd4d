-- What the entry changed is looked for in the rest, from the tree after it on; one that isn't answered so changed nothing.
use Rattle.std.proofs.Common.{◌≡◌, IfOk, sym, subst, ◌∙◌}
use Rattle.tree_definitions.specs.History.{Stays, after, applied, is_answer}
use Rattle.history_rules.proofs.Seeing.{answered_seen, none_answered, some_answered, unanswered_unseen}
use Rattle.history_rules.proofs.known.is_seen.Goals as goal

pub returns-in_ok-take-in-Some : goal.returns-in_ok-take-in-Some
returns-in_ok-take-in-Some c =
    let tree = c.args.tree.now in
    let e = c.args.entry.now in
    let is = some_answered (is_answer tree e) (applied tree e).tree c.in-Some.next (sym c.in-Some.is ∙ c.in_ok-next.ensures) in
    let next : c.take-in-Some.new.tree ≡ after tree (Stays e) = cc (c.in_ok-take-in-Some.ensures, c.in_ok-after-in-Some.ensures, c.stays.ensures) in
    subst (λ b. IfOk c.is_seen_by.result (λ it. it ≡ b)) (answered_seen tree e c.args.rest.now c.in-Some.next c.take-in-Some.new.tree is.0 is.1 next) c.is_seen_by.ensures

pub returns-in-None : goal.returns-in-None
returns-in-None c =
    let tree = c.args.tree.now in
    let e = c.args.entry.now in
    unanswered_unseen tree e c.args.rest.now (none_answered (is_answer tree e) (applied tree e).tree (sym c.in-None.is ∙ c.in_ok-next.ensures))
