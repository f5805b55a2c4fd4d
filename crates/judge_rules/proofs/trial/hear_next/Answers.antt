-- The next line goes on with the transcript, or breaks it.
use Rattle.std.proofs.Common.{◌≡◌, ◌+◌, None, is_none, sym, ◌∙◌, ap, subst}
use Rattle.judge_rules.specs.Judging.{Hears, Tests, first_of, tree_for}
use Rattle.judge_rules.proofs.Hearing.{next_heard, none_is}
use Rattle.judge_rules.proofs.trial.hear_next.Goals as goal

pub returns : goal.returns
returns c = λ script segments granted saids place at count is hears.
    let old = c.args.hearing.now in
    let now = c.args.settling.now in
    let x = c.args.said.now in
    let tree = c.ready_lines.new.tree.items in
    let new = c.breach_of.new.told in
    let found = c.in_ok-breach.breach in
    let sure = subst (λ f. Hears script segments granted saids place old.told old.tree.items f) c.requires.sound hears in
    let lines : tree ≡ tree_for now old.tree.items x = c.in_ok-ready_lines.ensures in
    let holds : c.is_none.result ≡ is_none found = none_is found c.is_none.result c.is_none.ensures in
    let first : c.first_of-first.result ≡ first_of None (is_none found) c.args.number = c.first_of-first.ensures ∙ ap (λ b. first_of None b c.args.number) holds in
    subst (λ f. Hears script segments granted saids (place + 1) new tree f) (sym first)
    (subst (λ ls. Hears script segments granted saids (place + 1) new ls (first_of None (is_none found) c.args.number)) (sym lines)
    (next_heard script segments granted saids place x now old.told new old.tree.items (is_none found) c.args.number at count is sure
    (subst (λ ls. Tests old.told new ls (is_none found)) (c.deref.ensures.value ∙ lines) c.in_ok-breach.ensures)))
