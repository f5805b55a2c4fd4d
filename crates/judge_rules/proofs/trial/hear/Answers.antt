-- A transcript that is broken stays so.
use Rattle.std.proofs.Common.{◌+◌, sym, subst}
use Rattle.judge_rules.specs.Judging.{Hears}
use Rattle.judge_rules.proofs.Hearing.{still_broken}
use Rattle.judge_rules.proofs.trial.hear.Goals as goal

pub returns-in-Some : goal.returns-in-Some
returns-in-Some c = λ script segments granted saids place at count is hears.
    let h = c.args.hearing.now in
    subst (λ f. Hears script segments granted saids (place + 1) h.told h.tree.items f) (sym c.in-Some.is)
    (still_broken script segments granted saids place c.args.said.now h.told h.tree.items c.in-Some.field-0 at
    (subst (λ f. Hears script segments granted saids place h.told h.tree.items f) c.in-Some.is hears))
