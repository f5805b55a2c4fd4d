-- The next line may be said, or not.
use Rattle.judge_rules.proofs.trial.breach_of.Goals as goal

pub returns-then-branch : goal.returns-then-branch
returns-then-branch c = record {
  goes = λ good. c.in_ok-step.ensures.yes c.if-branch.true;
  may = λ opening tree good. c.in_ok-step.ensures.may opening tree c.if-branch.true;
  never = λ opening tree bad. cc;
}

pub returns : goal.returns
returns c = record {
  goes = λ good. cc;
  may = λ opening tree good. cc;
  never = λ opening tree bad. c.in_ok-step.ensures.never opening tree c.if-branch.false;
}
