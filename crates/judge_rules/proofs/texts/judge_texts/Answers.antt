-- A script that was read can be judged.
use Rattle.std.proofs.Common.{sym, subst}
use Rattle.judge_rules.specs.Scripts.{CanJudge}
use Rattle.judge_rules.proofs.Scripts.{read_can_be_judged}
use Rattle.judge_rules.proofs.texts.judge_texts.Goals as goal

pub judge-requires-clause-script : goal.judge-requires-clause-script
judge-requires-clause-script c = subst CanJudge (sym c.as_slice.ensures) (read_can_be_judged c.args.script.now c.in-Ok.script c.in-Ok.ensures.exact)
