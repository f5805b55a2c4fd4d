-- By induction on the computation.
use Rattle.plan_laws.proofs.Traces.{traced_is_at_hand, traces_follow_looks}
use Rattle.plan_laws.proofs.tracing.a_trace_is_of_the_looks_before_the_first_missing_one.Goals as goal

pub returns-clause-at_hand : goal.returns-clause-at_hand
returns-clause-at_hand c = traced_is_at_hand

pub returns-clause-looks : goal.returns-clause-looks
returns-clause-looks c = traces_follow_looks
