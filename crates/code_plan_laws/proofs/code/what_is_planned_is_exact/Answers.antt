-- By what is met.
use Rattle.code_plan_laws.proofs.Exactly.{planned_exact}
use Rattle.code_plan_laws.proofs.code.what_is_planned_is_exact.Goals as goal

pub returns : goal.returns
returns c = record { exact = planned_exact }
