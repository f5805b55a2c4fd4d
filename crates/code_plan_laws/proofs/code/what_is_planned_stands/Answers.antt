-- By what is met.
use Rattle.code_plan_laws.proofs.Standing.{planned_stands}
use Rattle.code_plan_laws.proofs.code.what_is_planned_stands.Goals as goal

pub returns : goal.returns
returns c = record { stands = planned_stands }
