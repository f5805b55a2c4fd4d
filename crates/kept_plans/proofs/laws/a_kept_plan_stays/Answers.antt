-- Whatever the server's other parts are.
use Rattle.kept_plans.proofs.Keeping.{beside_same}
use Rattle.kept_plans.proofs.laws.a_kept_plan_stays.Goals as goal

pub returns : goal.returns
returns c = record { kept = beside_same }
