-- By what is at hand where it looks.
use Rattle.plan_laws.proofs.Deciding.{meets_where}
use Rattle.plan_laws.proofs.looks.what_is_at_hand_decides.Goals as goal

pub returns : goal.returns
returns c = record { met = meets_where }
