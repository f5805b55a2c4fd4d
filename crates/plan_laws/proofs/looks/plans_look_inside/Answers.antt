-- By operations.
use Rattle.plan_laws.proofs.AllInside.{all_inside}
use Rattle.plan_laws.proofs.looks.plans_look_inside.Goals as goal

pub returns : goal.returns
returns c = record { inside = all_inside }
