-- Plan by plan.
use Rattle.plan_laws.proofs.Laws.{directories_stay}
use Rattle.plan_laws.proofs.moves.directories_stay.Goals as goal

pub returns : goal.returns
returns c = record { stay = directories_stay }
