-- Plan by plan.
use Rattle.plan_laws.proofs.Laws.{moves_are_owned}
use Rattle.plan_laws.proofs.moves.moves_are_owned.Goals as goal

pub returns : goal.returns
returns c = record { owned = moves_are_owned }
