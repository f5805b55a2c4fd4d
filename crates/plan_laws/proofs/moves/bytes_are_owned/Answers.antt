-- Plan by plan.
use Rattle.plan_laws.proofs.Laws.{bytes_are_owned}
use Rattle.plan_laws.proofs.moves.bytes_are_owned.Goals as goal

pub returns : goal.returns
returns c = record { owned = bytes_are_owned }
