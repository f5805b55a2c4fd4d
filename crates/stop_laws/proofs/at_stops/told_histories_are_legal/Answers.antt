-- By the law.
use Rattle.stop_laws.proofs.Legal.{told_histories_are_legal}
use Rattle.stop_laws.proofs.at_stops.told_histories_are_legal.Goals as goal

pub returns : goal.returns
returns c = record { legal = told_histories_are_legal }
