-- The law.
use Rattle.kept_laws.proofs.Legal.{moments_legal, stops_legal}
use Rattle.kept_laws.proofs.laws.histories_are_legal.Goals as goal

pub returns : goal.returns
returns c = record { moments = moments_legal; stops = stops_legal }
