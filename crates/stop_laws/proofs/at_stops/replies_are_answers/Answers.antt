-- By the line over a disk from which the operation comes.
use Rattle.stop_laws.proofs.Deeds.{replies_are}
use Rattle.stop_laws.proofs.at_stops.replies_are_answers.Goals as goal

pub returns : goal.returns
returns c = record { answers = replies_are }
