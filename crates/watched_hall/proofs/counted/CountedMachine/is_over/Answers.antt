-- As the machine in it answers.
use Rattle.watched_hall.proofs.counted.CountedMachine.is_over.Goals as goal

pub returns : goal.returns
returns g c = λ r at. c.is_over.ensures r at.0
