-- As the machine in it answers.
use Rattle.watched_hall.proofs.counted.CountedMachine.to_enter.Goals as goal

pub returns : goal.returns
returns g c = λ r at. c.to_enter.ensures r at.0
