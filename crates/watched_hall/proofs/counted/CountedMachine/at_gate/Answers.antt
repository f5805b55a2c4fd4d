-- As the machine in it answers.
use Rattle.watched_hall.proofs.counted.CountedMachine.at_gate.Goals as goal

pub returns : goal.returns
returns g c = λ r at. c.at_gate.ensures r at.0
