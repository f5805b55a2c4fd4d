use Rattle.lock_definitions.proofs.Answers.{wanted_alike, asked_alike, logs_alike}
use Rattle.lock_definitions.proofs.laws.same_locks_answer_alike.Goals as goal

pub returns : goal.returns
returns c = record { held = λ a b same. same.held; wanted = wanted_alike; asked = asked_alike; logs = logs_alike }
