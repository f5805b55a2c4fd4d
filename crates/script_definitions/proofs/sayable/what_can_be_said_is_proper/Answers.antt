use Rattle.script_definitions.proofs.SayableLines.{proper_path, proper_node, proper_answer}
use Rattle.script_definitions.proofs.sayable.what_can_be_said_is_proper.Goals as goal

pub returns-clause-node : goal.returns-clause-node
returns-clause-node c = λ path kind size links h s l. proper_node path kind size links h s l

pub returns-clause-answer : goal.returns-clause-answer
returns-clause-answer c = λ server line r w l h k. proper_answer server line r w l h k

pub returns-clause-path : goal.returns-clause-path
returns-clause-path c = λ names h. proper_path names h
