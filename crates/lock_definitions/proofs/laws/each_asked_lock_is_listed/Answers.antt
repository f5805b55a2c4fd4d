use Rattle.lock_definitions.proofs.Answers.{revokes_of}
use Rattle.lock_definitions.proofs.laws.each_asked_lock_is_listed.Goals as goal

pub returns : goal.returns
returns c = revokes_of
