use Rattle.script_definitions.proofs.SaidRead.{said_of_read}
use Rattle.script_definitions.proofs.laws.bytes_are_those_of_their_line.Goals as goal

pub returns : goal.returns
returns c = λ bytes s e. said_of_read bytes s e
