use Rattle.script_definitions.proofs.SaidWritten.{said_of_line}
use Rattle.script_definitions.proofs.laws.lines_are_read_back.Goals as goal

pub returns : goal.returns
returns c = λ s h. said_of_line s h
