use Rattle.script_definitions.proofs.SaidWritten.{one_line}
use Rattle.script_definitions.proofs.laws.no_two_lines_have_the_same_bytes.Goals as goal

pub returns : goal.returns
returns c = λ s t h k e. one_line s t h k e
