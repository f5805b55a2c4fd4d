use Rattle.script_definitions.proofs.SayableLines.{sayable_lines}
use Rattle.script_definitions.proofs.sayable.tree_lines_can_be_said.Goals as goal

pub returns : goal.returns
returns c = λ tree h. sayable_lines tree h
