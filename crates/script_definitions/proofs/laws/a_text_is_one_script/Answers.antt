use Rattle.script_definitions.proofs.JudgedLaws.{one_script}
use Rattle.script_definitions.proofs.laws.a_text_is_one_script.Goals as goal

pub returns : goal.returns
returns c = λ bytes s t h k. one_script bytes s t h k
