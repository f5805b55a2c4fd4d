use Rattle.script_definitions.proofs.JudgedLaws.{text_sound}
use Rattle.script_definitions.proofs.laws.what_is_read_is_in_the_grammar.Goals as goal

pub returns : goal.returns
returns c = λ bytes script e. text_sound bytes script e
