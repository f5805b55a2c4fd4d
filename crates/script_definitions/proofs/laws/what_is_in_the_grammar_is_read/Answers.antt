use Rattle.script_definitions.proofs.JudgedLaws.{text_complete}
use Rattle.script_definitions.proofs.laws.what_is_in_the_grammar_is_read.Goals as goal

pub returns : goal.returns
returns c = λ bytes script h. text_complete bytes script h
