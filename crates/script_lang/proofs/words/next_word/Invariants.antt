-- The words of what is left are those of the text.
use Rattle.std.proofs.Common.{◌≡◌, length}
use Rattle.std.specs.Option.{option_copied}
use Rattle.script_definitions.specs.ScriptWords.{words_of}
use Rattle.script_lang.specs.Words.{words_left, blank_parts}
use Rattle.script_lang.proofs.words.next_word.Given as goal

abbrev pub invariant-loop-rest : goal.invariant-loop-rest
invariant-loop-rest l = words_left (option_copied l.rest) ≡ words_of l.fn.text

abbrev pub decreases-loop-rest : goal.decreases-loop-rest
decreases-loop-rest l = length (blank_parts (option_copied l.rest))
