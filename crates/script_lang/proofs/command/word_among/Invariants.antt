-- The words that are left have the text where all words have it.
use Rattle.std.proofs.Common.{◌≡◌, drop}
use Rattle.script_definitions.specs.ScriptWords.{word_among}
use Rattle.script_lang.proofs.command.word_among.Given as goal

abbrev pub invariant-loop-word : goal.invariant-loop-word
invariant-loop-word l = word_among (drop l.word-index l.words) l.text ≡ word_among l.words l.text
