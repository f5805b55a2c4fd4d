-- What is left of a line, and what needs no more of it.
use Rattle.std.specs.Prelude.{ℕ, List, [], Option, Some, None, Result, Ok}
use Rattle.std.specs.List.{slice_split}
use Rattle.frang_base.specs.declared.op.Op.{Op}
use Rattle.script_definitions.specs.ScriptFaults.{◌>>=◌}
use Rattle.script_definitions.specs.ScriptWords.{is_blank, words_of, no_words}
use Rattle.script_definitions.specs.declared.fault.LineFault.{LineFault}

-- the parts between blanks of a text that is left, if one is
abbrev pub blank_parts : Option (List ℕ) → List (List ℕ)
blank_parts None = []
blank_parts (Some text) = slice_split is_blank text

-- its words
abbrev pub words_left : Option (List ℕ) → List (List ℕ)
words_left None = []
words_left (Some text) = words_of text

-- this, if no words are left
abbrev pub alone : Op → List (List ℕ) → Result Op LineFault
alone o words = no_words words >>= λ u. Ok o
