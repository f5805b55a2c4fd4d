-- Scripts as texts: lines, each of them skipped or a command, and the first bad line.
use Rattle.std.specs.Prelude.{ℕ, ◌+◌, Bool, false, not, ◌&&◌, ◌||◌, ◌==◌, if◌then◌else◌, nat_lt, List, [], ◌∷◌, length, Option, Some, None, Result, Ok, Err}
use Rattle.std.specs.List.{list_any}
use Rattle.std.specs.Str.{is_utf8}
use Rattle.std.specs.Str.Lines.{lines}
use Rattle.frang_base.specs.declared.limits.TheConstants.{SCRIPT_BYTES_MAX, SCRIPT_LINES_MAX}
use Rattle.frang_base.specs.declared.script.Line.{Line}
use Rattle.tree_definitions.specs.Transcript.{is_halt}
use Rattle.script_definitions.specs.ScriptFaults.{kind_of, ◌>>=◌}
use Rattle.script_definitions.specs.ScriptWords.{words_of, asked_of}
use Rattle.script_definitions.specs.declared.asked.Asked.{Asked}
use Rattle.script_definitions.specs.declared.fault.LineFault.{LineFault}
use Rattle.script_definitions.specs.declared.fault.LineFault.TheVariants as fault
use Rattle.script_definitions.specs.declared.fault.ScriptFault.{ScriptFault}

-- a byte that no word may have: below the space, or the delete byte
abbrev pub is_control : ℕ → Bool
is_control b = nat_lt b 32 || b == 127

-- UTF-8, without such a byte in a word
abbrev pub is_text : List ℕ → Bool
is_text line = is_utf8 line && not (list_any (λ word. list_any is_control word) (words_of line))

-- the first byte is `#`
abbrev pub is_comment : List ℕ → Bool
is_comment [] = false
is_comment (b ∷ line) = b == 35

-- a line that is skipped: a comment, or one without words
abbrev pub is_skipped : List ℕ → Bool
is_skipped line = is_comment line || (length (words_of line) == 0)

-- after `halt` or not: nothing, where the line is skipped, or what it asks, or its first fault
abbrev pub judged : Bool → List ℕ → Result (Option Asked) LineFault
judged halted line =
    if is_skipped line then Ok None
    else (if not (is_text line) then Err fault.NotText
    else (if halted then Err fault.AfterHalt
    else asked_of (words_of line) >>= λ asked. Ok (Some asked)))

-- a line of the script before the others
abbrev pub with_line : Line → Result (List Line) ScriptFault → Result (List Line) ScriptFault
with_line line (Ok script) = Ok (line ∷ script)
with_line line (Err f) = Err f

abbrev pub fault_at : ℕ → LineFault → ScriptFault
fault_at number f = record { line = number; kind = kind_of f }

-- the fault with the number of its line
abbrev pub numbered : {A : Type 0} → ℕ → Result A LineFault → Result A ScriptFault
numbered number (Ok x) = Ok x
numbered number (Err f) = Err (fault_at number f)

-- a judged line, and what follows it after `halt` or not
abbrev pub after_line : ℕ → Bool → Result (Option Asked) ScriptFault → (Bool → Result (List Line) ScriptFault) → Result (List Line) ScriptFault
after_line number halted (Err f) rest = Err f
after_line number halted (Ok None) rest = rest halted
after_line number halted (Ok (Some asked)) rest = with_line (record { number = number; who = asked.who; what = asked.what }) (rest (halted || is_halt asked.what))

-- the script of these lines, of which the first has this number, or its first bad line
abbrev pub script_from : ℕ → Bool → List (List ℕ) → Result (List Line) ScriptFault
script_from number halted [] = Ok []
script_from number halted (line ∷ lines) =
    if nat_lt SCRIPT_LINES_MAX number then Err (fault_at number fault.TooManyLines)
    else after_line number halted (numbered number (judged halted line)) (λ h. script_from (number + 1) h lines)

-- the script of these bytes, or its first bad line
abbrev pub script_of : List ℕ → Result (List Line) ScriptFault
script_of bytes = if nat_lt SCRIPT_BYTES_MAX (length bytes) then Err (fault_at 0 fault.ScriptTooLong) else script_from 1 false (lines bytes)
