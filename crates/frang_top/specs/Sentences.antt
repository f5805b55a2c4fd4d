-- What a status means, in words.
use Rattle.std.specs.Prelude.{ℕ, ◌-◌, ◌==◌, if◌then◌else◌, Option, Some, None, List, ◌++◌, codes}
use Rattle.std.specs.Fmt.{decimal}
use Rattle.frang_base.specs.declared.limits.TheConstants.{SCRIPT_BYTES_MAX, SCRIPT_LINES_MAX, SERVERS, TARGET_BYTES_MAX, WRITE_BYTES_MAX}
use Rattle.script_definitions.specs.ScriptFaults.{kind_of}
use Rattle.image_commands.specs.Sentences.{fault_sentence}
use Rattle.script_definitions.specs.declared.fault.LineFault.{LineFault}
use Rattle.script_definitions.specs.declared.fault.LineFault.TheVariants as fault
use Rattle.frang_top.specs.declared.outcome.Status.{Status}

-- the fault whose kind has this number
abbrev pub fault_with : ℕ → Option LineFault
fault_with kind =
    if kind == kind_of fault.NotText then Some fault.NotText
    else (if kind == kind_of fault.UnknownWord then Some fault.UnknownWord
    else (if kind == kind_of fault.MissingWord then Some fault.MissingWord
    else (if kind == kind_of fault.ExtraWord then Some fault.ExtraWord
    else (if kind == kind_of fault.BadNumber then Some fault.BadNumber
    else (if kind == kind_of fault.BadPath then Some fault.BadPath
    else (if kind == kind_of fault.BadServer then Some fault.BadServer
    else (if kind == kind_of fault.TooManyLines then Some fault.TooManyLines
    else (if kind == kind_of fault.ScriptTooLong then Some fault.ScriptTooLong
    else (if kind == kind_of fault.TextTooLong then Some fault.TextTooLong
    else (if kind == kind_of fault.AfterHalt then Some fault.AfterHalt
    else None))))))))))

abbrev pub fault_words : LineFault → List ℕ
fault_words fault.NotText = codes "not UTF-8, or a word with a control character"
fault_words fault.UnknownWord = codes "an unknown word where a command must stand"
fault_words fault.MissingWord = codes "a word is missing"
fault_words fault.ExtraWord = codes "a word too many"
fault_words fault.BadNumber = codes "not a number, or out of range"
fault_words fault.BadPath = codes "not a path"
fault_words fault.BadServer = codes "not a server, which are 0 to " ++ decimal (SERVERS - 1)
fault_words fault.TooManyLines = codes "more than " ++ (decimal SCRIPT_LINES_MAX ++ codes " lines")
fault_words fault.ScriptTooLong = codes "more than " ++ (decimal SCRIPT_BYTES_MAX ++ codes " bytes")
fault_words fault.TextTooLong = codes "a text of more than " ++ (decimal WRITE_BYTES_MAX ++ (codes " bytes, or a target of more than " ++ decimal TARGET_BYTES_MAX))
fault_words fault.AfterHalt = codes "a command after halt"

abbrev pub words_for : Option LineFault → List ℕ
words_for (Some f) = fault_words f
words_for None = codes "an unknown fault"

-- the words for the kind of a script's first fault, by its number
abbrev pub kind_words : ℕ → List ℕ
kind_words kind = words_for (fault_with kind)

-- the file that this number stands for
abbrev pub file_words : ℕ → List ℕ
file_words line = if line == 0 then codes "script" else codes "image"

-- what a status means
abbrev pub sentence : Status → List ℕ
sentence s =
    if s.code == 0 then codes "all was done"
    else (if s.code == 1 then codes "line " ++ decimal s.line ++ codes ": " ++ kind_words s.at
    else (if s.code == 2 then codes "the words are no command; the commands are"
    else (if s.code == 3 then codes "want of memory"
    else (if s.code == 4 then codes "the " ++ file_words s.line ++ codes " can't be read"
    else (if s.code == 5 then codes "a line can't be said, after " ++ decimal s.at ++ codes " lines"
    else (if s.code == 6 then codes "image: " ++ fault_sentence s.line s.at s.sector
    else (if s.code == 7 then codes "a file can't be written"
    else (if s.code == 8 then codes "the " ++ (file_words s.line ++ (codes " has more than " ++ (decimal s.at ++ codes " bytes")))
    else (if s.code == 9 then codes "the disk fails at sector " ++ decimal s.at
    else codes "an unknown status")))))))))
