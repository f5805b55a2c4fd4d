-- The grammar of scripts: which lines ask what, and which texts are scripts.
use Rattle.std.specs.Prelude.{◌≡◌, ◌≤◌, ◌<◌, ◌^◌, ℕ, ◌+◌, Bool, true, false, ◌⊎◌, List, [], ◌∷◌, length, codes, Ok}
use Rattle.std.specs.Fmt.{decimal}
use Rattle.std.specs.List.{list_all}
use Rattle.std.specs.Str.Lines.{lines}
use Rattle.frang_base.specs.declared.limits.TheConstants.{FILE_BYTES_MAX, LINE_TICKS_MAX, PATH_BYTES_MAX, PATH_NAMES_MAX, READ_BYTES_MAX, SCRIPT_BYTES_MAX, SCRIPT_LINES_MAX, TARGET_BYTES_MAX, WRITE_BYTES_MAX}
use Rattle.frang_base.specs.Name.{is_name}
use Rattle.frang_base.specs.declared.op.Op.{Op}
use Rattle.frang_base.specs.declared.op.Op.TheVariants as op
use Rattle.frang_base.specs.declared.op.HostOp.TheVariants as host
use Rattle.frang_base.specs.declared.op.What.{What}
use Rattle.frang_base.specs.declared.op.What.TheVariants.{Server, Host}
use Rattle.frang_base.specs.declared.script.Line.{Line}
use Rattle.script_definitions.specs.ScriptWords.{byte_at, words_of}
use Rattle.script_definitions.specs.ScriptText.{is_text, is_skipped}
use Rattle.tree_definitions.specs.Transcript.{is_halt}
use Rattle.script_definitions.specs.ScriptPrinted.{path_text, op_words, line_words}
use Rattle.script_definitions.specs.declared.asked.Asked.{Asked}

-- a path: its names and its bytes are few
pub record IsPath (names : List (List ℕ)) : Type 0 where
  pub named : list_all is_name names ≡ true
  pub few : length names ≤ PATH_NAMES_MAX
  pub short : length (path_text names) ≤ PATH_BYTES_MAX

-- what a server can be asked
abbrev pub IsProperOp : Op → Type 0
IsProperOp (op.Create path) = IsPath path
IsProperOp (op.Mkdir path) = IsPath path
IsProperOp (op.Link path to) = IsPath path × IsPath to
IsProperOp (op.Symlink path target) = IsPath path × (length target ≤ TARGET_BYTES_MAX)
IsProperOp (op.Unlink path) = IsPath path
IsProperOp (op.Rmdir path) = IsPath path
IsProperOp (op.Rename path to) = IsPath path × IsPath to
IsProperOp (op.Write path off bytes) = IsPath path × (off < 2 ^ 32) × (length bytes ≤ WRITE_BYTES_MAX)
IsProperOp (op.Fill path off len byte) = IsPath path × (off < 2 ^ 32) × (1 ≤ len) × (len ≤ FILE_BYTES_MAX) × (byte < 256)
IsProperOp (op.Truncate path len) = IsPath path × (len < 2 ^ 32)
IsProperOp (op.Read path off len) = IsPath path × (off < 2 ^ 32) × (1 ≤ len) × (len ≤ READ_BYTES_MAX)
IsProperOp (op.Stat path) = IsPath path
IsProperOp (op.List path) = IsPath path
IsProperOp (op.Readlink path) = IsPath path
IsProperOp (op.Time path) = IsPath path
IsProperOp (op.CrashAt k) = (1 ≤ k) × (k ≤ 1000000)
IsProperOp (op.CutAt k) = (1 ≤ k) × (k ≤ 1000000)
IsProperOp _ = Unit {0}

-- what can be asked, and of whom: a server, 0 to 15, or the host
abbrev pub IsProperWhat : ℕ → What → Type 0
IsProperWhat who (Server o) = (who ≤ 15) × IsProperOp o
IsProperWhat who (Host (host.Tick n)) = (who ≡ 255) × (1 ≤ n) × (n ≤ LINE_TICKS_MAX)
IsProperWhat who (Host o) = who ≡ 255

-- the words that ask it: those that print it, but that the byte of a `fill` may have digits of either case
abbrev pub OpSpelled : List (List ℕ) → Op → Type 0
OpSpelled words (op.Fill path off len byte) = (digits : List ℕ) × (byte_at digits ≡ Ok byte) × (words ≡ codes "fill" ∷ path_text path ∷ decimal off ∷ decimal len ∷ digits ∷ [])
OpSpelled words o = words ≡ op_words o

abbrev pub WhatSpelled : List (List ℕ) → ℕ → What → Type 0
WhatSpelled words who (Server o) = (rest : List (List ℕ)) × (words ≡ decimal who ∷ rest) × OpSpelled rest o
WhatSpelled words who (Host o) = words ≡ line_words who (Host o)

-- these words ask it
abbrev pub AsksBy : List (List ℕ) → Asked → Type 0
AsksBy words asked = IsProperWhat asked.who.0 asked.what × WhatSpelled words asked.who.0 asked.what

-- a line that is a command
abbrev pub IsCommand : List ℕ → Asked → Type 0
IsCommand line asked = (is_skipped line ≡ false) × (is_text line ≡ true) × AsksBy (words_of line) asked

-- lines from a number on, after `halt` or not, are this script
abbrev pub AreLines : ℕ → Bool → List (List ℕ) → List Line → Type 0
AreLines number halted [] script = script ≡ []
AreLines number halted (line ∷ lines) script = (number ≤ SCRIPT_LINES_MAX) ×
    (((is_skipped line ≡ true) × AreLines (number + 1) halted lines script)
    ⊎ ((asked : Asked) × (rest : List Line) × (script ≡ record { number = number; who = asked.who; what = asked.what } ∷ rest) × (halted ≡ false) × IsCommand line asked × AreLines (number + 1) (is_halt asked.what) lines rest))

-- the bytes are a script
abbrev pub IsScriptText : List ℕ → List Line → Type 0
IsScriptText bytes script = (length bytes ≤ SCRIPT_BYTES_MAX) × AreLines 1 false (lines bytes) script
