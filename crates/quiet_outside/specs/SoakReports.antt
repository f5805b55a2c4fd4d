-- The report of a soak, over one disk or over a pair: numbers read off the lines that were said.
use Rattle.std.specs.Prelude.{ℕ, ◌==◌, Bool, true, false, if◌then◌else◌, List, [], ◌∷◌, ◌++◌, filter_map, count_by, sum_by, codes}
use Rattle.std.specs.Fmt.{decimal}
use Rattle.frang_base.specs.declared.reply.Reply.TheVariants as reply
use Rattle.frang_base.specs.declared.said.Said.{Said}
use Rattle.frang_base.specs.declared.said.Said.TheVariants as said
use Rattle.script_definitions.specs.SaidReading.{said_of}

-- the lines that texts are, in their order; a text that is no line that can be said counts for nothing
abbrev pub said_lines : List (List ℕ) → List Said
said_lines texts = filter_map said_of texts

-- whether a line of the script is answered
abbrev pub is_answer : Said → Bool
is_answer (said.Answer server line r) = true
is_answer _ = false

-- whether one is answered `ok`
abbrev pub is_ok : Said → Bool
is_ok (said.Answer server line reply.Ok) = true
is_ok _ = false

-- whether a file of the tree is told
abbrev pub is_file : Said → Bool
is_file (said.Node path kind size links) = kind == 1
is_file _ = false

-- the bytes of the file that is told
abbrev pub file_bytes : Said → ℕ
file_bytes (said.Node path kind size links) = if kind == 1 then size else 0
file_bytes _ = 0

-- words, and then a number
abbrev pub numbered : List ℕ → ℕ → List ℕ
numbered words number = words ++ decimal number

-- the report on these lines behind a word and a number: how many answers, how many of them `ok`, how many files, and the sum of their bytes; a file with two names counts twice
abbrev pub report_behind : List ℕ → ℕ → List Said → List ℕ
report_behind word number saids =
    numbered word number
    ++ (numbered (codes " lines ") (count_by is_answer saids)
    ++ (numbered (codes " ok ") (count_by is_ok saids)
    ++ (numbered (codes " files ") (count_by is_file saids)
    ++ (numbered (codes " bytes ") (sum_by file_bytes saids) ++ 10 ∷ []))))

-- that of a soak, and that of a soak over a pair
abbrev pub soak_report : ℕ → List Said → List ℕ
soak_report number saids = report_behind (codes "soak ") number saids

abbrev pub pair_report : ℕ → List Said → List ℕ
pair_report number saids = report_behind (codes "pair ") number saids

-- the report on these texts
abbrev pub soak_line_of : ℕ → List (List ℕ) → List ℕ
soak_line_of number texts = soak_report number (said_lines texts)

abbrev pub pair_line_of : ℕ → List (List ℕ) → List ℕ
pair_line_of number texts = pair_report number (said_lines texts)
