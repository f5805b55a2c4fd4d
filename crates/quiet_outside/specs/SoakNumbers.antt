-- The numbers of a soak's report as the program counts them.
use Rattle.std.specs.Prelude.{◌≡◌, ◌≤◌, ◌^◌, ℕ, ◌+◌, ◌*◌, cond, List, ◌∷◌, [], ◌++◌, count_by, sum_by, codes}
use Rattle.frang_base.specs.declared.said.Said.{Said}
use Rattle.quiet_outside.specs.declared.numbers.Numbers.{Numbers}
use Rattle.quiet_outside.specs.SoakReports.{file_bytes, is_answer, is_file, is_ok, numbered}

-- those of these lines
abbrev pub numbers_in : List Said → Numbers
numbers_in saids = record { answers = count_by is_answer saids; oks = count_by is_ok saids; files = count_by is_file saids; bytes = sum_by file_bytes saids }

-- of one line more
abbrev pub with_said : Numbers → Said → Numbers
with_said n s = record {
  answers = n.answers + cond (is_answer s) 1 0;
  oks = n.oks + cond (is_ok s) 1 0;
  files = n.files + cond (is_file s) 1 0;
  bytes = n.bytes + file_bytes s;
}

-- they are of no more than so many lines
pub record AreOf (count : ℕ) (n : Numbers) : Type 0 where
  pub answers : n.answers ≤ count
  pub oks : n.oks ≤ count
  pub files : n.files ≤ count
  pub bytes : n.bytes ≤ count * (2 ^ 32)

-- with those of the lines that are left they are those of all, after so many texts
pub record IsCounted (n : Numbers) (count : ℕ) (rest all : List Said) : Type 0 where
  pub answers : n.answers + count_by is_answer rest ≡ count_by is_answer all
  pub oks : n.oks + count_by is_ok rest ≡ count_by is_ok all
  pub files : n.files + count_by is_file rest ≡ count_by is_file all
  pub bytes : n.bytes + sum_by file_bytes rest ≡ sum_by file_bytes all
  pub few : AreOf count n

-- the report with these numbers behind a word and a number
abbrev pub report_with : List ℕ → ℕ → Numbers → List ℕ
report_with word number n =
    numbered word number
    ++ (numbered (codes " lines ") n.answers
    ++ (numbered (codes " ok ") n.oks
    ++ (numbered (codes " files ") n.files
    ++ (numbered (codes " bytes ") n.bytes ++ 10 ∷ []))))
