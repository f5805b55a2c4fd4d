-- Worked rows: lines among acts, parts of a mark, and a report, by computation.
use Rattle.std.proofs.Common.{◌≡◌, ℕ, List, [], ◌∷◌, ◌++◌, codes, refl}
use Rattle.frang_outside.specs.declared.act.Act.{Act}
use Rattle.frang_outside.specs.declared.act.Act.TheVariants.{Said}
use Rattle.quiet_outside.specs.KeptLines.{fail_at_of, mark_below, say_faults_below, woven}
use Rattle.quiet_outside.specs.SoakReports.{numbered, soak_line_of}

-- a line before the first act, and two between the first and the second
lines_among_acts : (a b c : List ℕ) (p q : Act) → woven 0 (0 ∷ 1 ∷ 1 ∷ []) (a ∷ b ∷ c ∷ []) (p ∷ q ∷ []) ≡ Said a ∷ p ∷ Said b ∷ Said c ∷ q ∷ []
lines_among_acts a b c p q = refl

-- the parts of a mark
number_of_mark : (n s : ℕ) (mark : List ℕ) → fail_at_of (n ∷ s ∷ mark) ≡ n
number_of_mark n s mark = refl

says_of_mark : (n s : ℕ) (mark : List ℕ) → say_faults_below (n ∷ s ∷ mark) ≡ s
says_of_mark n s mark = refl

rest_of_mark : (n s : ℕ) (mark : List ℕ) → mark_below (n ∷ s ∷ mark) ≡ mark
rest_of_mark n s mark = refl

-- two answers, one of them `ok`, a directory, a file by two names, and a text that is no line
abbrev rows : List (List ℕ)
rows = codes "1 0 mounted\n" ∷ codes "2 0 ok\n" ∷ codes "= / dir 2\n" ∷ codes "= /a file 513 2\n" ∷ codes "= /b file 513 2\n" ∷ codes "2 0 ok" ∷ []

report_of_rows :
    soak_line_of 7 rows
    ≡ numbered (codes "soak ") 7 ++ (numbered (codes " lines ") 2 ++ (numbered (codes " ok ") 1 ++ (numbered (codes " files ") 2 ++ (numbered (codes " bytes ") 1026 ++ 10 ∷ []))))
report_of_rows = refl
