-- A script that was read is read again from the text that prints it.
use Rattle.std.proofs.Common.{◌≡◌, ℕ, ◌+◌, ◌-◌, ◌≤◌, Bool, true, false, not, ◌||◌, cond, eqb, ltb, List, [], ◌∷◌, ◌++◌, length, take, get_or, replicate, Option, Some, None, Result, Ok, Err, refl, ◌∙◌, ap, subst, arith, zero, suc}
use Rattle.std.specs.List.{list_all}
use Rattle.std.specs.Str.Lines.{lines, strip_carriage_return}
use Rattle.std.proofs.lemmas.Bool.{and_parts, not-true, ltb-false, le-ltb}
use Rattle.std.proofs.lemmas.List.Splits.{slice_split-cons_yes}
use Rattle.frang_base.specs.declared.script.Line.{Line}
use Rattle.script_definitions.specs.ScriptWords.{words_of}
use Rattle.script_definitions.specs.ScriptText.{judged, with_line, fault_at, numbered, after_line, script_from, script_of}
use Rattle.tree_definitions.specs.Transcript.{is_halt}
use Rattle.script_definitions.specs.ScriptPrinted.{line_words, line_text, printed_from, printed}
use Rattle.script_definitions.specs.declared.asked.Asked.{Asked}
use Rattle.script_definitions.specs.declared.fault.LineFault.{LineFault}
use Rattle.script_definitions.specs.declared.fault.LineFault.TheVariants as fault
use Rattle.script_definitions.proofs.Splitting.{is_free, split_before}
use Rattle.script_definitions.proofs.AskedLaws.{guard_ok, same_ok}
use Rattle.script_definitions.proofs.GoodWords.{is_good, words_good, joined_free}
use Rattle.script_definitions.proofs.JudgedLaws.{judged_sound, judged_complete, line_good, command_printed, line_of, lines_step, with_line_ok}
use Rattle.script_definitions.proofs.LinesLaws.{line_before}

-- empty lines
empty_lines : (k : ℕ) (text : List ℕ) → lines (replicate k 10 ++ text) ≡ replicate k [] ++ lines text
empty_lines zero text = refl
empty_lines (suc k) text =
    line_before (10 ∷ (replicate k 10 ++ text)) [] (replicate k 10 ++ text) (slice_split-cons_yes (λ b. eqb b 10) 10 (replicate k 10 ++ text) refl)
    ∙ ap (λ ls. [] ∷ ls) (empty_lines k text)

-- a line without a carriage return at its end
no_return : (t : List ℕ) (i : ℕ) → is_free 13 t ≡ true → eqb (get_or t i 0) 13 ≡ false
no_return [] i e = refl
no_return (b ∷ t) zero e = not-true (eqb b 13) (and_parts (not (eqb b 13)) (is_free 13 t) e).0
no_return (b ∷ t) (suc i) e = no_return t i (and_parts (not (eqb b 13)) (is_free 13 t) e).1

stays : (t : List ℕ) → is_free 13 t ≡ true → strip_carriage_return t ≡ t
stays t e = ap (λ b. cond b (take (length t - 1) t) t) (no_return t (length t - 1) e)

one_line : (t rest : List ℕ) → is_free 10 t ≡ true → is_free 13 t ≡ true → lines (t ++ 10 ∷ rest) ≡ t ∷ lines rest
one_line t rest e f = line_before (t ++ 10 ∷ rest) t rest (split_before 10 t rest e) ∙ ap (λ l. l ∷ lines rest) (stays t f)

-- empty lines are skipped
skip_empty : (k m : ℕ) (halted : Bool) (ls : List (List ℕ)) → m + k ≤ 65537 → script_from m halted (replicate k [] ++ ls) ≡ script_from (m + k) halted ls
skip_empty zero m halted ls few = ap (λ n. script_from n halted ls) (let e : m ≡ m + 0 = omega arith in e)
skip_empty (suc k) m halted ls few =
    lines_step m halted [] (replicate k [] ++ ls) (omega arith)
    ∙ skip_empty k (m + 1) halted ls (omega arith)
    ∙ ap (λ n. script_from n halted ls) (let e : m + 1 + k ≡ m + suc k = omega arith in e)

-- a printed line is judged as the line that was read
judged_printed : (halted : Bool) (line : List ℕ) (a : Asked) → judged halted line ≡ Ok (Some a) → judged halted (line_text a.who.0 a.what) ≡ Ok (Some a)
judged_printed halted line a e = let j = judged_sound halted line a e in judged_complete halted (line_text a.who.0 a.what) a j.goes_on (command_printed line a j.command)

words_printed : (halted : Bool) (line : List ℕ) (a : Asked) → judged halted line ≡ Ok (Some a) → list_all is_good (line_words a.who.0 a.what) ≡ true
words_printed halted line a e = let c = (judged_sound halted line a e).command in line_good (words_of line) a.who.0 a.what c.2.0 c.2.1 (words_good line c.1)

printed_lines : (m : ℕ) (halted : Bool) (line : List ℕ) (n : ℕ) (a : Asked) (rest : List Line) → judged halted line ≡ Ok (Some a) → lines (printed_from m (line_of n a ∷ rest)) ≡ replicate (n - m) [] ++ (line_text a.who.0 a.what ∷ lines (printed_from (n + 1) rest))
printed_lines m halted line n a rest e =
    let words = line_words a.who.0 a.what in
    let good = words_printed halted line a e in
    empty_lines (n - m) (line_text a.who.0 a.what ++ 10 ∷ printed_from (n + 1) rest)
    ∙ ap (λ ls. replicate (n - m) [] ++ ls) (one_line (line_text a.who.0 a.what) (printed_from (n + 1) rest) (joined_free 10 words refl refl good) (joined_free 13 words refl refl good))

-- what was read from some lines is read from those that print it
step_printed : (m n : ℕ) (halted : Bool) (line : List ℕ) (ls : List (List ℕ)) (script : List Line) (r : Result (Option Asked) LineFault) → m ≤ n → n ≤ 65536 → judged halted line ≡ r → ((k : ℕ) (h : Bool) (rest : List Line) → k ≤ n + 1 → script_from (n + 1) h ls ≡ Ok rest → script_from k h (lines (printed_from k rest)) ≡ Ok rest) → after_line n halted (numbered n r) (λ h. script_from (n + 1) h ls) ≡ Ok script → script_from m halted (lines (printed_from m script)) ≡ Ok script
step_printed m n halted line ls script (Err f) low few is more e = cc
step_printed m n halted line ls script (Ok None) low few is more e = more m halted script (omega arith) e
step_printed m n halted line ls script (Ok (Some a)) low few is more e =
    let w = with_line_ok (line_of n a) (script_from (n + 1) (halted || is_halt a.what) ls) script e in
    let rest = w.0 in
    let tail = line_text a.who.0 a.what ∷ lines (printed_from (n + 1) rest) in
    let back : script_from m halted (lines (printed_from m (line_of n a ∷ rest))) ≡ Ok (line_of n a ∷ rest) =
    ap (script_from m halted) (printed_lines m halted line n a rest is)
    ∙ skip_empty (n - m) m halted tail (omega arith)
    ∙ ap (λ k. script_from k halted tail) (let s : m + (n - m) ≡ n = omega arith in s)
    ∙ lines_step n halted (line_text a.who.0 a.what) (lines (printed_from (n + 1) rest)) few
    ∙ ap (λ q. after_line n halted (numbered n q) (λ h. script_from (n + 1) h (lines (printed_from (n + 1) rest)))) (judged_printed halted line a is)
    ∙ ap (with_line (line_of n a)) (more (n + 1) (halted || is_halt a.what) rest (omega arith) w.1) in
    subst (λ s. script_from m halted (lines (printed_from m s)) ≡ Ok s) w.2 back

lines_printed : (ls : List (List ℕ)) (m n : ℕ) (halted : Bool) (script : List Line) → m ≤ n → script_from n halted ls ≡ Ok script → script_from m halted (lines (printed_from m script)) ≡ Ok script
lines_printed [] m n halted script low e = subst (λ s. script_from m halted (lines (printed_from m s)) ≡ Ok s) (same_ok [] script e) refl
lines_printed (line ∷ ls) m n halted script low e =
    let g = guard_ok (ltb 65536 n) (fault_at n fault.TooManyLines) (after_line n halted (numbered n (judged halted line)) (λ h. script_from (n + 1) h ls)) script e in
    step_printed m n halted line ls script (judged halted line) low (ltb-false 65536 n g.0) refl (λ k h rest b f. lines_printed ls k (n + 1) h rest b f) g.1

-- a script that was read is read from its text, where that isn't too long
pub read_again : (bytes : List ℕ) (script : List Line) → script_of bytes ≡ Ok script → length (printed script) ≤ 1048576 → script_of (printed script) ≡ Ok script
read_again bytes script e short =
    let g = guard_ok (ltb 1048576 (length bytes)) (fault_at 0 fault.ScriptTooLong) (script_from 1 false (lines bytes)) script e in
    ap (λ b. cond b (Err (fault_at 0 fault.ScriptTooLong)) (script_from 1 false (lines (printed script)))) (le-ltb 1048576 (length (printed script)) short)
    ∙ lines_printed (lines bytes) 1 1 false script (omega arith) g.1
