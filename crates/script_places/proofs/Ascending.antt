-- The lines of a script that was read ascend; and lines ascend where each is above the one before it.
use Rattle.std.proofs.Common.{◌≡◌, ℕ, ◌≤◌, ◌+◌, Bool, true, false, ◌&&◌, ◌||◌, if◌then◌else◌, List, [], ◌∷◌, drop, length, get_or, Option, Some, None, Result, Ok, Err, nat_le, nat_lt, refl, sym, ap, ◌∙◌, subst, suc, ◌<◌, add-one, drop-cons, arith}
use Rattle.std.specs.Str.Lines.{lines}
use Rattle.std.specs.List.{list_all}
use Rattle.std.proofs.lemmas.Bool.{and_parts}
use Rattle.std.proofs.lemmas.Bool.Decides.{nat_tests}
use Rattle.frang_base.specs.declared.limits.TheConstants.{SCRIPT_BYTES_MAX, SCRIPT_LINES_MAX}
use Rattle.frang_base.specs.declared.script.Line.{Line}
use Rattle.script_definitions.specs.declared.asked.Asked.{Asked}
use Rattle.script_definitions.specs.declared.fault.LineFault.TheVariants as fault
use Rattle.script_definitions.specs.declared.fault.ScriptFault.{ScriptFault}
use Rattle.script_definitions.specs.ScriptText.{after_line, fault_at, judged, numbered, script_from, script_of, with_line}
use Rattle.tree_definitions.specs.Transcript.{is_halt}
use Rattle.script_places.specs.Placed.{all_above, ascends}

-- the numbers are at least this one
abbrev pub all_from : ℕ → List Line → Bool
all_from least xs = list_all (λ line. nat_le least line.number) xs

-- and ascend
abbrev pub ascends_from : ℕ → List Line → Bool
ascends_from least xs = all_from least xs && ascends xs

above_is_from : (n : ℕ) (xs : List Line) → all_above n xs ≡ all_from (n + 1) xs
above_is_from n [] = refl
above_is_from n (x ∷ xs) = λ i. same n x.number i && above_is_from n xs i
  where
    same : (n m : ℕ) → nat_lt n m ≡ nat_le (n + 1) m
    same n m = grind (arith, nat_tests)

wider : (k n : ℕ) (xs : List Line) → nat_le k n ≡ true → all_above n xs ≡ true → all_from k xs ≡ true
wider k n [] below all = refl
wider k n (x ∷ xs) below all =
    ap (λ b. b && all_from k xs) (further k n x.number below (and_parts (nat_lt n x.number) (all_above n xs) all).0) ∙ wider k n xs below (and_parts (nat_lt n x.number) (all_above n xs) all).1
  where
    further : (k n m : ℕ) → nat_le k n ≡ true → nat_lt n m ≡ true → nat_le k m ≡ true
    further k n m e f = grind (arith, nat_tests, e, f)

pub any_from : (xs : List Line) → ascends_from 0 xs ≡ ascends xs
any_from xs = ap (λ b. b && ascends xs) (all xs)
  where
    least : (n : ℕ) → nat_le 0 n ≡ true
    least n = grind (arith, nat_tests)

    all : (xs : List Line) → all_from 0 xs ≡ true
    all [] = refl
    all (x ∷ xs) = ap (λ b. b && all_from 0 xs) (least x.number) ∙ all xs

-- a line that isn't below the least number, and those behind it from the next number on
pub next_from : (k : ℕ) (x : Line) (xs : List Line) → nat_le k x.number ≡ true → ascends_from k (x ∷ xs) ≡ ascends_from (x.number + 1) xs
next_from k x xs below = ap (λ b. (b && all_from k xs) && (all_above x.number xs && ascends xs)) below ∙ go (all_above x.number xs) refl ∙ ap (λ b. b && ascends xs) (above_is_from x.number xs)
  where
    none : (a : Bool) → (a && false) ≡ false
    none true = refl
    none false = refl

    go : (b : Bool) → all_above x.number xs ≡ b → (all_from k xs && (all_above x.number xs && ascends xs)) ≡ (all_above x.number xs && ascends xs)
    go true is = ap (λ b. b && (all_above x.number xs && ascends xs)) (wider k x.number xs below is)
    go false is = ap (λ b. all_from k xs && (b && ascends xs)) is ∙ none (all_from k xs) ∙ sym (ap (λ b. b && ascends xs) is)

pub not_from : (k : ℕ) (x : Line) (xs : List Line) → nat_le k x.number ≡ false → ascends_from k (x ∷ xs) ≡ false
not_from k x xs above = ap (λ b. (b && all_from k xs) && (all_above x.number xs && ascends xs)) above

le_true : (a b : ℕ) → a ≤ b → nat_le a b ≡ true
le_true a b e = grind (arith, nat_tests)

-- the lines that are left behind the one at a place
pub next_kept : (lines : List Line) (i least number : ℕ) (x : Line) → i < length lines → x ≡ get_or lines i x → number ≡ x.number → least ≤ number → ascends_from least (drop i lines) ≡ ascends lines
    → ascends_from (number + 1) (drop (i + 1) lines) ≡ ascends lines
next_kept lines i least number x inside item is below so_far =
    ap (λ n. ascends_from (n + 1) (drop (i + 1) lines)) is ∙ sym (next_from least x (drop (i + 1) lines) (le_true least x.number (subst (λ n. least ≤ n) is below))) ∙ ap (ascends_from least) (sym here) ∙ so_far
  where
    here : drop i lines ≡ x ∷ drop (i + 1) lines
    here = drop-cons lines i x inside ∙ ap (λ y. y ∷ drop (suc i) lines) (sym item) ∙ ap (λ k. x ∷ drop k lines) (sym (add-one i))

-- ---- scripts that were read

record IsFrom (low : ℕ) (script : List Line) : Type 0 where
  above : all_from low script ≡ true
  up : ascends script ≡ true

none_from : (low : ℕ) → IsFrom low []
none_from low = record { above = refl; up = refl }

lower : (low : ℕ) (script : List Line) → IsFrom (low + 1) script → IsFrom low script
lower low script f = record { above = go script f.above; up = f.up }
  where
    step : (low n : ℕ) → nat_le (low + 1) n ≡ true → nat_le low n ≡ true
    step low n e = grind (arith, nat_tests, e)

    go : (xs : List Line) → all_from (low + 1) xs ≡ true → all_from low xs ≡ true
    go [] all = refl
    go (x ∷ xs) all = ap (λ b. b && all_from low xs) (step low x.number (and_parts (nat_le (low + 1) x.number) (all_from (low + 1) xs) all).0) ∙ go xs (and_parts (nat_le (low + 1) x.number) (all_from (low + 1) xs) all).1

-- a line of this number before them
before : (line : Line) (script : List Line) → IsFrom (line.number + 1) script → IsFrom line.number (line ∷ script)
before line script f = record {
  above = ap (λ b. b && all_from line.number script) (itself line.number) ∙ (lower line.number script f).above;
  up = ap (λ b. b && ascends script) (above_is_from line.number script ∙ f.above) ∙ f.up;
}
  where
    itself : (n : ℕ) → nat_le n n ≡ true
    itself n = grind (arith, nat_tests)

abbrev Read : Type 0
Read = Result (List Line) ScriptFault

abbrev good : List Line → Read
good script = Ok script

abbrev bad : ScriptFault → Read
bad fault = Err fault

ok_is : (x y : List Line) → good x ≡ good y → x ≡ y
ok_is x y e = cc

not_ok : (f : ScriptFault) (script : List Line) → bad f ≡ good script → ⊥
not_ok f script e = absurd (cc)

read_from : (texts : List (List ℕ)) (number : ℕ) (halted : Bool) (script : List Line) → script_from number halted texts ≡ Ok script → IsFrom number script
read_from [] number halted script e = subst (IsFrom number) (ok_is [] script e) (none_from number)
read_from (text ∷ texts) number halted script e = go (nat_lt SCRIPT_LINES_MAX number) (λ h others f. read_from texts (number + 1) h others f) e
  where
    line_before : (asked : Asked) (rest : Result (List Line) ScriptFault) → ((others : List Line) → rest ≡ Ok others → IsFrom (number + 1) others) →
        with_line (record { number = number; who = asked.who; what = asked.what }) rest ≡ Ok script → IsFrom number script
    line_before asked (Err f) others e = absurd (not_ok f script e)
    line_before asked (Ok found) others e =
        subst (IsFrom number) (ok_is (record { number = number; who = asked.who; what = asked.what } ∷ found) script e)
        (before (record { number = number; who = asked.who; what = asked.what }) found (others found refl))

    by : (judgement : Result (Option Asked) ScriptFault) →
        ((h : Bool) (others : List Line) → script_from (number + 1) h texts ≡ Ok others → IsFrom (number + 1) others) →
        after_line number halted judgement (λ h. script_from (number + 1) h texts) ≡ Ok script → IsFrom number script
    by (Err f) rest e = absurd (not_ok f script e)
    by (Ok None) rest e = lower number script (rest halted script e)
    by (Ok (Some asked)) rest e = line_before asked (script_from (number + 1) (halted || is_halt asked.what) texts) (rest (halted || is_halt asked.what)) e

    go : (b : Bool) → ((h : Bool) (others : List Line) → script_from (number + 1) h texts ≡ Ok others → IsFrom (number + 1) others) →
        (if b then Err (fault_at number fault.TooManyLines) else after_line number halted (numbered number (judged halted text)) (λ h. script_from (number + 1) h texts)) ≡ Ok script → IsFrom number script
    go true rest e = absurd (not_ok (fault_at number fault.TooManyLines) script e)
    go false rest e = by (numbered number (judged halted text)) rest e

pub read_ascends : (bytes : List ℕ) (script : List Line) → script_of bytes ≡ Ok script → ascends script ≡ true
read_ascends bytes script e = go (nat_lt SCRIPT_BYTES_MAX (length bytes)) e
  where
    go : (b : Bool) → (if b then Err (fault_at 0 fault.ScriptTooLong) else script_from 1 false (lines bytes)) ≡ Ok script → ascends script ≡ true
    go true e = absurd (not_ok (fault_at 0 fault.ScriptTooLong) script e)
    go false e = (read_from (lines bytes) 1 false script e).up
