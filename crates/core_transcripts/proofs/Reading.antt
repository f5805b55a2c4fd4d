-- A script that was read has its lines' numbers ascending, so that each has its own.
use Rattle.std.proofs.Common.{◌≡◌, ℕ, ◌≤◌, ◌+◌, inl, inr, Bool, true, false, ◌||◌, if◌then◌else◌, List, [], ◌∷◌, length, Option, Some, None, Result, Ok, Err, nat_lt, refl, subst, arith}
use Rattle.std.specs.Str.Lines.{lines}
use Rattle.std.specs.List.{AllByRecursion}
use Rattle.std.proofs.Math.Nat.{le_refl}
use Rattle.disk_definitions.proofs.Listed.{Among}
use Rattle.frang_base.specs.declared.limits.TheConstants.{SCRIPT_BYTES_MAX, SCRIPT_LINES_MAX}
use Rattle.frang_base.specs.declared.script.Line.{Line}
use Rattle.script_definitions.specs.declared.asked.Asked.{Asked}
use Rattle.script_definitions.specs.declared.fault.LineFault.TheVariants as fault
use Rattle.script_definitions.specs.declared.fault.ScriptFault.{ScriptFault}
use Rattle.script_definitions.specs.ScriptText.{after_line, fault_at, judged, numbered, script_from, script_of, with_line}
use Rattle.tree_definitions.specs.Transcript.{is_halt}
use Rattle.core_laws.proofs.Membership.{contains_in}
use Rattle.core_transcripts.specs.Answers.{HaveOwnNumbers, numbers_of}

-- the numbers are from this one on, each once
record IsFrom (low : ℕ) (script : List Line) : Type 0 where
  above : AllByRecursion (λ n. low ≤ n) (numbers_of script)
  own : HaveOwnNumbers script

none_from : (low : ℕ) → IsFrom low []
none_from low = record { above = tt; own = tt }

lower : (low : ℕ) (script : List Line) → IsFrom (low + 1) script → IsFrom low script
lower low script f = record { above = go (numbers_of script) f.above; own = f.own }
  where
    step : (n : ℕ) → low + 1 ≤ n → low ≤ n
    step n h = omega (arith, h)

    go : (ns : List ℕ) → AllByRecursion (λ n. low + 1 ≤ n) ns → AllByRecursion (λ n. low ≤ n) ns
    go [] all = tt
    go (n ∷ ns) all = (step n all.0, go ns all.1)

-- a line of this number before them
before : (line : Line) (script : List Line) → IsFrom (line.number + 1) script → IsFrom line.number (line ∷ script)
before line script f = record {
  above = (le_refl line.number, (lower line.number script f).above);
  own = ((λ h. apart (numbers_of script) f.above (contains_in (numbers_of script) line.number h)), f.own);
}
  where
    apart : (ns : List ℕ) → AllByRecursion (λ n. line.number + 1 ≤ n) ns → Among line.number ns → ⊥
    apart [] all i = absurd i
    apart (n ∷ ns) all (inl e) = absurd (omega (arith, all.0, e))
    apart (n ∷ ns) all (inr i) = apart ns all.1 i

abbrev Read : Type 0
Read = Result (List Line) ScriptFault

abbrev good : List Line → Read
good script = Ok script

abbrev bad : ScriptFault → Read
bad fault = Err fault

ok_is : (x y : List Line) → good x ≡ good y → x ≡ y
ok_is x y e = cc

not_ok : (f : ScriptFault) (script : List Line) → bad f ≡ good script → ⊥
not_ok f script e = absurd (cc)

read_from : (texts : List (List ℕ)) (number : ℕ) (halted : Bool) (script : List Line) → script_from number halted texts ≡ Ok script → IsFrom number script
read_from [] number halted script e = subst (IsFrom number) (ok_is [] script e) (none_from number)
read_from (text ∷ texts) number halted script e = go (nat_lt SCRIPT_LINES_MAX number) (λ h others f. read_from texts (number + 1) h others f) e
  where
    line_before : (asked : Asked) (rest : Result (List Line) ScriptFault) → ((others : List Line) → rest ≡ Ok others → IsFrom (number + 1) others) →
        with_line (record { number = number; who = asked.who; what = asked.what }) rest ≡ Ok script → IsFrom number script
    line_before asked (Err f) others e = absurd (not_ok f script e)
    line_before asked (Ok found) others e =
        subst (IsFrom number) (ok_is (record { number = number; who = asked.who; what = asked.what } ∷ found) script e)
        (before (record { number = number; who = asked.who; what = asked.what }) found (others found refl))

    by : (judgement : Result (Option Asked) ScriptFault) →
        ((h : Bool) (others : List Line) → script_from (number + 1) h texts ≡ Ok others → IsFrom (number + 1) others) →
        after_line number halted judgement (λ h. script_from (number + 1) h texts) ≡ Ok script → IsFrom number script
    by (Err f) rest e = absurd (not_ok f script e)
    by (Ok None) rest e = lower number script (rest halted script e)
    by (Ok (Some asked)) rest e = line_before asked (script_from (number + 1) (halted || is_halt asked.what) texts) (rest (halted || is_halt asked.what)) e

    go : (b : Bool) → ((h : Bool) (others : List Line) → script_from (number + 1) h texts ≡ Ok others → IsFrom (number + 1) others) →
        (if b then Err (fault_at number fault.TooManyLines) else after_line number halted (numbered number (judged halted text)) (λ h. script_from (number + 1) h texts)) ≡ Ok script → IsFrom number script
    go true rest e = absurd (not_ok (fault_at number fault.TooManyLines) script e)
    go false rest e = by (numbered number (judged halted text)) rest e

pub read_numbers : (bytes : List ℕ) (script : List Line) → script_of bytes ≡ Ok script → HaveOwnNumbers script
read_numbers bytes script e = go (nat_lt SCRIPT_BYTES_MAX (length bytes)) e
  where
    go : (b : Bool) → (if b then Err (fault_at 0 fault.ScriptTooLong) else script_from 1 false (lines bytes)) ≡ Ok script → HaveOwnNumbers script
    go true e = absurd (not_ok (fault_at 0 fault.ScriptTooLong) script e)
    go false e = (read_from (lines bytes) 1 false script e).own
