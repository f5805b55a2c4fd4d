-- One line more of a script.
use Rattle.std.proofs.Common.{◌≡◌, ℕ, ◌+◌, ◌<◌, ◌≤◌, Bool, ◌||◌, cond, List, [], ◌∷◌, ◌++◌, Some, None, Result, Ok, Err, refl, sym, ◌∙◌, ap, append_assoc}
use Rattle.std.proofs.lemmas.Bool.{lt-ltb, le-ltb}
use Rattle.frang_base.specs.declared.script.Line.{Line}
use Rattle.script_definitions.specs.declared.asked.Asked.{Asked}
use Rattle.script_definitions.specs.declared.fault.LineFault.TheVariants as fault
use Rattle.script_definitions.specs.declared.fault.ScriptFault.{ScriptFault}
use Rattle.script_definitions.specs.ScriptText.{judged, numbered, fault_at, with_line, after_line, script_from}
use Rattle.tree_definitions.specs.Transcript.{is_halt}

-- the lines so far, and what the others give
abbrev pub behind_lines : List Line → Result (List Line) ScriptFault → Result (List Line) ScriptFault
behind_lines front (Ok script) = Ok (front ++ script)
behind_lines front (Err f) = Err f

-- the line of what is asked
abbrev pub line_of : ℕ → Asked → Line
line_of number asked = record { number = number; who = asked.who; what = asked.what }

behind_line : (front : List Line) (line : Line) (r : Result (List Line) ScriptFault) → behind_lines (front ++ line ∷ []) r ≡ behind_lines front (with_line line r)
behind_line front line (Ok script) = ap Ok (append_assoc front (line ∷ []) script)
behind_line front line (Err f) = refl

-- within the count of lines, the line is judged
within : (number : ℕ) (halted : Bool) (all : List (List ℕ)) (line : List ℕ) (more : List (List ℕ)) → all ≡ line ∷ more → number ≤ 65536 → script_from number halted all ≡ after_line number halted (numbered number (judged halted line)) (λ h. script_from (number + 1) h more)
within number halted all line more is few =
    ap (λ ls. script_from number halted ls) is
    ∙ ap (λ b. cond b (Err (fault_at number fault.TooManyLines)) (after_line number halted (numbered number (judged halted line)) (λ h. script_from (number + 1) h more))) (le-ltb 65536 number few)

pub skipped_turn : (front : List Line) (number : ℕ) (halted : Bool) (all : List (List ℕ)) (line : List ℕ) (more : List (List ℕ)) → all ≡ line ∷ more → number ≤ 65536 → numbered number (judged halted line) ≡ Ok None → behind_lines front (script_from (number + 1) halted more) ≡ behind_lines front (script_from number halted all)
skipped_turn front number halted all line more is few e =
    sym (ap (behind_lines front) (within number halted all line more is few ∙ ap (λ r. after_line number halted r (λ h. script_from (number + 1) h more)) e))

pub asked_turn : (front : List Line) (number : ℕ) (halted : Bool) (asked : Asked) (all : List (List ℕ)) (line : List ℕ) (more : List (List ℕ)) → all ≡ line ∷ more → number ≤ 65536 → numbered number (judged halted line) ≡ Ok (Some asked) → behind_lines (front ++ line_of number asked ∷ []) (script_from (number + 1) (halted || is_halt asked.what) more) ≡ behind_lines front (script_from number halted all)
asked_turn front number halted asked all line more is few e =
    behind_line front (line_of number asked) (script_from (number + 1) (halted || is_halt asked.what) more)
    ∙ sym (ap (behind_lines front) (within number halted all line more is few ∙ ap (λ r. after_line number halted r (λ h. script_from (number + 1) h more)) e))

pub bad_turn : (front : List Line) (number : ℕ) (halted : Bool) (f : ScriptFault) (all : List (List ℕ)) (line : List ℕ) (more : List (List ℕ)) → all ≡ line ∷ more → number ≤ 65536 → numbered number (judged halted line) ≡ Err f → behind_lines front (script_from number halted all) ≡ Err f
bad_turn front number halted f all line more is few e =
    ap (behind_lines front) (within number halted all line more is few ∙ ap (λ r. after_line number halted r (λ h. script_from (number + 1) h more)) e)

pub many_turn : (front : List Line) (number : ℕ) (halted : Bool) (all : List (List ℕ)) (line : List ℕ) (more : List (List ℕ)) → all ≡ line ∷ more → 65536 < number → behind_lines front (script_from number halted all) ≡ Err (fault_at number fault.TooManyLines)
many_turn front number halted all line more is many =
    ap (λ ls. behind_lines front (script_from number halted ls)) is
    ∙ ap (λ b. behind_lines front (cond b (Err (fault_at number fault.TooManyLines)) (after_line number halted (numbered number (judged halted line)) (λ h. script_from (number + 1) h more)))) (lt-ltb 65536 number many)

pub end_turn : (front : List Line) (number : ℕ) (halted : Bool) (all : List (List ℕ)) → all ≡ [] → behind_lines front (script_from number halted all) ≡ Ok (front ++ [])
end_turn front number halted all is = ap (λ ls. behind_lines front (script_from number halted ls)) is
