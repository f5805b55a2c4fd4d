-- One byte more of a text of said lines.
use Rattle.std.proofs.Common.{◌≡◌, ℕ, ◌+◌, true, false, cond, ◌==◌, Option, Some, None, List, [], ◌∷◌, ◌++◌, refl, sym, ◌∙◌, ap, append_assoc}
use Rattle.std.specs.Prelude.{Result, Ok, Err}
use Rattle.frang_base.specs.declared.said.Said.{Said}
use Rattle.script_definitions.specs.SaidReading.{said_of}
use Rattle.said_files.specs.declared.reading.SaidFault.{SaidFault}
use Rattle.said_files.specs.declared.reading.SaidFault.TheVariants.{NoMemory, Bad}
use Rattle.said_files.specs.Reading.{Fails, PushedLine, Shows, behind, saids_from, with_said}

pub behind_said : (done : List Said) (number : ℕ) (s : Said) (rest : Result (List Said) ℕ) → behind (done ++ s ∷ []) rest ≡ behind done (with_said number (Some s) rest)
behind_said done number s (Ok more) = ap Ok (append_assoc done (s ∷ []) more)
behind_said done number s (Err bad) = refl

-- a byte that ends other line
pub within_line : (done : List Said) (number : ℕ) (text : List ℕ) (b : ℕ) (bytes : List ℕ) → (b == 10) ≡ false
    → behind done (saids_from number (text ++ b ∷ []) bytes) ≡ behind done (saids_from number text (b ∷ bytes))
within_line done number text b bytes other =
    ap (behind done) (sym (ap (λ c. cond {A = Result (List Said) ℕ} c (with_said number (said_of (text ++ b ∷ [])) (saids_from (number + 1) [] bytes)) (saids_from number (text ++ b ∷ []) bytes)) other))

-- a line feed
at_feed : (number : ℕ) (text : List ℕ) (b : ℕ) (bytes : List ℕ) → (b == 10) ≡ true → saids_from number text (b ∷ bytes) ≡ with_said number (said_of (text ++ b ∷ [])) (saids_from (number + 1) [] bytes)
at_feed number text b bytes feed =
    ap (λ c. cond {A = Result (List Said) ℕ} c (with_said number (said_of (text ++ b ∷ [])) (saids_from (number + 1) [] bytes)) (saids_from number (text ++ b ∷ []) bytes)) feed

shown : (number : ℕ) (o : Option Said) (old new : List Said) (rest : Result (List Said) ℕ) → Shows o old new → behind new rest ≡ behind old (with_said number o rest)
shown number None old new rest none = absurd none
shown number (Some s) old new rest is = ap (λ list. behind list rest) is ∙ behind_said old number s rest

pub line_ends : (old new : List Said) (number : ℕ) (text : List ℕ) (b : ℕ) (bytes : List ℕ) → (b == 10) ≡ true → Shows (said_of (text ++ b ∷ [])) old new
    → behind new (saids_from (number + 1) [] bytes) ≡ behind old (saids_from number text (b ∷ bytes))
line_ends old new number text b bytes feed shows =
    shown number (said_of (text ++ b ∷ [])) old new (saids_from (number + 1) [] bytes) shows ∙ ap (behind old) (sym (at_feed number text b bytes feed))

-- one behind a line that can't be said, or for which memory was short
pub line_fails : (old new : List Said) (number : ℕ) (text : List ℕ) (b : ℕ) (bytes : List ℕ) (fault : SaidFault) → (b == 10) ≡ true → PushedLine number (text ++ b ∷ []) old new (Err fault)
    → Fails (behind old (saids_from number text (b ∷ bytes))) fault
line_fails old new number text b bytes NoMemory feed pushed = tt
line_fails old new number text b bytes (Bad line) feed (none, is) =
    ap (behind old) (at_feed number text b bytes feed ∙ ap (λ o. with_said number o (saids_from (number + 1) [] bytes)) none) ∙ ap Err (sym is)
