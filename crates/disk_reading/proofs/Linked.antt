-- A count that stops at its greatest, against a smaller number.
use Rattle.std.proofs.Common.{◌==◌, ◌≡◌, ℕ, ◌+◌, ◌<◌, min, sym, ◌∙◌, ⊎_elim, arith, eq-eqb, ne_eqb}
use Rattle.std.proofs.lemmas.Bool.{cases_eq}

pub capped : (n o l : ℕ) → l < 4294967296 → (min (min n 18446744073709551615 + o) 18446744073709551615 == l) ≡ (n + o == l)
capped n o l h = ⊎_elim
    (λ e. (let z : min (min n 18446744073709551615 + o) 18446744073709551615 ≡ l = omega arith in eq-eqb (min (min n 18446744073709551615 + o) 18446744073709551615) l z ∙ sym (eq-eqb (n + o) l e)))
    (λ ne. ne_eqb (min (min n 18446744073709551615 + o) 18446744073709551615) l (λ e. ne (omega arith)) ∙ sym (ne_eqb (n + o) l ne)) (cases_eq (n + o) l)
