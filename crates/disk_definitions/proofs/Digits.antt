-- The four states in a byte: one is replaced, and the others stay.
use Rattle.std.proofs.Common.{◌≡◌, ℕ, zero, suc, ◌/◌, ◌^◌, ◌%◌, ◌<◌, ◌==◌, if◌then◌else◌, List, length, get_or, set, inl, inr, sym, ap, ◌∙◌, arith}
use Rattle.std.proofs.lemmas.Bool.{cases_eq}
use Rattle.std.proofs.lemmas.List.{get_or-set_same, get_or-set_other}
use Rattle.disk_definitions.specs.Bitmaps.{with_digit}
use Rattle.disk_definitions.proofs.Chosen.{chosen, chosen_same, chosen_other}

pub digit_fits : (p b s : ℕ) → p < 4 → b < 256 → s < 4 → with_digit p b s < 256
digit_fits zero b s p h i = omega arith
digit_fits (suc zero) b s p h i = omega arith
digit_fits (suc (suc zero)) b s p h i = omega arith
digit_fits (suc (suc (suc zero))) b s p h i = omega arith
digit_fits (suc (suc (suc (suc p)))) b s q h i = absurd (omega arith)

-- at the place, and at each other one
first_digit : (k b s : ℕ) → k < 4 → s < 4 → with_digit 0 b s / 4 ^ k % 4 ≡ (if k == 0 then s else b / 4 ^ k % 4)
first_digit zero b s h j = omega arith
first_digit (suc zero) b s h j = omega arith
first_digit (suc (suc zero)) b s h j = omega arith
first_digit (suc (suc (suc zero))) b s h j = omega arith
first_digit (suc (suc (suc (suc k)))) b s h j = absurd (omega arith)

second_digit : (k b s : ℕ) → k < 4 → s < 4 → with_digit 1 b s / 4 ^ k % 4 ≡ (if k == 1 then s else b / 4 ^ k % 4)
second_digit zero b s h j = omega arith
second_digit (suc zero) b s h j = omega arith
second_digit (suc (suc zero)) b s h j = omega arith
second_digit (suc (suc (suc zero))) b s h j = omega arith
second_digit (suc (suc (suc (suc k)))) b s h j = absurd (omega arith)

third_digit : (k b s : ℕ) → k < 4 → s < 4 → with_digit 2 b s / 4 ^ k % 4 ≡ (if k == 2 then s else b / 4 ^ k % 4)
third_digit zero b s h j = omega arith
third_digit (suc zero) b s h j = omega arith
third_digit (suc (suc zero)) b s h j = omega arith
third_digit (suc (suc (suc zero))) b s h j = omega arith
third_digit (suc (suc (suc (suc k)))) b s h j = absurd (omega arith)

fourth_digit : (k b s : ℕ) → k < 4 → s < 4 → with_digit 3 b s / 4 ^ k % 4 ≡ (if k == 3 then s else b / 4 ^ k % 4)
fourth_digit zero b s h j = omega arith
fourth_digit (suc zero) b s h j = omega arith
fourth_digit (suc (suc zero)) b s h j = omega arith
fourth_digit (suc (suc (suc zero))) b s h j = omega arith
fourth_digit (suc (suc (suc (suc k)))) b s h j = absurd (omega arith)

pub digit_replaced : (p b s : ℕ) → p < 4 → s < 4 → (k : ℕ) → k < 4 → with_digit p b s / 4 ^ k % 4 ≡ (if k == p then s else b / 4 ^ k % 4)
digit_replaced zero b s p j k h = first_digit k b s h j
digit_replaced (suc zero) b s p j k h = second_digit k b s h j
digit_replaced (suc (suc zero)) b s p j k h = third_digit k b s h j
digit_replaced (suc (suc (suc zero))) b s p j k h = fourth_digit k b s h j
digit_replaced (suc (suc (suc (suc p)))) b s q j k h = absurd (omega arith)

-- a block of the byte that was changed
in_its_byte : (j k b s old : ℕ) → k / 4 ≡ j / 4
    → ((m : ℕ) → m < 4 → b / 4 ^ m % 4 ≡ (if m == j % 4 then s else old / 4 ^ m % 4))
    → b / 4 ^ (k % 4) % 4 ≡ (if k == j then s else old / 4 ^ (k % 4) % 4)
in_its_byte j k b s old e digits =
    let at = digits (k % 4) (omega arith) in
    chosen k j (b / 4 ^ (k % 4) % 4) s (old / 4 ^ (k % 4) % 4)
    (λ q. at ∙ chosen_same (k % 4) (j % 4) s (old / 4 ^ (k % 4) % 4) (ap (λ (n : ℕ). n % 4) q))
    (λ d. at ∙ chosen_other (k % 4) (j % 4) s (old / 4 ^ (k % 4) % 4) (λ q. d (omega arith)))

-- a block's state replaced in its byte, among all of a segment
pub state_replaced : (states : List ℕ) (j k b s : ℕ) → length states ≡ 256 → j < 1024
    → ((m : ℕ) → m < 4 → b / 4 ^ m % 4 ≡ (if m == j % 4 then s else get_or states (j / 4) 0 / 4 ^ m % 4))
    → get_or (set states (j / 4) b) (k / 4) 0 / 4 ^ (k % 4) % 4 ≡ (if k == j then s else get_or states (k / 4) 0 / 4 ^ (k % 4) % 4)
state_replaced states j k b s n h digits =
    let state : ℕ → ℕ = λ byte. byte / 4 ^ (k % 4) % 4 in
    elim (cases_eq (k / 4) (j / 4)) [
      | inl e ↦
          let byte : get_or (set states (j / 4) b) (k / 4) 0 ≡ b = ap (λ (i : ℕ). get_or (set states (j / 4) b) i 0) e ∙ get_or-set_same states (j / 4) b 0 (omega arith) in
          let old : get_or states (k / 4) 0 ≡ get_or states (j / 4) 0 = ap (λ (i : ℕ). get_or states i 0) e in
          ap state byte ∙ in_its_byte j k b s (get_or states (j / 4) 0) e digits ∙ ap (λ (o : ℕ). if k == j then s else state o) (sym old)
      | inr d ↦ chosen k j (state (get_or (set states (j / 4) b) (k / 4) 0)) s (state (get_or states (k / 4) 0))
          (λ q. absurd (d (ap (λ (i : ℕ). i / 4) q)))
          (λ q. ap state (get_or-set_other states (j / 4) (k / 4) b 0 d))
    ]
