-- Tests of numbers below a bound: what one of them says of each number, and which bits stand for them.
use Rattle.std.proofs.Common.{◌≡◌, ℕ, zero, suc, ◌<◌, ◌^◌, Bool, true, false, ◌||◌, ◌&&◌, if◌then◌else◌, refl, sym, ap, ◌∙◌, subst, inl, inr, ◌⊎◌, arith}
use Rattle.std.specs.Prelude.{bit_and, bit_or, nat_lt}
use Rattle.std.specs.Int.Bits.{and_zero_l}
use Rattle.std.proofs.lemmas.Nat.{and_or_self, and_or_apart, pow_apart}
use Rattle.std.proofs.lemmas.Bool.{cases_eq, false≢true, and_left, or_left, or_parts}
use Rattle.std.proofs.lemmas.Bool.Decides.{nat_tests}
use mathlib.Core.Bool.{or-true}
use Rattle.lock_definitions.specs.Servers.{any_below, bits_below}

pub none_below : (passes : ℕ → Bool) (n : ℕ) → any_below passes n ≡ false → (t : ℕ) → t < n → passes t ≡ false
none_below passes zero none t below = absurd (omega arith)
none_below passes (suc n) none t below = go (cases_eq t n) (none_below passes n (or_parts _ _ none).0 t)
  where
    go : (t ≡ n) ⊎ (t ≡ n → ⊥) → (t < n → passes t ≡ false) → passes t ≡ false
    go (inl last) rest = ap passes last ∙ (or_parts (any_below passes n) (passes n) none).1
    go (inr apart) rest = rest (omega arith)

pub some_below : (passes : ℕ → Bool) (n t : ℕ) → t < n → passes t ≡ true → any_below passes n ≡ true
some_below passes zero t below passed = absurd (omega arith)
some_below passes (suc n) t below passed = go (cases_eq t n) (some_below passes n t)
  where
    go : (t ≡ n) ⊎ (t ≡ n → ⊥) → (t < n → passes t ≡ true → any_below passes n ≡ true) → (any_below passes n || passes n) ≡ true
    go (inl last) rest = ap (λ b. any_below passes n || b) (sym (ap passes last) ∙ passed) ∙ or-true (any_below passes n)
    go (inr apart) rest = or_left (any_below passes n) (passes n) (rest (omega arith) passed)

nothing_below : (t : ℕ) → nat_lt t 0 ≡ false
nothing_below t = grind (arith, nat_tests)

-- the bit of t is that of a passing number below the bound, or 0
pub bit_of : (passes : ℕ → Bool) (n t : ℕ) → bit_and (bits_below passes n) (2 ^ t) ≡ (if nat_lt t n && passes t then 2 ^ t else 0)
bit_of passes zero t = and_zero_l (2 ^ t) ∙ sym (ap (λ b. if b && passes t then 2 ^ t else 0) (nothing_below t))
bit_of passes (suc n) t = go (passes n) refl (cases_eq t n) (bit_of passes n t)
  where
    Bits : ℕ
    Bits = bits_below passes n

    chosen : (a b : Bool) → a ≡ b → (if a then 2 ^ t else 0) ≡ (if b then 2 ^ t else 0)
    chosen a b e = ap (λ c. if c then 2 ^ t else 0) e

    within : t ≡ n → nat_lt t (suc n) ≡ true
    within last = grind (arith, nat_tests)

    not_within : t ≡ n → nat_lt t n ≡ false
    not_within last = grind (arith, nat_tests)

    both : (a b c : Bool) → a ≡ true → b ≡ c → (a && b) ≡ c
    both true b c e f = f
    both false b c e f = absurd (false≢true e)

    apart_alike : (t ≡ n → ⊥) → nat_lt t n ≡ nat_lt t (suc n)
    apart_alike apart = grind (arith, nat_tests)

    go : (b : Bool) → passes n ≡ b → (t ≡ n) ⊎ (t ≡ n → ⊥) → bit_and Bits (2 ^ t) ≡ (if nat_lt t n && passes t then 2 ^ t else 0)
        → bit_and (if b then bit_or Bits (2 ^ n) else Bits) (2 ^ t) ≡ (if nat_lt t (suc n) && passes t then 2 ^ t else 0)
    go true passed (inl last) rest = subst (λ m. bit_and (bit_or Bits (2 ^ m)) (2 ^ t) ≡ (if nat_lt t (suc n) && passes t then 2 ^ t else 0)) last
        (and_or_self (2 ^ t) Bits ∙ sym (chosen (nat_lt t (suc n) && passes t) true (both _ _ true (within last) (ap passes last ∙ passed))))
    go true passed (inr apart) rest = and_or_apart (2 ^ t) Bits (2 ^ n) (pow_apart n t (λ e. apart (sym e))) ∙ rest ∙ chosen (nat_lt t n && passes t) (nat_lt t (suc n) && passes t) (ap (λ b. b && passes t) (apart_alike apart))
    go false failed (inl last) rest = rest ∙ chosen (nat_lt t n && passes t) (nat_lt t (suc n) && passes t) (and_left _ _ (not_within last) ∙ sym (both _ _ false (within last) (ap passes last ∙ failed)))
    go false failed (inr apart) rest = rest ∙ chosen (nat_lt t n && passes t) (nat_lt t (suc n) && passes t) (ap (λ b. b && passes t) (apart_alike apart))

-- no bit is set exactly where none passes
pub bits_of_none : (passes : ℕ → Bool) (n : ℕ) → any_below passes n ≡ false → bits_below passes n ≡ 0
bits_of_none passes zero none = refl
bits_of_none passes (suc n) none = ap (λ b. if b then bit_or (bits_below passes n) (2 ^ n) else bits_below passes n) (or_parts (any_below passes n) (passes n) none).1 ∙ bits_of_none passes n (or_parts (any_below passes n) (passes n) none).0

pub passing_below : (passes : ℕ → Bool) (n : ℕ) → any_below passes n ≡ true → (t : ℕ) × (t < n) × (passes t ≡ true)
passing_below passes zero some = absurd (false≢true some)
passing_below passes (suc n) some = go (any_below passes n) refl (passing_below passes n)
  where
    second : (a b : Bool) → a ≡ false → (a || b) ≡ true → b ≡ true
    second false b e f = f
    second true b e f = absurd (false≢true (sym e))

    go : (b : Bool) → any_below passes n ≡ b → (any_below passes n ≡ true → (t : ℕ) × (t < n) × (passes t ≡ true)) → (t : ℕ) × (t < suc n) × (passes t ≡ true)
    go true is rest = let found = rest is in (found.0, omega (arith, found.1), found.2)
    go false is rest = (n, omega arith, second (any_below passes n) (passes n) is some)
