-- Numerals are what decimal digits print, and what `parse` reads.
use Rattle.std.proofs.Common.{◌≡◌, ℕ, ◌^◌, ◌<◌, ◌≤◌, Bool, true, false, not, ◌&&◌, cond, eqb, ltb, leb, List, [], ◌∷◌, length, get_or, Some, None, Result, Ok, Err, refl, sym, ◌∙◌, ap, subst, arith, fold, zero, suc}
use Rattle.std.specs.List.{list_all}
use Rattle.std.specs.Int.{IsInRange}
use Rattle.std.specs.Fmt.{decimal}
use Rattle.std.specs.Str.{IsUtf8}
use Rattle.std.specs.Str.Parse.{ParsesUnsigned}
use Rattle.std.specs.Result.{OkIff, result_ok}
use Rattle.std.proofs.lemmas.Bool.{and_parts, and_from, false_from_ne_true, ltb-true, leb-true}
use Rattle.std.proofs.lemmas.Bool.Decides.{nat_tests}
use Rattle.std.proofs.lemmas.Str.{IsUtf8-from_ascii}
use Rattle.std.proofs.lemmas.Str.Parse.{IsDigitsTest, FoldsDigits, IsNumeralModel, numerals_by_fold, parse_digits}
use Rattle.std.proofs.lemmas.Fmt.{digits_decimal, digits_value-decimal, decimal_nonempty, first_decimal, decimal_digit, decimal-digits_value, IsAscii-from_digits}
use Rattle.script_definitions.specs.Numerals.{is_digit, is_numeral, digit_after, numeral_value, number_in}

-- a digit by its bounds
digit_range : (c : ℕ) → is_digit c ≡ true → IsInRange 48 57 c
digit_range c e = let p = and_parts (leb 48 c) (leb c 57) e in (grind (arith, nat_tests, p.0), grind (arith, nat_tests, p.1))

range_digit : (c : ℕ) → IsInRange 48 57 c → is_digit c ≡ true
range_digit c h = and_from (leb 48 c) (leb c 57) (grind (arith, nat_tests, h.0)) (grind (arith, nat_tests, h.1))

abbrev AreDigits : List ℕ → Type 0
AreDigits ds = list_all is_digit ds ≡ true

tells : IsDigitsTest AreDigits
tells = record {
  empty = refl;
  parts = λ c cs e. (digit_range c (and_parts (is_digit c) (list_all is_digit cs) e).0, (and_parts (is_digit c) (list_all is_digit cs) e).1);
  more = λ c cs h e. and_from (is_digit c) (list_all is_digit cs) (range_digit c h) e;
}

folds : FoldsDigits (λ n ds. fold digit_after n ds)
folds = record { empty = λ n. refl; more = λ n c cs h. refl }

pub own : IsNumeralModel AreDigits numeral_value
own = numerals_by_fold AreDigits tells (λ n ds. fold digit_after n ds) folds

-- what a numeral is, digit by digit
pub record IsPlain (ds : List ℕ) : Type 0 where
  pub digits : list_all is_digit ds ≡ true
  pub some : 0 < length ds
  pub no_zero : get_or ds 0 0 ≡ 48 → length ds ≡ 1

pub IsPlain-from_numeral : (ds : List ℕ) → is_numeral ds ≡ true → IsPlain ds
IsPlain-from_numeral [] e = cc
IsPlain-from_numeral (d ∷ []) e = record { digits = and_from (is_digit d) true e refl; some = omega arith; no_zero = λ _. refl }
IsPlain-from_numeral (d ∷ c ∷ ds) e =
    let p = and_parts (is_digit d && not (eqb d 48)) (list_all is_digit (c ∷ ds)) e in
    let q = and_parts (is_digit d) (not (eqb d 48)) p.0 in
    record { digits = and_from (is_digit d) (list_all is_digit (c ∷ ds)) q.0 p.1; some = omega arith; no_zero = λ h. absurd (grind (arith, nat_tests, q.1, h)) }

pub numeral-from_IsPlain : (ds : List ℕ) → IsPlain ds → is_numeral ds ≡ true
numeral-from_IsPlain [] h = absurd (let s : 0 < 0 = h.some in omega arith)
numeral-from_IsPlain (d ∷ []) h = (and_parts (is_digit d) true h.digits).0
numeral-from_IsPlain (d ∷ c ∷ ds) h =
    let p = and_parts (is_digit d) (list_all is_digit (c ∷ ds)) h.digits in
    let no : d ≡ 48 → ⊥ = λ e. (let n : suc (suc (length ds)) ≡ 1 = h.no_zero e in omega arith) in
    and_from (is_digit d && not (eqb d 48)) (list_all is_digit (c ∷ ds)) (and_from (is_digit d) (not (eqb d 48)) p.0 (grind (arith, nat_tests, no))) p.1

-- what is printed is a numeral, of that number
pub IsPlain-decimal : (n : ℕ) → n < 2 ^ 64 → IsPlain (decimal n)
IsPlain-decimal zero h = rw (decimal_digit 0 (omega arith)) (record { digits = refl; some = omega arith; no_zero = λ _. refl })
IsPlain-decimal (suc n) h = record { digits = digits_decimal own (suc n) h; some = decimal_nonempty (suc n) h; no_zero = λ e. absurd (let f : 48 < get_or (decimal (suc n)) 0 0 = first_decimal (suc n) (omega arith) h in omega (arith, f, e)) }

pub numeral-decimal : (n : ℕ) → n < 2 ^ 64 → is_numeral (decimal n) ≡ true
numeral-decimal n h = numeral-from_IsPlain (decimal n) (IsPlain-decimal n h)

-- a numeral is what is printed of its number
pub decimal-numeral : (ds : List ℕ) → is_numeral ds ≡ true → numeral_value ds < 2 ^ 64 → decimal (numeral_value ds) ≡ ds
decimal-numeral ds e small = let p = IsPlain-from_numeral ds e in decimal-digits_value own ds p.digits p.some p.no_zero small

-- a number within bounds is read from what is printed of it
pub number_in-decimal : (low high n : ℕ) → low ≤ n → n ≤ high → n < 2 ^ 64 → number_in low high (decimal n) ≡ Some n
number_in-decimal low high n l h small =
    let v : numeral_value (decimal n) ≡ n = digits_value-decimal own n small in
    let b : (is_numeral (decimal n) && leb low (numeral_value (decimal n)) && leb (numeral_value (decimal n)) high) ≡ true =
    and_from (is_numeral (decimal n) && leb low (numeral_value (decimal n))) (leb (numeral_value (decimal n)) high) (and_from (is_numeral (decimal n)) (leb low (numeral_value (decimal n))) (numeral-decimal n small) (rw v (grind (arith, nat_tests, l)))) (rw v (grind (arith, nat_tests, h))) in
    rw b (ap Some v)

-- what a number is read from
pub record IsNumber (low high n : ℕ) (word : List ℕ) : Type 0 where
  pub low_in : low ≤ n
  pub high_in : n ≤ high
  pub word_is : word ≡ decimal n

chosen : (b : Bool) (m n : ℕ) → cond b (Some m) None ≡ Some n → (b ≡ true) × (m ≡ n)
chosen true m n e = (refl, cc)
chosen false m n e = cc

pub number_in-Some : (low high n : ℕ) (word : List ℕ) → high < 2 ^ 64 → number_in low high word ≡ Some n → IsNumber low high n word
number_in-Some low high n word wide e =
    let v = numeral_value word in
    let c = chosen (is_numeral word && leb low v && leb v high) v n e in
    let p = and_parts (is_numeral word && leb low v) (leb v high) c.0 in
    let q = and_parts (is_numeral word) (leb low v) p.0 in
    let l : low ≤ v = grind (arith, nat_tests, q.1) in
    let h : v ≤ high = grind (arith, nat_tests, p.1) in
    record { low_in = subst (λ k. low ≤ k) c.1 l; high_in = subst (λ k. k ≤ high) c.1 h; word_is = sym (decimal-numeral word q.0 (omega arith)) ∙ ap decimal c.1 }

-- what `parse` answers of a numeral
pub numeral_utf8 : (ds : List ℕ) → is_numeral ds ≡ true → IsUtf8 ds
numeral_utf8 ds e = let p = IsPlain-from_numeral ds e in IsUtf8-from_ascii ds (IsAscii-from_digits ds (own.to ds p.digits))

pub parsed : {E : Type 0} (ds : List ℕ) (r : Result ℕ E) → is_numeral ds ≡ true → ParsesUnsigned 32 10 ds r → result_ok r ≡ cond (ltb (numeral_value ds) (2 ^ 32)) (Some (numeral_value ds)) None
parsed ds r e h =
    let p = IsPlain-from_numeral ds e in
    go r (parse_digits own 32 ds r h p.digits)
  where
    go : {E : Type 0} (r : Result ℕ E) → OkIff r ((0 < length ds) × (numeral_value ds < 2 ^ 32)) (numeral_value ds) → result_ok r ≡ cond (ltb (numeral_value ds) (2 ^ 32)) (Some (numeral_value ds)) None
    go (Ok x) k = let b : ltb (numeral_value ds) (2 ^ 32) ≡ true = grind (arith, nat_tests, k.0.1) in rw b (ap Some k.1)
    go (Err f) k =
        let no : ltb (numeral_value ds) (2 ^ 32) ≡ false = false_from_ne_true (ltb (numeral_value ds) (2 ^ 32)) (λ t. k ((IsPlain-from_numeral ds e).some, ltb-true (numeral_value ds) (2 ^ 32) t)) in rw no refl

pub number_in_most : (low high n : ℕ) (word : List ℕ) → number_in low high word ≡ Some n → n ≤ high
number_in_most low high n word e =
    let v = numeral_value word in
    let c = chosen (is_numeral word && leb low v && leb v high) v n e in
    let p = and_parts (is_numeral word && leb low v) (leb v high) c.0 in
    subst (λ k. k ≤ high) c.1 (leb-true v high p.1)
