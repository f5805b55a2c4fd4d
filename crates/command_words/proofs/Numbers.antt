-- A numeral of 64 bits is what `parse` reads, and a number within bounds is not below the lower.
use Rattle.std.proofs.Common.{◌≡◌, ◌-◌, ◌^◌, ℕ, ◌<◌, ◌≤◌, Bool, true, false, ◌&&◌, if◌then◌else◌, leb, List, length, Some, None, Result, Ok, Err, refl, ap, subst, arith}
use Rattle.std.specs.Result.{OkIff, result_ok}
use Rattle.std.specs.Str.Parse.{ParsesUnsigned}
use Rattle.std.proofs.lemmas.Bool.{and_parts, false_from_ne_true, leb-true}
use Rattle.std.proofs.lemmas.Bool.Decides.{nat_tests}
use Rattle.std.proofs.lemmas.Str.Parse.{parse_digits}
use Rattle.script_definitions.specs.Numerals.{is_numeral, numeral_value, number_in}
use Rattle.script_definitions.proofs.NumeralLaws.{IsPlain-from_numeral, own}

pub parsed : {E : Type 0} (ds : List ℕ) (r : Result ℕ E) → is_numeral ds ≡ true → ParsesUnsigned 64 10 ds r → result_ok r ≡ number_in 0 (2 ^ 64 - 1) ds
parsed ds r is h =
    let p = IsPlain-from_numeral ds is in
    go r (parse_digits own 64 ds r h p.digits)
  where
    v : ℕ
    v = numeral_value ds

    go : {E : Type 0} (r : Result ℕ E) → OkIff r ((0 < length ds) × (v < 2 ^ 64)) v → result_ok r ≡ number_in 0 (2 ^ 64 - 1) ds
    go (Ok x) k =
        let low : leb 0 v ≡ true = grind (arith, nat_tests) in
        let small : leb v (2 ^ 64 - 1) ≡ true = grind (arith, nat_tests, k.0.1) in
        rw (is, low, small) (ap Some k.1)
    go (Err f) k =
        let some : 0 < length ds = (IsPlain-from_numeral ds is).some in
        let no : leb v (2 ^ 64 - 1) ≡ false = false_from_ne_true (leb v (2 ^ 64 - 1)) (λ t. k (some, (let low : v ≤ 2 ^ 64 - 1 = leb-true v (2 ^ 64 - 1) t in omega (arith, low)))) in
        let low : leb 0 v ≡ true = grind (arith, nat_tests) in
        rw (is, low, no) refl

chosen : (b : Bool) (m n : ℕ) → (if b then Some m else None) ≡ Some n → (b ≡ true) × (m ≡ n)
chosen true m n e = (refl, cc)
chosen false m n e = cc

pub number_in_least : (low high n : ℕ) (word : List ℕ) → number_in low high word ≡ Some n → low ≤ n
number_in_least low high n word e =
    let v = numeral_value word in
    let c = chosen (is_numeral word && leb low v && leb v high) v n e in
    let p = and_parts (is_numeral word && leb low v) (leb v high) c.0 in
    let q = and_parts (is_numeral word) (leb low v) p.0 in
    subst (λ k. low ≤ k) c.1 (leb-true low v q.1)
