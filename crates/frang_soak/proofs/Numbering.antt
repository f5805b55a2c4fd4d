-- Names of a letter and a number below 100: what they are, and that they are names.
use Rattle.std.proofs.Common.{◌≡◌, ℕ, ◌+◌, ◌/◌, ◌%◌, ◌<◌, ◌≤◌, ◌==◌, true, false, [], ◌∷◌, ◌++◌, refl, arith}
use Rattle.std.specs.Fmt.{decimal}
use Rattle.std.specs.Int.Digits.{digits_of}
use Rattle.std.proofs.lemmas.Bool.Decides.{nat_tests}
use Rattle.std.proofs.lemmas.Fmt.{decimal_digit, decimal-digits_of}
use Rattle.std.proofs.lemmas.Int.Digits.{digits_of_step}
use Rattle.frang_base.specs.Name.{is_name, is_name_byte}

pub one_digit : (n : ℕ) → n < 10 → decimal n ≡ (48 + n) ∷ []
one_digit n h = decimal_digit n h

none : (n : ℕ) → n ≡ 0 → digits_of 10 n ≡ []
none n e = rw e refl

pub two_digits : (n : ℕ) → 10 ≤ n → n < 100 → decimal n ≡ (48 + n / 10) ∷ (48 + n % 10) ∷ []
two_digits n low high =
    let tens : n / 10 / 10 ≡ 0 = omega arith in
    let ten : n / 10 % 10 ≡ n / 10 = omega arith in
    let last : digits_of 10 n ≡ digits_of 10 (n / 10) ++ (n % 10 ∷ []) = digits_of_step 10 n (omega arith) (omega arith) in
    let first : digits_of 10 (n / 10) ≡ digits_of 10 (n / 10 / 10) ++ (n / 10 % 10 ∷ []) = digits_of_step 10 (n / 10) (omega arith) (omega arith) in
    rw (decimal-digits_of n (omega arith) (omega arith), last, first, none (n / 10 / 10) tens, ten) refl

byte_above : (b : ℕ) → 47 < b → b < 127 → is_name_byte b ≡ true
byte_above b low high = grind (arith, nat_tests)

no_dot : (b : ℕ) → 47 < b → (b == 46) ≡ false
no_dot b low = grind (arith, nat_tests)

pub is_name_one : (letter a : ℕ) → 64 < letter → letter < 127 → 48 ≤ a → a < 58 → is_name (letter ∷ a ∷ []) ≡ true
is_name_one letter a low high least most =
    let one : is_name_byte letter ≡ true = byte_above letter (omega arith) high in
    let two : is_name_byte a ≡ true = byte_above a (omega arith) (omega arith) in
    let dot : (letter == 46) ≡ false = no_dot letter (omega arith) in
    rw (one, two, dot) refl

pub is_name_two : (letter a b : ℕ) → 64 < letter → letter < 127 → 48 ≤ a → a < 58 → 48 ≤ b → b < 58 → is_name (letter ∷ a ∷ b ∷ []) ≡ true
is_name_two letter a b low high least most least' most' =
    let one : is_name_byte letter ≡ true = byte_above letter (omega arith) high in
    let two : is_name_byte a ≡ true = byte_above a (omega arith) (omega arith) in
    let three : is_name_byte b ≡ true = byte_above b (omega arith) (omega arith) in
    rw (one, two, three) refl
