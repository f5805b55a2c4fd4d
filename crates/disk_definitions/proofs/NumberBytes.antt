-- Bytes are those of the number that they are read as.
use Rattle.std.proofs.Common.{◌≡◌, ℕ, zero, suc, ◌+◌, ◌*◌, ◌<◌, ◌≤◌, List, [], ◌∷◌, ◌++◌, length, take, drop, slice_index, refl, sym, ap, ◌∙◌, append-nil, arith}
use Rattle.std.proofs.Math.Nat.{mod-lt}
use Rattle.std.proofs.lemmas.List.{length-take}
use Rattle.std.specs.Int.{bytes_low_first}
use Rattle.byteorder.specs.Endian.{little_from, little_bytes}
use Rattle.byteorder.specs.Numbers.{little_from-cons, little_from-take, little_from-lt, little_number-reads_back, length-bytes_low_first}
use Rattle.sector_bytes.specs.Bytes.{AreBytes, number_at}

-- bytes of one number are one
same_number : (n : ℕ) (xs ys : List ℕ) → length xs ≡ n → length ys ≡ n → AreBytes xs → AreBytes ys → little_from 0 n xs ≡ little_from 0 n ys → xs ≡ ys
same_number zero [] [] p q f g e = refl
same_number zero [] (y ∷ ys) p q f g e = absurd (omega arith)
same_number zero (x ∷ xs) ys p q f g e = absurd (omega arith)
same_number (suc n) [] ys p q f g e = absurd (omega arith)
same_number (suc n) (x ∷ xs) [] p q f g e = absurd (omega arith)
same_number (suc n) (x ∷ xs) (y ∷ ys) p q f g e =
    let a : little_from 1 n (x ∷ xs) ≡ little_from 0 n xs = little_from-cons 0 n x xs in
    let b : little_from 1 n (y ∷ ys) ≡ little_from 0 n ys = little_from-cons 0 n y ys in
    let small : x < 256 = f 0 in
    let little : y < 256 = g 0 in
    let h : x + 256 * little_from 1 n (x ∷ xs) ≡ y + 256 * little_from 1 n (y ∷ ys) = e in
    let high : little_from 0 n xs ≡ little_from 0 n ys = omega arith in
    let low : x ≡ y = omega arith in
    let rest = same_number n xs ys (omega arith) (omega arith) (λ k. f (suc k)) (λ k. g (suc k)) high in
    cc

bytes_are : (n i x k : ℕ) → slice_index (bytes_low_first i n x) k < 256
bytes_are zero i x k = omega arith
bytes_are (suc n) zero x zero = mod-lt x (omega arith)
bytes_are (suc n) (suc i) x zero = mod-lt _ (omega arith)
bytes_are (suc n) i x (suc k) = bytes_are n (suc i) x k

take_are : (n : ℕ) (xs : List ℕ) → AreBytes xs → AreBytes (take n xs)
take_are zero xs f k = omega arith
take_are (suc n) [] f k = omega arith
take_are (suc n) (x ∷ xs) f zero = f 0
take_are (suc n) (x ∷ xs) f (suc k) = take_are n xs (λ j. f (suc j)) k

pub drop_are : (n : ℕ) (xs : List ℕ) → AreBytes xs → AreBytes (drop n xs)
drop_are zero xs f k = f k
drop_are (suc n) [] f k = omega arith
drop_are (suc n) (x ∷ xs) f k = drop_are n xs (λ j. f (suc j)) k

-- the bytes of the number in the first n bytes are these
pub number_again : (n : ℕ) (xs : List ℕ) → AreBytes xs → n ≤ length xs → little_bytes n (number_at n 0 xs) ≡ take n xs
number_again n xs f h =
    let y = little_from 0 n xs in
    let back : little_from 0 n (little_bytes n y ++ []) ≡ y = little_number-reads_back n y [] (little_from-lt 0 n xs f) in
    let alone : little_from 0 n (little_bytes n y) ≡ y = ap (little_from 0 n) (sym (append-nil (little_bytes n y))) ∙ back in
    same_number n (little_bytes n y) (take n xs) (length-bytes_low_first 0 n y) (omega (arith, length-take n xs)) (λ k. bytes_are n 0 y k) (take_are n xs f)
    (alone ∙ sym (little_from-take 0 n n xs (omega arith)))
