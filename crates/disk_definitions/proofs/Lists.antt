-- Numbers below one, and what stands at the places of a list.
use Rattle.std.proofs.Common.{◌≡◌, ◌<◌, ◌≤◌, ℕ, zero, suc, ⊎_elim, true, ◌==◌, List, [], ◌∷◌, ◌++◌, map, length, length-append, take, drop, get_or, slice_index, refl, sym, ap, ◌∙◌, arith}
use Rattle.std.proofs.Math.Seq.{take-suc, get_or-append_seam}
use Rattle.std.proofs.lemmas.Bool.{and_from, cases_lt}
use Rattle.std.proofs.lemmas.List.{map-append, take_all, length-map, get_or-map, get_or_append_left}
use Rattle.tree_definitions.specs.Numbers.{below}
use Rattle.sector_bytes.specs.Bytes.{are_zero}

pub length_below : (n : ℕ) → length (below n) ≡ n
length_below zero = refl
length_below (suc n) = length-append (below n) (n ∷ []) ∙ omega (arith, length_below n)

pub below_at : (n j : ℕ) → j < n → get_or (below n) j 0 ≡ j
below_at zero j l = absurd (omega arith)
below_at (suc n) j l = ⊎_elim
    (λ m. get_or_append_left (below n) (n ∷ []) 0 j (omega (arith, length_below n)) ∙ below_at n j m)
    (λ m. let e : j ≡ length (below n) = omega (arith, length_below n) in ap (λ (i : ℕ). get_or (below n ++ n ∷ []) i 0) e ∙ get_or-append_seam (below n) n [] 0 ∙ sym (e ∙ length_below n))
    (cases_lt j n)

pub listed_at : (f : ℕ → ℕ) (n j : ℕ) → j < n → slice_index (map f (below n)) j ≡ f j
listed_at f n j l = get_or-map f (below n) j 0 0 (omega (arith, length_below n)) ∙ ap f (below_at n j l)

pub length_listed : (f : ℕ → ℕ) (n : ℕ) → length (map f (below n)) ≡ n
length_listed f n = length-map (below n) f ∙ length_below n

-- the values at the places of a list are the list
first_numbers : (xs : List ℕ) (n : ℕ) → n ≤ length xs → map (slice_index xs) (below n) ≡ take n xs
first_numbers xs zero l = refl
first_numbers xs (suc n) l =
    map-append (slice_index xs) (below n) (n ∷ []) ∙ ap (λ ys. ys ++ slice_index xs n ∷ []) (first_numbers xs n (omega arith)) ∙ sym (take-suc xs n 0 (omega arith))

pub all_numbers : (xs : List ℕ) (n : ℕ) → length xs ≡ n → map (slice_index xs) (below n) ≡ xs
all_numbers xs n e = first_numbers xs n (omega arith) ∙ take_all n xs (omega arith)

-- values that are 0 from one on
zero_from : (xs : List ℕ) (n : ℕ) → ((j : ℕ) → n ≤ j → j < length xs → slice_index xs j ≡ 0) → are_zero (drop n xs) ≡ true
zero_from [] zero z = refl
zero_from [] (suc n) z = refl
zero_from (x ∷ xs) zero z = and_from (x == 0) (are_zero xs) (let e : x ≡ 0 = z 0 (omega arith) (omega arith) in rw e refl) (zero_from xs zero (λ j l m. z (suc j) (omega arith) (omega arith)))
zero_from (x ∷ xs) (suc n) z = zero_from xs n (λ j l m. z (suc j) (omega arith) (omega arith))

pub ends_at : (f : ℕ → ℕ) (n : ℕ) → ((j : ℕ) → n ≤ j → f j ≡ 0) → are_zero (drop n (map f (below 16))) ≡ true
ends_at f n z = zero_from (map f (below 16)) n (λ j l m. let e : length (map f (below 16)) ≡ 16 = length_listed f 16 in listed_at f 16 j (omega arith) ∙ z j l)
