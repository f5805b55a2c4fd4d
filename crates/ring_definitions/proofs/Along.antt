-- A fact of each element of a list and its number, where the numbers follow each other.
use Rattle.std.proofs.Common.{◌≡◌, ℕ, zero, suc, ◌+◌, ◌<◌, Some, List, [], ◌∷◌, ◌++◌, length, take, map, sym, ◌∙◌, subst, arith}
use Rattle.std.specs.List.{slice_get}
use Rattle.std.proofs.lemmas.List.{map-append, length-map}
use Rattle.std.proofs.lemmas.Option.{same_Some}
use Rattle.tree_definitions.specs.Numbers.{below}
use Rattle.disk_definitions.proofs.Lists.{length_below}

abbrev pub Along : {X : Type 0} → (ℕ → X → Type 0) → ℕ → List X → Type 0
Along P from [] = Unit {0}
Along P from (x ∷ xs) = P from x × Along P (from + 1) xs

pub along_append : {X : Type 0} (P : ℕ → X → Type 0) (from : ℕ) (xs ys : List X) → Along P from xs → Along P (from + length xs) ys → Along P from (xs ++ ys)
along_append P from [] ys h g = let e : from + 0 ≡ from = omega arith in subst (λ n. Along P n ys) e g
along_append P from (x ∷ xs) ys h g =
    let e : from + suc (length xs) ≡ from + 1 + length xs = omega arith in
    (h.0, along_append P (from + 1) xs ys h.1 (subst (λ n. Along P n ys) e g))

pub along_at : {X : Type 0} (P : ℕ → X → Type 0) (from : ℕ) (xs : List X) (k : ℕ) (x : X) → Along P from xs → slice_get xs k ≡ Some x → P (from + k) x
along_at P from [] k x h e = absurd (cc)
along_at P from (y ∷ ys) zero x h e =
    let here : from ≡ from + 0 = omega arith in
    subst (λ n. P n x) here (subst (P from) (same_Some y x e) h.0)
along_at P from (y ∷ ys) (suc k) x h e =
    let next : from + 1 + k ≡ from + suc k = omega arith in
    subst (λ n. P n x) next (along_at P (from + 1) ys k x h.1 e)

pub along_take : {X : Type 0} (P : ℕ → X → Type 0) (from n : ℕ) (xs : List X) → Along P from xs → Along P from (take n xs)
along_take P from zero xs h = tt
along_take P from (suc n) [] h = tt
along_take P from (suc n) (x ∷ xs) h = (h.0, along_take P (from + 1) n xs h.1)

-- of a function at each number below n
pub along_map : {X : Type 0} (P : ℕ → X → Type 0) (f : ℕ → X) (from n : ℕ) → ((k : ℕ) → k < n → P (from + k) (f k)) → Along P from (map f (below n))
along_map P f from zero h = tt
along_map P f from (suc n) h =
    let size : length (map f (below n)) ≡ n = length-map (below n) f ∙ length_below n in
    subst (Along P from) (sym (map-append f (below n) (n ∷ [])))
    (along_append P from (map f (below n)) (f n ∷ []) (along_map P f from n (λ k l. h k (omega arith)))
    (subst (λ m. P (from + m) (f n)) (sym size) (h n (omega arith)), tt))
