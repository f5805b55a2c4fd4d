-- A list whose elements a function gives at numbers that follow each other.
use Rattle.std.proofs.Common.{◌≡◌, ℕ, zero, suc, ◌+◌, ◌<◌, ◌≤◌, Option, Some, None, List, [], ◌∷◌, ◌++◌, length, take, drop, map, get_or, refl, sym, ap, ◌∙◌, arith}
use Rattle.std.specs.List.{slice_get, filter_map}
use Rattle.std.proofs.lemmas.List.{map-append, take_more, get_or-drop, length-drop}
use Rattle.std.proofs.lemmas.List.Elements.{filter_map-append}
use Rattle.std.proofs.lemmas.Option.{get_or_from_slice_get}
use Rattle.tree_definitions.specs.Numbers.{below}

-- what a function gives at the m numbers from b on
abbrev pub given : {X : Type 0} → (ℕ → Option X) → ℕ → ℕ → List X
given f b m = filter_map f (map (λ k. b + k) (below m))

pub given_more : {X : Type 0} (f : ℕ → Option X) (b m : ℕ) (x : X) → f (b + m) ≡ Some x → given f b (suc m) ≡ given f b m ++ x ∷ []
given_more f b m x e =
    ap (filter_map f) (map-append (λ k. b + k) (below m) (m ∷ [])) ∙ filter_map-append f (map (λ k. b + k) (below m)) ((b + m) ∷ []) ∙ rw e refl

pub not_past : {X : Type 0} (xs : List X) (k : ℕ) → k < length xs → slice_get xs k ≡ None → ⊥
not_past [] k l e = omega arith
not_past (x ∷ xs) zero l e = cc
not_past (x ∷ xs) (suc k) l e = not_past xs k (omega arith) e

-- where the function gives a list's elements, they are read
pub read_run : {X : Type 0} (f : ℕ → Option X) (xs : List X) (b j m : ℕ) → j + m ≤ length xs → ((k : ℕ) → k < m → f (b + k) ≡ slice_get xs (j + k)) → given f b m ≡ take m (drop j xs)
read_run f xs b j zero l h = refl
read_run {X} f xs b j (suc m) l h = at (slice_get xs (j + m)) refl (read_run f xs b j m (omega arith) (λ k l. h k (omega arith)))
  where
    at : (o : Option X) → slice_get xs (j + m) ≡ o → given f b m ≡ take m (drop j xs) → given f b (suc m) ≡ take (suc m) (drop j xs)
    at None e rest = absurd (not_past xs (j + m) (omega arith) e)
    at (Some x) e rest =
        let here : get_or (drop j xs) m x ≡ x = get_or-drop j xs m x ∙ get_or_from_slice_get xs (j + m) x x e in
        let one : suc m ≡ m + 1 = omega arith in
        let within : m < length (drop j xs) = rw (length-drop j xs) (omega arith) in
        given_more f b m x (h m (omega arith) ∙ e)
        ∙ ap (λ ys. ys ++ x ∷ []) rest
        ∙ sym (ap (λ n. take n (drop j xs)) one ∙ take_more (drop j xs) m x within ∙ ap (λ y. take m (drop j xs) ++ y ∷ []) here)

pub behind_start : {X : Type 0} (xs ys : List X) (n k : ℕ) → length xs ≡ n → slice_get (xs ++ ys) (n + k) ≡ slice_get ys k
behind_start [] ys n k e = let z : n + k ≡ k = omega arith in ap (slice_get ys) z
behind_start (x ∷ xs) ys zero k e = absurd (omega arith)
behind_start (x ∷ xs) ys (suc n) k e = let z : suc n + k ≡ suc (n + k) = omega arith in ap (slice_get (x ∷ (xs ++ ys))) z ∙ behind_start xs ys n k (omega arith)

-- the first element of a rest
pub first_of_rest : {X : Type 0} (xs : List X) (j : ℕ) (y : X) (ys : List X) → y ∷ ys ≡ drop j xs → (slice_get xs j ≡ Some y) × (ys ≡ drop (j + 1) xs)
first_of_rest [] zero y ys e = absurd (cc)
first_of_rest [] (suc j) y ys e = absurd (cc)
first_of_rest (x ∷ xs) zero y ys e = let same : x ≡ y = cc in (ap (λ z. Some z) same, cc)
first_of_rest (x ∷ xs) (suc j) y ys e = let r = first_of_rest xs j y ys e in let n : suc j + 1 ≡ suc (j + 1) = omega arith in (r.0, r.1 ∙ ap (λ n. drop n (x ∷ xs)) (sym n))
