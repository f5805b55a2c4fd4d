-- A list whose elements are replaced one after the other by what a function makes of them.
use Rattle.std.proofs.Common.{◌≡◌, ℕ, ◌+◌, ◌<◌, ◌≤◌, List, ◌++◌, length, map, take, drop, set, get_or, ap, ◌∙◌, arith, length-append, length-drop, length-take-le}
use Rattle.std.proofs.lemmas.List.{take_all, drop_all, length-map, get_or_default, append-nil}
use Rattle.std.proofs.lemmas.List.Edits.{map_over_more}

module _ {X : Type 0} (f : X → X) (xs ys : List X) (i : ℕ) where
  -- the first i are replaced
  abbrev pub IsSoFar : Type 0
  IsSoFar = ys ≡ map f (take i xs) ++ drop i xs

  as_long : i < length xs → IsSoFar → length ys ≡ length xs
  as_long inside so_far = omega (arith, ap length so_far, length-append (map f (take i xs)) (drop i xs), length-map (take i xs) f, length-take-le i xs (omega arith), length-drop i xs)

  pub one_more : (d : X) → i < length xs → IsSoFar → set ys i (f (get_or ys i d)) ≡ map f (take (i + 1) xs) ++ drop (i + 1) xs
  one_more d inside so_far = map_over_more f xs ys i (get_or ys i d) inside so_far (get_or_default ys i d (get_or ys i d) (omega (arith, as_long inside so_far)))

  pub all_of_them : length xs ≤ i → IsSoFar → ys ≡ map f xs
  all_of_them past so_far = so_far ∙ (λ j. map f (take_all i xs past j) ++ drop_all i xs past j) ∙ append-nil (map f xs)
