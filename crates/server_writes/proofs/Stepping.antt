-- Lists gone through until something is found.
use Rattle.std.proofs.Common.{◌≡◌, ℕ, ◌+◌, ◌<◌, List, [], ◌∷◌, ◌++◌, length, get_or, drop, map, Option, Some, None, refl, sym, ap, ◌∙◌}
use Rattle.std.proofs.lemmas.List.{drop_all, drop_more}
use Rattle.std.proofs.lemmas.Option.{get_or_from_slice_get, slice_get_within}
use Rattle.std.specs.List.{slice_get}
use Rattle.std.specs.Option.{option_or}
use Rattle.ordered_map.specs.Chunks.{joined}
use Rattle.server_writes.specs.Wants.{first_of}
use Rattle.server_writes.proofs.Cached.{past}

first-append : {X Y : Type 0} (f : X → Option Y) (xs ys : List X) → first_of f (xs ++ ys) ≡ option_or (first_of f xs) (first_of f ys)
first-append f [] ys = refl
first-append {Y = Y} f (x ∷ xs) ys = ap (option_or (f x)) (first-append f xs ys) ∙ go (f x)
  where
    go : (o : Option Y) → option_or o (option_or (first_of f xs) (first_of f ys)) ≡ option_or (option_or o (first_of f xs)) (first_of f ys)
    go None = refl
    go (Some y) = refl

pub first-map : {X Y Z : Type 0} (f : Y → Option Z) (g : X → Y) (xs : List X) → first_of (λ x. f (g x)) xs ≡ first_of f (map g xs)
first-map f g [] = refl
first-map f g (x ∷ xs) = ap (option_or (f (g x))) (first-map f g xs)

-- ---- item after item
module _ {X Y : Type 0} (f : X → Option Y) (xs : List X) (i : ℕ) (x : X) (inside : i < length xs) (first : Option Y) (before : first_of f (drop i xs) ≡ first) where
  here : first_of f (drop i xs) ≡ option_or (f (get_or xs i x)) (first_of f (drop (i + 1) xs))
  here = ap (first_of f) (drop_more xs i x inside)

  pub item_passed : f (get_or xs i x) ≡ None → first_of f (drop (i + 1) xs) ≡ first
  item_passed none = sym (ap (λ o. option_or o (first_of f (drop (i + 1) xs))) none) ∙ sym here ∙ before

  pub item_found : (y : Y) → f (get_or xs i x) ≡ Some y → Some y ≡ first
  item_found y there = sym (ap (λ o. option_or o (first_of f (drop (i + 1) xs))) there) ∙ sym here ∙ before

-- ---- piece after piece
module _ {X Y : Type 0} (f : X → Option Y) (pieces : List (List X)) (i : ℕ) (piece : List X) (inside : i < length pieces) (is : piece ≡ get_or pieces i piece) (first : Option Y)
    (before : first_of f (joined (drop i pieces)) ≡ first) where
  at_piece : first_of f (joined (drop i pieces)) ≡ option_or (first_of f piece) (first_of f (joined (drop (i + 1) pieces)))
  at_piece = ap (λ rest. first_of f (joined rest)) (drop_more pieces i piece inside ∙ ap (λ p. p ∷ drop (i + 1) pieces) (sym is)) ∙ first-append f piece (joined (drop (i + 1) pieces))

  pub piece_passed : first_of f piece ≡ None → first_of f (joined (drop (i + 1) pieces)) ≡ first
  piece_passed none = sym (ap (λ o. option_or o (first_of f (joined (drop (i + 1) pieces)))) none) ∙ sym at_piece ∙ before

  pub piece_found : (y : Y) → first_of f piece ≡ Some y → Some y ≡ first
  piece_found y there = sym (ap (λ o. option_or o (first_of f (joined (drop (i + 1) pieces)))) there) ∙ sym at_piece ∙ before

-- ---- place after place
module _ {X Y : Type 0} (f : X → Option Y) (xs : List X) (i : ℕ) (first : Option Y) (before : first_of f (drop i xs) ≡ first) where
  pub place_beyond : slice_get xs i ≡ None → None ≡ first
  place_beyond none = sym (ap (first_of f) (drop_all i xs (past xs i none))) ∙ before

  pub place_passed : (x : X) → slice_get xs i ≡ Some x → f x ≡ None → first_of f (drop (i + 1) xs) ≡ first
  place_passed x is none = item_passed f xs i x (slice_get_within xs i x is) first before (ap f (get_or_from_slice_get xs i x x is) ∙ none)

  pub place_found : (x : X) → slice_get xs i ≡ Some x → (y : Y) → f x ≡ Some y → Some y ≡ first
  place_found x is y there = item_found f xs i x (slice_get_within xs i x is) first before y (ap f (get_or_from_slice_get xs i x x is) ∙ there)
