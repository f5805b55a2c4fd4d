-- The writes in flight, one after the other, by their places.
use Rattle.std.proofs.Common.{◌≡◌, ℕ, zero, suc, ◌+◌, List, [], ◌∷◌, ◌++◌, drop, Some, None, refl, sym, ap, ◌∙◌, add-one}
use Rattle.std.specs.List.{flat_map, slice_get}
use Rattle.std.specs.Map.{keys_of}
use Rattle.std.proofs.lemmas.Option.{same_Some}
use Rattle.core_definitions.specs.Events.{Event}
use Rattle.flight_laws.specs.Flights.{flights_of}
use Rattle.petal_disk.specs.Flying.{InFlight}

-- the list from a place on begins with what stands there
pub from_place : {X : Type 0} (xs : List X) (i : ℕ) (x : X) → slice_get xs i ≡ Some x → drop i xs ≡ x ∷ drop (i + 1) xs
from_place {X} xs i x at = go xs i at ∙ ap (λ n. x ∷ drop n xs) (sym (add-one i))
  where
    go : (xs : List X) (i : ℕ) → slice_get xs i ≡ Some x → drop i xs ≡ x ∷ drop (suc i) xs
    go [] i at = absurd (cc at)
    go (y ∷ ys) zero at = ap (λ z. z ∷ ys) (same_Some y x at)
    go (y ∷ ys) (suc i) at = go ys i at

pub past_place : {X : Type 0} (xs : List X) (i : ℕ) → slice_get xs i ≡ None → drop i xs ≡ drop (i + 1) xs
past_place {X} xs i at = go xs i at ∙ ap (λ n. drop n xs) (sym (add-one i))
  where
    go : (xs : List X) (i : ℕ) → slice_get xs i ≡ None → drop i xs ≡ drop (suc i) xs
    go [] zero at = refl
    go [] (suc i) at = refl
    go (y ∷ ys) zero at = absurd (cc at)
    go (y ∷ ys) (suc i) at = go ys i at

-- one more of what is listed, and those left
module _ {X : Type 0} (f : X → List Event) (xs : List X) where
  pub one_listed : (a b c : List Event) (i : ℕ) (x : X) → slice_get xs i ≡ Some x → b ++ flat_map f (drop i xs) ≡ a ++ flat_map f xs → c ≡ b ++ f x → c ++ flat_map f (drop (i + 1) xs) ≡ a ++ flat_map f xs
  one_listed a b c i x at before now =
      ap (λ es. es ++ flat_map f (drop (i + 1) xs)) now ∙ assoc b (f x) (flat_map f (drop (i + 1) xs)) ∙ ap (λ ys. b ++ flat_map f ys) (sym (from_place xs i x at)) ∙ before
    where
      assoc : (p q r : List Event) → (p ++ q) ++ r ≡ p ++ (q ++ r)
      assoc [] q r = refl
      assoc (y ∷ p) q r = ap (λ es. y ∷ es) (assoc p q r)

  pub none_listed : (a b : List Event) (i : ℕ) → slice_get xs i ≡ None → b ++ flat_map f (drop i xs) ≡ a ++ flat_map f xs → b ++ flat_map f (drop (i + 1) xs) ≡ a ++ flat_map f xs
  none_listed a b i at before = ap (λ ys. b ++ flat_map f ys) (sym (past_place xs i at)) ∙ before

-- their tickets
pub of_tickets : (f : ℕ → List Event) (flights : InFlight) → flat_map f (keys_of (flights_of flights)) ≡ flat_map (λ one. f one.0.0) flights
of_tickets f [] = refl
of_tickets f (one ∷ flights) = ap (λ es. f one.0.0 ++ es) (of_tickets f flights)
