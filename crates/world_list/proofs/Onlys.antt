-- Rows of events that may happen or not, each by a test.
use Rattle.std.proofs.Common.{◌≡◌, ℕ, Bool, true, false, ◌&&◌, List, [], ◌∷◌, ◌++◌, cond, filter, map, Option, Some, None, is_some, refl, sym, ap, ◌∙◌}
use Rattle.std.specs.List.{filter_map, flat_map, cons_option}
use Rattle.std.specs.List.Sorted.{IsStrictlySortedBy}
use Rattle.std.specs.Option.{option_map}
use Rattle.std.specs.Ordering.{nat_cmp}
use Rattle.std.proofs.lemmas.Bool.{false≢true}
use Rattle.frang_base.specs.Functions.{member}
use Rattle.core_definitions.specs.Enabled.{only}
use Rattle.core_definitions.specs.Events.{Event}
use Rattle.log_slots.proofs.Maps.{filter_member, filter_sorted, same_lists}

module _ {X : Type 0} (may : X → Bool) (event : X → Event) where
  abbrev pub those : List X → List Event
  those xs = flat_map (λ x. only (may x) (event x)) xs

  -- they are those of the list that pass
  pub those_pass : (xs : List X) → those xs ≡ map event (filter may xs)
  those_pass [] = refl
  those_pass (x ∷ xs) = go (may x) (those_pass xs)
    where
      go : (b : Bool) → those xs ≡ map event (filter may xs) → only b (event x) ++ those xs ≡ map event (cond b (x ∷ filter may xs) (filter may xs))
      go true rest = ap (λ es. event x ∷ es) rest
      go false rest = rest

-- of two lists in order, each of which has all that pass, the same pass
pub same_those : (may : ℕ → Bool) (event : ℕ → Event) (xs ys : List ℕ) → IsStrictlySortedBy nat_cmp xs → IsStrictlySortedBy nat_cmp ys →
    ((s : ℕ) → may s ≡ true → member s xs ≡ true) → ((s : ℕ) → may s ≡ true → member s ys ≡ true) → those may event xs ≡ those may event ys
same_those may event xs ys s t in_xs in_ys =
    those_pass may event xs ∙ ap (map event) (same_lists (filter may xs) (filter may ys) (filter_sorted may xs s) (filter_sorted may ys t) same) ∙ sym (those_pass may event ys)
  where
    by_test : (n : ℕ) (b : Bool) → may n ≡ b → (member n xs && may n) ≡ (member n ys && may n)
    by_test n true e = ap (λ c. c && may n) (in_xs n e ∙ sym (in_ys n e))
    by_test n false e = ap (λ c. member n xs && c) e ∙ and_false (member n xs) ∙ sym (ap (λ c. member n ys && c) e ∙ and_false (member n ys))
      where
        and_false : (b : Bool) → (b && false) ≡ false
        and_false true = refl
        and_false false = refl

    same : (n : ℕ) → member n (filter may xs) ≡ member n (filter may ys)
    same n = filter_member may n xs ∙ by_test n (may n) refl ∙ sym (filter_member may n ys)

-- those of a list without the ones of which something is missing that is needed to pass
module _ {X Y Z : Type 0} (key : X → Y) (may : Y → Bool) (event : Y → Event) (needs : Y → Option Z) where
  pub those_with : ((y : Y) → may y ≡ true → is_some (needs y) ≡ true) → (xs : List X) →
      flat_map (λ (one : Y × Z). only (may one.0) (event one.0)) (filter_map (λ x. option_map (λ z. (key x, z)) (needs (key x))) xs) ≡ those may event (map key xs)
  those_with needed [] = refl
  those_with needed (x ∷ xs) = go (needs (key x)) refl (those_with needed xs)
    where
      given : List X → List (Y × Z)
      given zs = filter_map (λ x. option_map (λ z. (key x, z)) (needs (key x))) zs

      may_not : needs (key x) ≡ None → (b : Bool) → may (key x) ≡ b → only b (event (key x)) ≡ []
      may_not none true is = absurd (false≢true (sym (ap is_some none) ∙ needed (key x) is))
      may_not none false is = refl

      go : (o : Option Z) → needs (key x) ≡ o →
          flat_map (λ (one : Y × Z). only (may one.0) (event one.0)) (given xs) ≡ those may event (map key xs) →
          flat_map (λ (one : Y × Z). only (may one.0) (event one.0)) (cons_option (option_map (λ z. (key x, z)) o) (given xs)) ≡ only (may (key x)) (event (key x)) ++ those may event (map key xs)
      go None none rest = rest ∙ ap (λ es. es ++ those may event (map key xs)) (sym (may_not none (may (key x)) refl))
      go (Some z) is rest = ap (λ es. only (may (key x)) (event (key x)) ++ es) rest
