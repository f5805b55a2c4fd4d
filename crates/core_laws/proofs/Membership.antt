-- Which elements lists have that are put together.
use Rattle.std.proofs.Common.{ℕ, zero, suc, ◌≡◌, ◌⊎◌, inl, inr, ⊎_elim, Bool, true, false, List, [], ◌∷◌, IsTrue, refl, sym, ap, subst, map, arith}
use Rattle.std.specs.List.{Contains, flat_map}
use Rattle.std.proofs.lemmas.List.Elements.{Contains-append_cases, Contains-append_left, Contains-append_right, Contains-push, Contains-push_cases}
use Rattle.disk_definitions.proofs.Listed.{Among, among_left, among_right, among_either, among_map}
use Rattle.core_definitions.specs.Events.{Event}
use Rattle.core_definitions.specs.Enabled.{only, only_if, row_by_row}

-- ---- rows one behind another

-- it is one of the elements of the k-th row
abbrev pub InRow : ℕ → List (List Event) → Event → Type 0
InRow k [] e = ⊥
InRow zero (row ∷ rows) e = Among e row
InRow (suc k) (row ∷ rows) e = InRow k rows e

pub into_rows : (k : ℕ) (rows : List (List Event)) (e : Event) → InRow k rows e → Among e (row_by_row rows)
into_rows k [] e i = absurd i
into_rows zero (row ∷ rows) e i = among_left e row (row_by_row rows) i
into_rows (suc k) (row ∷ rows) e i = among_right e row (row_by_row rows) (into_rows k rows e i)

-- each row that has it gives the goal
abbrev pub EachRow : Event → Type 0 → List (List Event) → Type 0
EachRow e goal [] = Unit {0}
EachRow e goal (row ∷ rows) = (Among e row → goal) × EachRow e goal rows

pub from_rows : (rows : List (List Event)) (e : Event) (goal : Type 0) → EachRow e goal rows → Among e (row_by_row rows) → goal
from_rows [] e goal each i = absurd i
from_rows (row ∷ rows) e goal each i = ⊎_elim each.0 (λ j. from_rows rows e goal each.1 j) (among_either e row (row_by_row rows) i)

-- ---- what is made of each element

pub into_flat : {X Y : Type 0} (f : X → List Y) (xs : List X) (x : X) (y : Y) → Among x xs → Among y (f x) → Among y (flat_map f xs)
into_flat f [] x y i j = absurd i
into_flat f (z ∷ zs) x y i j =
    ⊎_elim (λ e. among_left y (f z) (flat_map f zs) (subst (λ w. Among y (f w)) e j)) (λ k. among_right y (f z) (flat_map f zs) (into_flat f zs x y k j)) i

pub record FromFlat {X Y : Type 0} (f : X → List Y) (xs : List X) (y : Y) : Type 0 where
  pub from : X
  pub there : Among from xs
  pub gives_it : Among y (f from)

pub from_flat : {X Y : Type 0} (f : X → List Y) (xs : List X) (y : Y) → Among y (flat_map f xs) → FromFlat f xs y
from_flat f [] y i = absurd i
from_flat f (z ∷ zs) y i =
    ⊎_elim
    (λ j. record { from = z; there = inl refl; gives_it = j })
    (λ j. let r : FromFlat f zs y = from_flat f zs y j in record { from = r.from; there = inr r.there; gives_it = r.gives_it })
    (among_either y (f z) (flat_map f zs) i)

pub into_map : {X Y : Type 0} (f : X → Y) (xs : List X) (x : X) → Among x xs → Among (f x) (map f xs)
into_map f xs x i = among_map f xs x (f x) i refl

pub record FromMap {X Y : Type 0} (f : X → Y) (xs : List X) (y : Y) : Type 0 where
  pub from : X
  pub there : Among from xs
  pub is : f from ≡ y

pub from_map : {X Y : Type 0} (f : X → Y) (xs : List X) (y : Y) → Among y (map f xs) → FromMap f xs y
from_map f [] y i = absurd i
from_map f (z ∷ zs) y i =
    ⊎_elim
    (λ e. record { from = z; there = inl refl; is = sym e })
    (λ j. let r : FromMap f zs y = from_map f zs y j in record { from = r.from; there = inr r.there; is = r.is })
    i

-- ---- tests

pub into_only : (test : Bool) (event : Event) → IsTrue test → Among event (only test event)
into_only true event h = inl refl
into_only false event h = absurd (cc)

pub record FromOnly (test : Bool) (event other : Event) : Type 0 where
  pub passes : IsTrue test
  pub is : event ≡ other

pub from_only : (test : Bool) (event other : Event) → Among other (only test event) → FromOnly test event other
from_only true event other i = ⊎_elim (λ e. record { passes = refl; is = sym e }) (λ j. absurd j) i
from_only false event other i = absurd i

pub into_only_if : {X : Type 0} (test : Bool) (xs : List X) (x : X) → IsTrue test → Among x xs → Among x (only_if test xs)
into_only_if true xs x h i = i
into_only_if false xs x h i = absurd (cc)

pub record FromOnlyIf {X : Type 0} (test : Bool) (xs : List X) (x : X) : Type 0 where
  pub passes : IsTrue test
  pub there : Among x xs

pub from_only_if : {X : Type 0} (test : Bool) (xs : List X) (x : X) → Among x (only_if test xs) → FromOnlyIf test xs x
from_only_if true xs x i = record { passes = refl; there = i }
from_only_if false xs x i = absurd i

-- ---- in std's words

nothing_in : {X : Type 0} (x : X) → Contains [] x → ⊥
nothing_in x h = absurd (grind (arith, h.1))

pub in_contains : {X : Type 0} (xs : List X) (x : X) → Among x xs → Contains xs x
in_contains [] x i = absurd i
in_contains (y ∷ ys) x (inl e) = Contains-append_left (y ∷ []) ys x (subst (Contains (y ∷ [])) (sym e) (Contains-push [] y))
in_contains (y ∷ ys) x (inr i) = Contains-append_right (y ∷ []) ys x (in_contains ys x i)

pub contains_in : {X : Type 0} (xs : List X) (x : X) → Contains xs x → Among x xs
contains_in [] x h = nothing_in x h
contains_in (y ∷ ys) x h =
    ⊎_elim
    (λ one. ⊎_elim (λ none. absurd (nothing_in x none)) (λ same. inl (sym same)) (Contains-push_cases [] y x one))
    (λ rest. inr (contains_in ys x rest))
    (Contains-append_cases (y ∷ []) ys x h)
