-- Pieces of the list of enabled events: which rows and first numbers their events have, and that they ascend.
use Rattle.std.proofs.Common.{◌≡◌, ℕ, suc, ◌<◌, ◌≤◌, ◌+◌, Bool, true, false, List, [], ◌∷◌, ◌++◌, length, map, sym, ap, ◌∙◌, subst, arith}
use Rattle.std.specs.List.{AllByRecursion, flat_map}
use Rattle.std.specs.List.Sorted.{IsStrictlySortedBy}
use Rattle.std.specs.Ordering.{nat_cmp, ordering_then}
use Rattle.std.specs.declared.cmp.Ordering.{Ordering}
use Rattle.std.specs.declared.cmp.Ordering.TheVariants.{Less, Equal}
use Rattle.sorted_entries.proofs.Sorted.{all_along}
use Rattle.frang_base.proofs.Tests.{cmp_itself, cmp_less}
use Rattle.frang_base.proofs.Lists.{all_append}
use Rattle.lock_definitions.specs.Order.{lock_cmp}
use Rattle.lock_definitions.proofs.LockOrder.{lock_itself}
use Rattle.core_definitions.specs.Events.{Event}
use Rattle.core_definitions.specs.Enabled.{only, only_if, row_by_row}
use Rattle.core_laws.specs.EventOrder.{event_cmp, first_of, last_of, lock_of, row_of}
use Rattle.core_laws.proofs.Sorting.{all_flat, all_flat_from, sorted_append, sorted_none, sorted_one}

-- ---- the order

equal : (m n : ℕ) → m ≡ n → nat_cmp m n ≡ Equal
equal m n e = subst (λ k. nat_cmp m k ≡ Equal) e (cmp_itself m)

-- by the row
pub by_row : (x y : Event) → row_of x < row_of y → event_cmp x y ≡ Less
by_row x y h = ap (λ o. ordering_then o (ordering_then (nat_cmp (first_of x) (first_of y)) (ordering_then (lock_cmp (lock_of x) (lock_of y)) (nat_cmp (last_of x) (last_of y))))) (cmp_less (row_of x) (row_of y) h)

-- in a row by the first number
pub by_first : (x y : Event) → row_of x ≡ row_of y → nat_cmp (first_of x) (first_of y) ≡ Less → event_cmp x y ≡ Less
by_first x y r h =
    ap (λ o. ordering_then o (ordering_then (nat_cmp (first_of x) (first_of y)) (ordering_then (lock_cmp (lock_of x) (lock_of y)) (nat_cmp (last_of x) (last_of y))))) (equal (row_of x) (row_of y) r)
    ∙ ap (λ o. ordering_then o (ordering_then (lock_cmp (lock_of x) (lock_of y)) (nat_cmp (last_of x) (last_of y)))) h

-- then by the lock
pub by_lock : (x y : Event) → row_of x ≡ row_of y → first_of x ≡ first_of y → lock_cmp (lock_of x) (lock_of y) ≡ Less → event_cmp x y ≡ Less
by_lock x y r f h =
    ap (λ o. ordering_then o (ordering_then (nat_cmp (first_of x) (first_of y)) (ordering_then (lock_cmp (lock_of x) (lock_of y)) (nat_cmp (last_of x) (last_of y))))) (equal (row_of x) (row_of y) r)
    ∙ ap (λ o. ordering_then o (ordering_then (lock_cmp (lock_of x) (lock_of y)) (nat_cmp (last_of x) (last_of y)))) (equal (first_of x) (first_of y) f)
    ∙ ap (λ o. ordering_then o (nat_cmp (last_of x) (last_of y))) h

-- and then by the last number
pub by_last : (x y : Event) → row_of x ≡ row_of y → first_of x ≡ first_of y → lock_of x ≡ lock_of y → nat_cmp (last_of x) (last_of y) ≡ Less →
    event_cmp x y ≡ Less
by_last x y r f l h =
    ap (λ o. ordering_then o (ordering_then (nat_cmp (first_of x) (first_of y)) (ordering_then (lock_cmp (lock_of x) (lock_of y)) (nat_cmp (last_of x) (last_of y))))) (equal (row_of x) (row_of y) r)
    ∙ ap (λ o. ordering_then o (ordering_then (lock_cmp (lock_of x) (lock_of y)) (nat_cmp (last_of x) (last_of y)))) (equal (first_of x) (first_of y) f)
    ∙ ap (λ o. ordering_then o (nat_cmp (last_of x) (last_of y))) (subst (λ m. lock_cmp (lock_of x) m ≡ Equal) l (lock_itself (lock_of x)))
    ∙ h

-- an event isn't below itself
pub not_below_itself : (x : Event) → event_cmp x x ≡ Equal
not_below_itself x =
    ap (λ o. ordering_then o (ordering_then (nat_cmp (first_of x) (first_of x)) (ordering_then (lock_cmp (lock_of x) (lock_of x)) (nat_cmp (last_of x) (last_of x))))) (cmp_itself (row_of x))
    ∙ ap (λ o. ordering_then o (ordering_then (lock_cmp (lock_of x) (lock_of x)) (nat_cmp (last_of x) (last_of x)))) (cmp_itself (first_of x))
    ∙ ap (λ o. ordering_then o (nat_cmp (last_of x) (last_of x))) (lock_itself (lock_of x))
    ∙ cmp_itself (last_of x)

-- ---- pieces

-- they are of this row, and of this first number
abbrev pub IsOf : ℕ → ℕ → Event → Type 0
IsOf row first event = (row_of event ≡ row) × (first_of event ≡ first)

abbrev pub AreOf : ℕ → ℕ → List Event → Type 0
AreOf row first events = AllByRecursion (IsOf row first) events

abbrev pub AreOfRow : ℕ → List Event → Type 0
AreOfRow row events = AllByRecursion (λ event. row_of event ≡ row) events

abbrev pub Rises : List Event → Type 0
Rises events = IsStrictlySortedBy event_cmp events

pub only_all : (P : Event → Type 0) (test : Bool) (event : Event) → P event → AllByRecursion P (only test event)
only_all P true event p = (p, tt)
only_all P false event p = tt

pub only_rises : (test : Bool) (event : Event) → Rises (only test event)
only_rises true event = sorted_one event_cmp event
only_rises false event = sorted_none event_cmp

pub only_if_sorted : {X : Type 0} (cmp : X → X → Ordering) (test : Bool) (xs : List X) → IsStrictlySortedBy cmp xs → IsStrictlySortedBy cmp (only_if test xs)
only_if_sorted cmp true xs s = s
only_if_sorted cmp false xs s = sorted_none cmp

-- one event at most for each of an ascending list
module _ {X : Type 0} (cmp : X → X → Ordering) (test : X → Bool) (event : X → Event) (rises : (x y : X) → cmp x y ≡ Less → event_cmp (event x) (event y) ≡ Less) where
  above : (x : X) (xs : List X) → AllByRecursion (λ y. cmp x y ≡ Less) xs →
      AllByRecursion (λ e. event_cmp (event x) e ≡ Less) (flat_map (λ y. only (test y) (event y)) xs)
  above x xs all = all_flat_from (λ e. event_cmp (event x) e ≡ Less) (λ y. only (test y) (event y)) (λ y l. only_all (λ e. event_cmp (event x) e ≡ Less) (test y) (event y) (rises x y l)) xs all

  pub each_only_rises : (xs : List X) → IsStrictlySortedBy cmp xs → Rises (flat_map (λ x. only (test x) (event x)) xs)
  unfolding IsStrictlySortedBy
  each_only_rises [] s = tt
  each_only_rises (x ∷ xs) s = go (test x) (above x xs s.0) (each_only_rises xs s.1)
    where
      go : (b : Bool) → AllByRecursion (λ e. event_cmp (event x) e ≡ Less) (flat_map (λ y. only (test y) (event y)) xs) →
          Rises (flat_map (λ y. only (test y) (event y)) xs) →
          Rises (only b (event x) ++ flat_map (λ y. only (test y) (event y)) xs)
      go true a r = (a, r)
      go false a r = r

-- ---- a row: pieces one behind another, by ascending first numbers

module _ {X : Type 0} (row : ℕ) (number : X → ℕ) (piece : X → List Event) (of : (x : X) → AreOf row (number x) (piece x)) where
  pub row_all : (xs : List X) → AreOfRow row (flat_map piece xs)
  row_all xs = all_flat (λ e. row_of e ≡ row) piece (λ x. all_along (λ e o. o.0) (piece x) (of x)) xs

  piece_below : (x y : X) → nat_cmp (number x) (number y) ≡ Less → AllByRecursion (λ e. AllByRecursion (λ f. event_cmp e f ≡ Less) (piece y)) (piece x)
  piece_below x y l = all_along (λ e o. all_along (λ f p. by_first e f (o.0 ∙ sym p.0) (subst (λ m. nat_cmp m (first_of f) ≡ Less) (sym o.1) (subst (λ n. nat_cmp (number x) n ≡ Less) (sym p.1) l))) (piece y) (of y)) (piece x) (of x)

  -- every event of a piece is below those of the pieces behind it
  swapped : (xs : List Event) (ys zs : List Event) → AllByRecursion (λ e. AllByRecursion (λ f. event_cmp e f ≡ Less) ys) xs →
      AllByRecursion (λ e. AllByRecursion (λ f. event_cmp e f ≡ Less) zs) xs →
      AllByRecursion (λ e. AllByRecursion (λ f. event_cmp e f ≡ Less) (ys ++ zs)) xs
  swapped [] ys zs a b = tt
  swapped (x ∷ xs) ys zs a b = (all_append (λ f. event_cmp x f ≡ Less) ys zs a.0 b.0, swapped xs ys zs a.1 b.1)

  none_behind : (xs : List Event) → AllByRecursion (λ e. AllByRecursion (λ f. event_cmp e f ≡ Less) []) xs
  none_behind [] = tt
  none_behind (x ∷ xs) = (tt, none_behind xs)

  pieces_behind : (x : X) (xs : List X) → AllByRecursion (λ n. nat_cmp (number x) n ≡ Less) (map number xs) →
      AllByRecursion (λ e. AllByRecursion (λ f. event_cmp e f ≡ Less) (flat_map piece xs)) (piece x)
  pieces_behind x [] all = none_behind (piece x)
  pieces_behind x (y ∷ ys) all = swapped (piece x) (piece y) (flat_map piece ys) (piece_below x y all.0) (pieces_behind x ys all.1)

  pub row_rises : ((x : X) → Rises (piece x)) → (xs : List X) → IsStrictlySortedBy nat_cmp (map number xs) → Rises (flat_map piece xs)
  unfolding IsStrictlySortedBy
  row_rises rise [] s = tt
  row_rises rise (x ∷ xs) s = sorted_append event_cmp (piece x) (flat_map piece xs) (rise x) (row_rises rise xs s.1) (pieces_behind x xs s.0)

-- ---- rows one behind another

abbrev pub AreRows : ℕ → List (List Event) → Type 0
AreRows row [] = Unit {0}
AreRows row (events ∷ rows) = AreOfRow row events × AreRows (suc row) rows

abbrev pub AllRise : List (List Event) → Type 0
AllRise [] = Unit {0}
AllRise (events ∷ rows) = Rises events × AllRise rows

-- the rows of their events
pub rows_within : (row : ℕ) (rows : List (List Event)) → AreRows row rows →
    AllByRecursion (λ e. (row ≤ row_of e) × (row_of e < row + length rows)) (row_by_row rows)
rows_within row [] r = tt
rows_within row (events ∷ rows) r =
    all_append (λ e. (row ≤ row_of e) × (row_of e < row + suc (length rows))) events (row_by_row rows) (all_along (λ e is. (low e is, high e is)) events r.0) (all_along (λ e in_. (lower e in_.0, higher e in_.1)) (row_by_row rows) (rows_within (suc row) rows r.1))
  where
    low : (e : Event) → row_of e ≡ row → row ≤ row_of e
    low e is = omega (arith, is)

    high : (e : Event) → row_of e ≡ row → row_of e < row + suc (length rows)
    high e is = omega (arith, is)

    lower : (e : Event) → suc row ≤ row_of e → row ≤ row_of e
    lower e h = omega (arith, h)

    higher : (e : Event) → row_of e < suc row + length rows → row_of e < row + suc (length rows)
    higher e h = omega (arith, h)

pub rows_rise : (row : ℕ) (rows : List (List Event)) → AreRows row rows → AllRise rows → Rises (row_by_row rows)
rows_rise row [] r a = sorted_none event_cmp
rows_rise row (events ∷ rows) r a =
    sorted_append event_cmp events (row_by_row rows) a.0 (rows_rise (suc row) rows r.1 a.1)
    (all_along (λ e is. all_along (λ f in_. by_row e f (under e f is in_.0)) (row_by_row rows) (rows_within (suc row) rows r.1)) events r.0)
  where
    under : (e f : Event) → row_of e ≡ row → suc row ≤ row_of f → row_of e < row_of f
    under e f is h = omega (arith, is, h)
