-- The first of the locks that are left passes a test, or those behind it stand as all do; and a set stays in order.
use Rattle.std.proofs.Common.{◌≡◌, ◌<◌, ◌+◌, ℕ, Bool, true, false, not, ◌||◌, cond, Some, List, [], Result, Ok, Err, OnOk, OnErr, drop, find, length, get_or, sym, ap, ◌∙◌, subst, arith, refl}
use Rattle.std.specs.BTreeMap.{insert_entry}
use Rattle.std.specs.List.{list_any, prefix_len}
use Rattle.std.specs.List.Sorted.{IsStrictlySortedBy}
use Rattle.std.specs.Map.{keys_of}
use Rattle.std.proofs.lemmas.List.{drop_more}
use Rattle.frang_base.specs.declared.lock.LockId.{LockId}
use Rattle.frang_base.specs.declared.lock.Mode.{Mode}
use Rattle.lock_definitions.specs.Order.{lock_cmp}
use Rattle.lock_definitions.proofs.LockOrder.{lock_total}
use Rattle.sorted_entries.proofs.Sorted.{sorted-insert_entry}

module _ {X : Type 0} (test : X → Bool) (xs : List X) (i : ℕ) (d : X) (inside : i < length xs) (r : Bool) (is : r ≡ test (get_or xs i d)) where
  any_next : (b : Bool) → r ≡ b → list_any test (drop i xs) ≡ b || list_any test (drop (i + 1) xs)
  any_next b e = ap (list_any test) (drop_more xs i d inside) ∙ ap (λ c. c || list_any test (drop (i + 1) xs)) (sym is ∙ e)

  pub any_here : r ≡ true → list_any test (drop i xs) ≡ list_any test xs → true ≡ list_any test xs
  any_here e before = sym (any_next true e) ∙ before

  pub any_behind : r ≡ false → list_any test (drop i xs) ≡ list_any test xs → list_any test (drop (i + 1) xs) ≡ list_any test xs
  any_behind e before = sym (any_next false e) ∙ before

  pub found_behind : r ≡ false → find test (drop i xs) ≡ find test xs → find test (drop (i + 1) xs) ≡ find test xs
  found_behind e before =
      sym (ap (find test) (drop_more xs i d inside) ∙ ap (λ c. cond c (Some (get_or xs i d)) (find test (drop (i + 1) xs))) (sym is ∙ e)) ∙ before

turned : (a b : Bool) → not a ≡ b → a ≡ not b
turned true true e = cc
turned true false e = refl
turned false true e = refl
turned false false e = cc

module _ {X : Type 0} (test : X → Bool) (xs : List X) (i : ℕ) (d : X) (inside : i < length xs) (r : Bool) (is : r ≡ not (test (get_or xs i d))) (count : ℕ) (before : prefix_len test xs ≡ count + prefix_len test (drop i xs)) where
  next : (b : Bool) → r ≡ not b → prefix_len test (drop i xs) ≡ cond b (1 + prefix_len test (drop (i + 1) xs)) 0
  next b e = ap (prefix_len test) (drop_more xs i d inside) ∙ ap (λ c. cond c (1 + prefix_len test (drop (i + 1) xs)) 0) (same b (sym is ∙ e))
    where
      same : (b : Bool) → not (test (get_or xs i d)) ≡ not b → test (get_or xs i d) ≡ b
      same true e = turned (test (get_or xs i d)) false e
      same false e = turned (test (get_or xs i d)) true e

  pub held_behind : r ≡ false → prefix_len test xs ≡ count + 1 + prefix_len test (drop (i + 1) xs)
  held_behind e = let here : prefix_len test (drop i xs) ≡ 1 + prefix_len test (drop (i + 1) xs) = next true e in omega (arith, here, before)

  pub held_here : r ≡ true → count ≡ prefix_len test xs
  held_here e = let here : prefix_len test (drop i xs) ≡ 0 = next false e in omega (arith, here, before)

-- ---- a set in order

abbrev pub none : List (LockId × Mode)
none = []

pub none_sorted : IsStrictlySortedBy lock_cmp (keys_of none)
unfolding IsStrictlySortedBy
none_sorted = tt

pub still_sorted : {T E : Type 0} (r : Result T E) (lock : LockId) (mode : Mode) (old new : List (LockId × Mode)) → IsStrictlySortedBy lock_cmp (keys_of old) → OnOk r (new ≡ insert_entry lock_cmp old lock mode) → OnErr r (new ≡ old)
    → IsStrictlySortedBy lock_cmp (keys_of new)
still_sorted (Ok x) lock mode old new sorted ok err = subst (λ z. IsStrictlySortedBy lock_cmp (keys_of z)) (sym ok) (sorted-insert_entry lock_total lock mode old sorted)
still_sorted (Err e) lock mode old new sorted ok err = subst (λ z. IsStrictlySortedBy lock_cmp (keys_of z)) (sym err) sorted
