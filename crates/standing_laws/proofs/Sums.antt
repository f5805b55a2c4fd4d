-- Two maps whose keys correspond one to one, with equal weights, have equal sums.
use Rattle.std.proofs.Common.{◌≡◌, ◌≢◌, ℕ, ◌+◌, Option, Some, None, List, [], ◌∷◌, sum_by, refl, sym, ◌∙◌, ap, arith, unwrap_or}
use Rattle.std.specs.Option.{option_map}
use Rattle.std.specs.Map.{lookup, remove_entry, keys_of, values_of}
use Rattle.std.specs.BTreeMap.{is_at}
use Rattle.std.specs.declared.cmp.Ordering.{Ordering}
use Rattle.std.specs.List.Sorted.{IsStrictlySortedBy}
use Rattle.std.proofs.lemmas.Bool.{cond-true}
use Rattle.std.proofs.lemmas.List.Sums.{sum_by-cons}
use Rattle.std.proofs.lemmas.Map.Entries.{sum_by-remove_entry}
use Rattle.frang_base.proofs.Basics.{by_test}
use Rattle.tree_definitions.proofs.Pairs.{IsExact, tie, self, none_below, found_left, found_removed, sorted_removed}

-- a key with its weight, and the key that corresponds to it
pub record Meets {K L X Y : Type 0} (look : L → Option Y) (to : K → L) (back : L → K) (f : X → ℕ) (g : Y → ℕ) (k : K) (x : X) : Type 0 where
  pub value : Y
  pub found : look (to k) ≡ Some value
  pub home : back (to k) ≡ k
  pub weighs : f x ≡ g value

module _ {K L X Y : Type 0} (one : K → K → Ordering) (two : L → L → Ordering) (exact : IsExact one) (exact_two : IsExact two) (to : K → L) (back : L → K) (f : X → ℕ) (g : Y → ℕ) where
  -- the keys of each lead to keys of the other
  abbrev pub Correspond : List (K × X) → List (L × Y) → Type 0
  Correspond xs ys =
      ((k : K) (x : X) → lookup (is_at (one k)) xs ≡ Some x → Meets (λ l. lookup (is_at (two l)) ys) to back f g k x)
      × ((l : L) (y : Y) → lookup (is_at (two l)) ys ≡ Some y → Meets (λ k. lookup (is_at (one k)) xs) back to g f l y)

  none_left : (ys : List (L × Y)) → Correspond [] ys → sum_by f (values_of {K = K} []) ≡ sum_by g (values_of ys)
  none_left [] c = refl
  none_left (y ∷ ys) c = let m = c.1 y.0 y.1 (cond-true (is_at (two y.0) y.0) _ _ (self two exact_two y.0)) in absurd (let e : None ≡ Some m.value = m.found in cc)

  -- the first key and its partner taken away, the others correspond
  module _ (x : K × X) (xs : List (K × X)) (ys : List (L × Y)) (sorted : IsStrictlySortedBy one (keys_of (x ∷ xs))) (sorted_two : IsStrictlySortedBy two (keys_of ys)) (c : Correspond (x ∷ xs) ys) where
    abbrev rest : List (L × Y)
    rest = remove_entry (is_at (two (to x.0))) ys

    gone : lookup (is_at (one x.0)) xs ≡ None
    unfolding IsStrictlySortedBy
    gone = none_below one exact xs x.0 sorted.0

    in_tail : (k : K) (v : X) → lookup (is_at (one k)) xs ≡ Some v → (lookup (is_at (one k)) (x ∷ xs) ≡ Some v) × (k ≢ x.0)
    in_tail k v e =
        let ne : k ≢ x.0 = λ s. (let q : None ≡ Some v = sym gone ∙ ap (λ z. lookup (is_at (one z)) xs) (sym s) ∙ e in cc) in
        (by_test (λ z. z ≡ Some v) (Some x.1) (lookup (is_at (one k)) xs) (is_at (one k) x.0) (λ s. absurd (ne (tie one exact k x.0 s))) (λ s. e), ne)

    from_tail : (k : K) (v : X) → lookup (is_at (one k)) (x ∷ xs) ≡ Some v → k ≢ x.0 → lookup (is_at (one k)) xs ≡ Some v
    from_tail k v e ne = by_test (λ z. z ≡ Some v → lookup (is_at (one k)) xs ≡ Some v) (Some x.1) (lookup (is_at (one k)) xs) (is_at (one k) x.0) (λ s h. absurd (ne (tie one exact k x.0 s))) (λ s h. h) e

    in_rest : (l : L) (w : Y) → lookup (is_at (two l)) rest ≡ Some w → (lookup (is_at (two l)) ys ≡ Some w) × (l ≢ to x.0)
    in_rest l w e =
        let ne : l ≢ to x.0 = λ s. (let q : None ≡ Some w = sym (found_removed two exact_two ys (to x.0) sorted_two) ∙ ap (λ z. lookup (is_at (two z)) rest) (sym s) ∙ e in cc) in
        (sym (found_left two exact_two ys (to x.0) l ne) ∙ e, ne)

    forth : (k : K) (v : X) → lookup (is_at (one k)) xs ≡ Some v → Meets (λ l. lookup (is_at (two l)) rest) to back f g k v
    forth k v e =
        let t = in_tail k v e in
        let m = c.0 k v t.0 in
        let h = c.0 x.0 x.1 (cond-true (is_at (one x.0) x.0) _ _ (self one exact x.0)) in
        let ne : to k ≢ to x.0 = λ s. t.1 (sym m.home ∙ ap back s ∙ h.home) in
        record { value = m.value; found = found_left two exact_two ys (to x.0) (to k) ne ∙ m.found; home = m.home; weighs = m.weighs }

    backwards : (l : L) (w : Y) → lookup (is_at (two l)) rest ≡ Some w → Meets (λ k. lookup (is_at (one k)) xs) back to g f l w
    backwards l w e =
        let t = in_rest l w e in
        let m = c.1 l w t.0 in
        let ne : back l ≢ x.0 = λ s. t.1 (sym m.home ∙ ap to s) in
        record { value = m.value; found = from_tail (back l) m.value m.found ne; home = m.home; weighs = m.weighs }

    others : Correspond xs rest
    others = (forth, backwards)

    one_more : sum_by f (values_of xs) ≡ sum_by g (values_of rest) → sum_by f (values_of (x ∷ xs)) ≡ sum_by g (values_of ys)
    one_more later =
        let m = c.0 x.0 x.1 (cond-true (is_at (one x.0) x.0) _ _ (self one exact x.0)) in
        let a : sum_by f (values_of (x ∷ xs)) ≡ f x.1 + sum_by f (values_of xs) = sum_by-cons f x.1 (values_of xs) in
        let b : sum_by g (values_of rest) + unwrap_or (option_map g (lookup (is_at (two (to x.0))) ys)) 0 ≡ sum_by g (values_of ys) = sum_by-remove_entry g (is_at (two (to x.0))) ys in
        let d : unwrap_or (option_map g (lookup (is_at (two (to x.0))) ys)) 0 ≡ g m.value = ap (λ o. unwrap_or (option_map g o) 0) m.found in
        let e : f x.1 ≡ g m.value = m.weighs in
        omega arith

  tail_sorted : (x : K × X) (xs : List (K × X)) → IsStrictlySortedBy one (keys_of (x ∷ xs)) → IsStrictlySortedBy one (keys_of xs)
  unfolding IsStrictlySortedBy
  tail_sorted x xs s = s.1

  pub equal_sums : (xs : List (K × X)) (ys : List (L × Y)) → IsStrictlySortedBy one (keys_of xs) → IsStrictlySortedBy two (keys_of ys) → Correspond xs ys → sum_by f (values_of xs) ≡ sum_by g (values_of ys)
  equal_sums [] ys s t c = none_left ys c
  equal_sums (x ∷ xs) ys s t c = one_more x xs ys s t c (equal_sums xs (remove_entry (is_at (two (to x.0))) ys) (tail_sorted x xs s) (sorted_removed two exact_two ys (to x.0) t) (others x xs ys s t c))

-- where each weighs nothing, all weigh nothing
all_zero : {X : Type 0} (xs : List X) → sum_by (λ x. 0) xs ≡ 0
all_zero [] = refl
all_zero {X} (x ∷ xs) = let a : sum_by (λ y. 0) (x ∷ xs) ≡ 0 + sum_by (λ y. 0) xs = sum_by-cons (λ y. 0) x xs in let b : sum_by (λ y. 0) xs ≡ 0 = all_zero xs in omega arith

pub zero_sum : {K X : Type 0} (cmp : K → K → Ordering) (exact : IsExact cmp) (f : X → ℕ) (xs : List (K × X)) → IsStrictlySortedBy cmp (keys_of xs) → ((k : K) (x : X) → lookup (is_at (cmp k)) xs ≡ Some x → f x ≡ 0) → sum_by f (values_of xs) ≡ 0
zero_sum {K} {X} cmp exact f xs sorted none =
    equal_sums cmp cmp exact exact (λ k. k) (λ k. k) f (λ x. 0) xs xs sorted sorted
    (λ k x e. record { value = x; found = e; home = refl; weighs = none k x e }, λ k x e. record { value = x; found = e; home = refl; weighs = sym (none k x e) })
    ∙ all_zero (values_of xs)
