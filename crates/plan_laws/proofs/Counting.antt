-- As many numbers pass a test as a list has keys, where keys and such numbers lead to each other.
use Rattle.std.proofs.Common.{ℕ, zero, suc, ◌≡◌, ◌≢◌, ◌<◌, ◌≤◌, ◌+◌, Bool, true, false, Some, List, [], ◌∷◌, length, refl, sym, ◌∙◌, ap, arith, is_some}
use Rattle.std.specs.declared.cmp.Ordering.{Ordering}
use Rattle.std.specs.Map.{lookup, keys_of}
use Rattle.std.specs.BTreeMap.{is_at}
use Rattle.std.specs.List.Sorted.{IsStrictlySortedBy}
use Rattle.std.proofs.lemmas.Bool.{false_from_ne_true}
use Rattle.frang_base.specs.Functions.{put}
use Rattle.frang_base.proofs.Basics.{by_test, at_put, put_same, put_other}
use Rattle.tree_definitions.proofs.Pairs.{IsExact, tie, self, none_below}
use Rattle.disk_definitions.specs.Least.{count, one_if}
use Rattle.disk_definitions.proofs.PickCounts.{count_zero, count_more, count_none, count_less_one}

pub count_all : (f : ℕ → Bool) (n : ℕ) → ((q : ℕ) → q < n → f q ≡ true) → count f n ≡ n
count_all f zero h = count_zero f
count_all f (suc n) h =
    let e : f n ≡ true = h n (omega arith) in
    let r : count f n ≡ n = count_all f n (λ q l. h q (omega arith)) in
    let m : count f (suc n) ≡ 1 + count f n = count_more f n ∙ ap (λ (b : Bool). one_if b + count f n) e in omega arith

pub count_most : (f : ℕ → Bool) (n : ℕ) → count f n ≤ n
count_most f zero = let e : count f 0 ≡ 0 = count_zero f in omega arith
count_most f (suc n) =
    let e : count f (suc n) ≡ one_if (f n) + count f n = count_more f n in
    let r : count f n ≤ n = count_most f n in
    let o : one_if (f n) ≤ 1 = at_most_one (f n) in omega arith
  where
    at_most_one : (b : Bool) → one_if b ≤ 1
    at_most_one true = omega arith
    at_most_one false = omega arith

-- one that fails
pub count_less : (f : ℕ → Bool) (n q : ℕ) → q < n → f q ≡ false → count f n < n
count_less f n q l e =
    let m : count (put f q true) n ≡ count f n + 1 = count_less_one (put f q true) f n q l (put_same f q true) e (λ p k d. sym (put_other f q true p d)) in
    let k : count (put f q true) n ≤ n = count_most (put f q true) n in omega arith

pub rest_sorted : {K X : Type 0} (cmp : K → K → Ordering) (e : K × X) (es : List (K × X)) → IsStrictlySortedBy cmp (keys_of (e ∷ es)) → IsStrictlySortedBy cmp (keys_of es)
unfolding IsStrictlySortedBy
rest_sorted cmp e es sorted = sorted.1

-- a key of the rest isn't the head
pub not_head : {K X : Type 0} (cmp : K → K → Ordering) → IsExact cmp → (e : K × X) (es : List (K × X)) (k : K) → IsStrictlySortedBy cmp (keys_of (e ∷ es)) → is_some (lookup (is_at (cmp k)) es) ≡ true → k ≢ e.0
unfolding IsStrictlySortedBy
not_head cmp exact e es k sorted h i = let z : is_some (lookup (is_at (cmp k)) es) ≡ false = ap (λ y. is_some (lookup (is_at (cmp y)) es)) i ∙ ap is_some (none_below cmp exact es e.0 sorted.0) in cc

module _ {K X : Type 0} (cmp : K → K → Ordering) (exact : IsExact cmp) (spot : K → ℕ) (n : ℕ) where
  abbrev has : List (K × X) → K → Bool
  has es k = is_some (lookup (is_at (cmp k)) es)

  has_head : (e : K × X) (es : List (K × X)) → has (e ∷ es) e.0 ≡ true
  has_head e es = rw (self cmp exact e.0) refl

  same_has : (e : K × X) (es : List (K × X)) (k : K) → k ≢ e.0 → has (e ∷ es) k ≡ has es k
  same_has e es k f = by_test (λ x. is_some x ≡ has es k) (Some e.1) (lookup (is_at (cmp k)) es) (is_at (cmp k) e.0) (λ i. absurd (f (tie cmp exact k e.0 i))) (λ i. refl)

  pub count_keys : (es : List (K × X)) (f : ℕ → Bool) → IsStrictlySortedBy cmp (keys_of es) → ((k : K) → has es k ≡ true → (spot k < n) × (f (spot k) ≡ true)) →
      ((k l : K) → has es k ≡ true → has es l ≡ true → spot k ≡ spot l → k ≡ l) → ((q : ℕ) → q < n → f q ≡ true → (k : K) × (has es k ≡ true) × (spot k ≡ q)) → count f n ≡ length es
  count_keys [] f sorted into one onto = count_none f n (λ q l. false_from_ne_true (f q) (λ e. let r = onto q l e in let z : false ≡ true = r.1 in cc))
  count_keys (e ∷ es) f sorted into one onto =
      let h = into e.0 (has_head e es) in
      let other : (k : K) → has es k ≡ true → (has (e ∷ es) k ≡ true) × (spot k ≢ spot e.0) = λ k p.
      let d : k ≢ e.0 = not_head cmp exact e es k sorted p in let w : has (e ∷ es) k ≡ true = same_has e es k d ∙ p in (w, λ i. d (one k e.0 w (has_head e es) i)) in
      let more : count f n ≡ count (put f (spot e.0) false) n + 1 = count_less_one f (put f (spot e.0) false) n (spot e.0) h.0 h.1 (put_same f (spot e.0) false) (λ q l d. put_other f (spot e.0) false q d) in
      let rest : count (put f (spot e.0) false) n ≡ length es = count_keys es (put f (spot e.0) false) (rest_sorted cmp e es sorted)
      (λ k p. let o = other k p in let r = into k o.0 in (r.0, put_other f (spot e.0) false (spot k) o.1 ∙ r.1))
      (λ k l p q. one k l (other k p).0 (other l q).0)
      (λ q l. at_put (λ x. x ≡ true → (k : K) × (has es k ≡ true) × (spot k ≡ q)) f (spot e.0) false q (λ i t. absurd (cc))
      (λ i t. let r = onto q l t in let d : r.0 ≢ e.0 = λ j. i (sym r.2 ∙ ap spot j) in (r.0, sym (same_has e es r.0 d) ∙ r.1, r.2))) in
      omega arith
