-- What tests of the numbers below a bound tell of each number.
use Rattle.std.proofs.Common.{◌≡◌, ℕ, zero, suc, ◌+◌, ◌<◌, ◌⊎◌, inl, inr, ⊎_elim, Bool, true, false, not, ◌&&◌, ◌||◌, Option, Some, None, refl, sym, ◌∙◌, ap, arith, eqb-true, eq-eqb}
use Rattle.std.proofs.lemmas.Bool.{and_parts, and_from, or_cases, or_left, or_right, cases_eq, cases_order, not-true, not_from_false, false_from_ne_true, cond-true, cond-false, both_ways}
use Rattle.standing_laws.specs.Below.{all_below, any_below, find_below, holds, lists, is_new, are_distinct}

pub last_or_before : (i n : ℕ) → i < suc n → (i ≡ n) ⊎ (i < n)
last_or_before i n h = ⊎_elim (λ e. inl e) (λ ne. inr (omega arith)) (cases_eq i n)

pub all_at : (n : ℕ) (test : ℕ → Bool) → all_below n test ≡ true → (i : ℕ) → i < n → test i ≡ true
all_at zero test a i h = absurd (omega arith)
all_at (suc n) test a i h =
    let p = and_parts (all_below n test) (test n) a in
    ⊎_elim (λ e. ap test e ∙ p.1) (λ l. all_at n test p.0 i l) (last_or_before i n h)

pub all_from : (n : ℕ) (test : ℕ → Bool) → ((i : ℕ) → i < n → test i ≡ true) → all_below n test ≡ true
all_from zero test f = refl
all_from (suc n) test f = and_from (all_below n test) (test n) (all_from n test (λ i h. f i (omega arith))) (f n (omega arith))

pub any_at : (n : ℕ) (test : ℕ → Bool) → any_below n test ≡ true → (i : ℕ) × (i < n) × (test i ≡ true)
any_at zero test a = absurd (cc)
any_at (suc n) test a =
    ⊎_elim (λ e. (let r = any_at n test e in (r.0, (let l : r.0 < n = r.1 in omega arith), r.2))) (λ e. (n, omega arith, e)) (or_cases (any_below n test) (test n) a)

pub any_from : (n : ℕ) (test : ℕ → Bool) (i : ℕ) → i < n → test i ≡ true → any_below n test ≡ true
any_from zero test i h e = absurd (omega arith)
any_from (suc n) test i h e =
    ⊎_elim (λ s. or_right (any_below n test) (test n) (ap test (sym s) ∙ e)) (λ l. or_left (any_below n test) (test n) (any_from n test i l e)) (last_or_before i n h)

pub find_at : (n : ℕ) (test : ℕ → Bool) (i : ℕ) → find_below n test ≡ Some i → (i < n) × (test i ≡ true)
find_at zero test i e = absurd (cc)
find_at (suc n) test i e = go (find_at n test i) (test n) refl
  where
    go : (find_below n test ≡ Some i → (i < n) × (test i ≡ true)) → (b : Bool) → test n ≡ b → (i < suc n) × (test i ≡ true)
    go before true t =
        let q : Some n ≡ Some i = sym (cond-true (test n) (Some n) (find_below n test) t) ∙ e in
        let s : n ≡ i = cc in
        (omega arith, ap test (sym s) ∙ t)
    go before false t =
        let r = before (sym (cond-false (test n) (Some n) (find_below n test) t) ∙ e) in
        let l : i < n = r.0 in
        (omega arith, r.1)

pub find_none : (n : ℕ) (test : ℕ → Bool) → find_below n test ≡ None → (i : ℕ) → i < n → test i ≡ true → ⊥
find_none zero test e i h t = omega arith
find_none (suc n) test e i h t = go (λ f l. find_none n test f i l t) (test n) refl
  where
    go : (find_below n test ≡ None → i < n → ⊥) → (b : Bool) → test n ≡ b → ⊥
    go before true s = let q : Some n ≡ None = sym (cond-true (test n) (Some n) (find_below n test) s) ∙ e in cc
    go before false s =
        ⊎_elim (λ l. both_ways (test n) s (ap test (sym l) ∙ t)) (λ l. before (sym (cond-false (test n) (Some n) (find_below n test) s) ∙ e) l) (last_or_before i n h)

-- what one number alone passes is found there
pub find_only : (n : ℕ) (test : ℕ → Bool) (i : ℕ) → i < n → test i ≡ true → ((k : ℕ) → k < n → test k ≡ true → k ≡ i) → find_below n test ≡ Some i
find_only n test i h t only = go (find_below n test) refl
  where
    go : (o : Option ℕ) → find_below n test ≡ o → find_below n test ≡ Some i
    go None e = absurd (find_none n test e i h t)
    go (Some k) e = let f = find_at n test k e in e ∙ ap (λ x. Some x) (only k f.0 f.1)

pub holds_at : (o : Option ℕ) (k : ℕ) → holds o k ≡ true → o ≡ Some k
holds_at None k e = absurd (cc)
holds_at (Some l) k e = ap (λ x. Some x) (eqb-true l k e)

pub holds_from : (o : Option ℕ) (k : ℕ) → o ≡ Some k → holds o k ≡ true
holds_from o k e = ap (λ x. holds x k) e ∙ eq-eqb k k refl

pub lists_at : (f : ℕ → Option ℕ) (n k : ℕ) → lists f n k ≡ true → (t : ℕ) × (t < n) × (f t ≡ Some k)
lists_at f n k e = let r = any_at n (λ t. holds (f t) k) e in (r.0, r.1, holds_at (f r.0) k r.2)

pub lists_from : (f : ℕ → Option ℕ) (n k t : ℕ) → t < n → f t ≡ Some k → lists f n k ≡ true
lists_from f n k t h e = any_from n (λ u. holds (f u) k) t h (holds_from (f t) k e)

-- two places with one number, the first before the second
one_before : (f : ℕ → Option ℕ) (n i j k : ℕ) → are_distinct f n ≡ true → i < j → j < n → f i ≡ Some k → f j ≡ Some k → ⊥
one_before f n i j k d l h e g =
    let t : is_new f j (f j) ≡ true = all_at n (λ t. is_new f t (f t)) d j h in
    let u : not (lists f j k) ≡ true = sym (ap (is_new f j) g) ∙ t in
    both_ways (lists f j k) (not-true (lists f j k) u) (lists_from f j k i l e)

pub distinct_at : (f : ℕ → Option ℕ) (n : ℕ) → are_distinct f n ≡ true → (i j k : ℕ) → i < n → j < n → f i ≡ Some k → f j ≡ Some k → i ≡ j
distinct_at f n d i j k h l e g =
    ⊎_elim (λ s. s) (λ ne. absurd (⊎_elim (λ b. one_before f n i j k d b l e g) (λ b. one_before f n j i k d b h g e) (apart i j ne))) (cases_eq i j)
  where
    apart : (i j : ℕ) → (i ≡ j → ⊥) → (i < j) ⊎ (j < i)
    apart i j ne = ⊎_elim (λ e. absurd (ne e)) (λ o. o) (cases_order i j)

pub distinct_from : (f : ℕ → Option ℕ) (n : ℕ) → ((i j k : ℕ) → i < n → j < n → f i ≡ Some k → f j ≡ Some k → i ≡ j) → are_distinct f n ≡ true
distinct_from f n only = all_from n (λ t. is_new f t (f t)) (λ t h. new t h (f t) refl)
  where
    new : (t : ℕ) → t < n → (o : Option ℕ) → f t ≡ o → is_new f t o ≡ true
    new t h None e = refl
    new t h (Some k) e = not_from_false (lists f t k) (false_from_ne_true (lists f t k) (λ l.
        (let r = lists_at f t k l in
        let b : r.0 < t = r.1 in
        let s : r.0 ≡ t = only r.0 t k (omega arith) h r.2 e in
        omega arith)))

-- one number more, as a loop counts
pub all_more : (n : ℕ) (test : ℕ → Bool) → all_below (n + 1) test ≡ (all_below n test && test n)
all_more n test = let e : n + 1 ≡ suc n = omega arith in ap (λ k. all_below k test) e

pub any_more : (n : ℕ) (test : ℕ → Bool) → any_below (n + 1) test ≡ (any_below n test || test n)
any_more n test = let e : n + 1 ≡ suc n = omega arith in ap (λ k. any_below k test) e
