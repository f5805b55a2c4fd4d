-- Sums, counts and lists over the numbers below a bound: what one number adds, what is first, and when nothing is gathered.
use Rattle.std.proofs.Common.{◌≡◌, ℕ, zero, suc, ◌<◌, ◌≤◌, ◌⊎◌, inl, inr, ⊎_elim, Bool, true, false, Option, Some, None, List, [], ◌∷◌, ◌++◌, cond, refl, sym, ◌∙◌, ap, arith}
use Rattle.std.proofs.lemmas.Bool.{cases_lt, both_ways}
use Rattle.standing_laws.proofs.Bounded.{last_or_before}
use Rattle.report_definitions.specs.Sums.{sum_below, count_below, or_else, first_below, Fault, gathered}

pub sum_at : (n : ℕ) (f : ℕ → ℕ) (i : ℕ) → i < n → f i ≤ sum_below n f
sum_at zero f i h = absurd (omega arith)
sum_at (suc n) f i h = ⊎_elim (λ e. (let q : f i ≡ f n = ap f e in omega arith)) (λ l. (let r : f i ≤ sum_below n f = sum_at n f i l in omega arith)) (last_or_before i n h)

pub sum_same : (n : ℕ) (f g : ℕ → ℕ) → ((i : ℕ) → i < n → f i ≡ g i) → sum_below n f ≡ sum_below n g
sum_same zero f g h = refl
sum_same (suc n) f g h = let a : sum_below n f ≡ sum_below n g = sum_same n f g (λ i l. h i (omega arith)) in let b : f n ≡ g n = h n (omega arith) in omega arith

pub sum_zero : (n : ℕ) (f : ℕ → ℕ) → ((i : ℕ) → i < n → f i ≡ 0) → sum_below n f ≡ 0
sum_zero zero f h = refl
sum_zero (suc n) f h = let a : sum_below n f ≡ 0 = sum_zero n f (λ i l. h i (omega arith)) in let b : f n ≡ 0 = h n (omega arith) in omega arith

-- 1 for what passes
abbrev pub one_if : Bool → ℕ
one_if b = cond b 1 0

pub count_same : (n : ℕ) (p q : ℕ → Bool) → ((i : ℕ) → i < n → p i ≡ q i) → count_below n p ≡ count_below n q
count_same n p q h = sum_same n (λ i. one_if (p i)) (λ i. one_if (q i)) (λ i l. ap one_if (h i l))

pub count_zero : (n : ℕ) (p : ℕ → Bool) → ((i : ℕ) → i < n → p i ≡ false) → count_below n p ≡ 0
count_zero n p h = sum_zero n (λ i. one_if (p i)) (λ i l. ap one_if (h i l))

pub count_some : (n : ℕ) (p : ℕ → Bool) (i : ℕ) → i < n → p i ≡ true → 1 ≤ count_below n p
count_some n p i l h = let a : one_if (p i) ≤ count_below n p = sum_at n (λ i. one_if (p i)) i l in let b : one_if (p i) ≡ 1 = ap one_if h in omega arith

-- what fails from a number on isn't counted
pub count_cut : (m n : ℕ) (p : ℕ → Bool) → ((i : ℕ) → m ≤ i → p i ≡ false) → m ≤ n → count_below n p ≡ count_below m p
count_cut m zero p h l = let e : 0 ≡ m = omega arith in ap (λ k. count_below k p) e
count_cut m (suc n) p h l = ⊎_elim
    (λ b. (let e : suc n ≡ m = omega arith in ap (λ k. count_below k p) e))
    (λ b. (let r : count_below n p ≡ count_below m p = count_cut m n p h b in let z : one_if (p n) ≡ 0 = ap one_if (h n b) in omega arith)) (cases_lt n m)

either_of : (o t : Option ℕ) (k : ℕ) → or_else o t ≡ Some k → (o ≡ Some k) ⊎ ((o ≡ None) × (t ≡ Some k))
either_of None t k h = inr (refl, h)
either_of (Some j) t k h = inl h

-- the first one passes
pub first_at : (n : ℕ) (p : ℕ → Bool) (k : ℕ) → first_below n p ≡ Some k → (k < n) × (p k ≡ true)
first_at zero p k h = absurd (cc)
first_at (suc n) p k h = ⊎_elim (λ e. (let r = first_at n p k e in let l : k < n = r.0 in (omega arith, r.1))) (λ e. last (p n) refl e.1) (either_of (first_below n p) (cond (p n) (Some n) None) k h)
  where
    last : (b : Bool) → p n ≡ b → cond b (Some n) None ≡ Some k → (k < suc n) × (p k ≡ true)
    last true e h = let q : n ≡ k = cc in (omega arith, ap p (sym q) ∙ e)
    last false e h = absurd (cc)

neither_of : (o t : Option ℕ) → or_else o t ≡ None → (o ≡ None) × (t ≡ None)
neither_of None t h = (refl, h)
neither_of (Some j) t h = absurd (cc)

-- where there is no first one, none passes
pub first_none : (n : ℕ) (p : ℕ → Bool) → first_below n p ≡ None → (i : ℕ) → i < n → p i ≡ false
first_none zero p h i l = absurd (omega arith)
first_none (suc n) p h i l =
    let q = neither_of (first_below n p) (cond (p n) (Some n) None) h in
    ⊎_elim (λ e. ap p e ∙ last (p n) refl q.1) (λ b. first_none n p q.0 i b) (last_or_before i n l)
  where
    last : (b : Bool) → p n ≡ b → cond b (Some n) None ≡ None → p n ≡ false
    last true e h = absurd (cc)
    last false e h = e

pub first_some : (n : ℕ) (p : ℕ → Bool) (i : ℕ) → i < n → p i ≡ true → (k : ℕ) × (first_below n p ≡ Some k) × (k < n) × (p k ≡ true)
first_some n p i l h = go (first_below n p) refl
  where
    go : (o : Option ℕ) → first_below n p ≡ o → (k : ℕ) × (first_below n p ≡ Some k) × (k < n) × (p k ≡ true)
    go None e = absurd (both_ways (p i) (first_none n p e i l) h)
    go (Some k) e = let r = first_at n p k e in (k, e, r.0, r.1)

pub both_empty : (xs ys : List Fault) → xs ++ ys ≡ [] → (xs ≡ []) × (ys ≡ [])
both_empty [] ys h = (refl, h)
both_empty (x ∷ xs) ys h = absurd (cc)

pub empty_both : (xs ys : List Fault) → xs ≡ [] → ys ≡ [] → xs ++ ys ≡ []
empty_both xs ys h i = ap (λ (l : List Fault). l ++ ys) h ∙ i

pub none_gathered : (n : ℕ) (f : ℕ → List Fault) → gathered n f ≡ [] → (i : ℕ) → i < n → f i ≡ []
none_gathered zero f h i l = absurd (omega arith)
none_gathered (suc n) f h i l = let p = both_empty (gathered n f) (f n) h in ⊎_elim (λ e. ap f e ∙ p.1) (λ b. none_gathered n f p.0 i b) (last_or_before i n l)

pub gathered_none : (n : ℕ) (f : ℕ → List Fault) → ((i : ℕ) → i < n → f i ≡ []) → gathered n f ≡ []
gathered_none zero f h = refl
gathered_none (suc n) f h = empty_both (gathered n f) (f n) (gathered_none n f (λ i l. h i (omega arith))) (h n (omega arith))
