-- What the least number that passes a test is, and how the search for it goes on.
use Rattle.std.proofs.Common.{ℕ, zero, suc, ◌≡◌, ◌<◌, ◌≤◌, ◌+◌, ◌-◌, ◌⊎◌, ⊎_elim, Bool, true, false, Option, Some, None, refl, sym, ap, subst, ◌∙◌, arith}
use Rattle.disk_definitions.specs.Least.{least_from, least}

pub from_here : (test : ℕ → Bool) (i n : ℕ) → test i ≡ true → least_from test i (suc n) ≡ Some i
unfolding least_from
from_here test i n e = rw (e, least_from) refl

pub from_next : (test : ℕ → Bool) (i n : ℕ) → test i ≡ false → least_from test i (suc n) ≡ least_from test (i + 1) n
unfolding least_from
from_next test i n e = rw (e, least_from) refl

pub from_none : (test : ℕ → Bool) (i : ℕ) → least_from test i 0 ≡ None
unfolding least_from
from_none test i = refl

pub least_below : (test : ℕ → Bool) (n : ℕ) → least test n ≡ least_from test 0 n
unfolding least
least_below test n = refl

-- numbers that fail are passed over
pub passed_over : (test : ℕ → Bool) (a n m : ℕ) → ((j : ℕ) → a ≤ j → j < a + n → test j ≡ false) → least_from test a (n + m) ≡ least_from test (a + n) m
passed_over test a zero m h = let e : a + 0 ≡ a = omega arith in let f : 0 + m ≡ m = omega arith in rw (e, f) refl
passed_over test a (suc n) m h =
    let e : suc n + m ≡ suc (n + m) = omega arith in
    let f : a + suc n ≡ a + 1 + n = omega arith in
    rw (e, f) (from_next test a (n + m) (h a (omega arith) (omega arith)) ∙ passed_over test (a + 1) n m (λ j lo hi. h j (omega arith) (omega arith)))

-- up to an end
pub passed_to : (test : ℕ → Bool) (a b end : ℕ) → a ≤ b → b ≤ end → ((j : ℕ) → a ≤ j → j < b → test j ≡ false) → least_from test a (end - a) ≡ least_from test b (end - b)
passed_to test a b end lo hi h =
    let e : end - a ≡ (b - a) + (end - b) = omega arith in
    let f : a + (b - a) ≡ b = omega arith in
    rw e (passed_over test a (b - a) (end - b) (λ j l u. h j l (omega arith)) ∙ ap (λ (x : ℕ). least_from test x (end - b)) f)

-- one that passes behind numbers that fail is the least
pub found_at : (test : ℕ → Bool) (a k end : ℕ) → a ≤ k → k < end → test k ≡ true → ((j : ℕ) → a ≤ j → j < k → test j ≡ false) → least_from test a (end - a) ≡ Some k
found_at test a k end lo hi t h =
    let e : end - k ≡ suc (end - k - 1) = omega arith in
    passed_to test a k end lo (omega arith) h ∙ ap (λ (n : ℕ). least_from test k n) e ∙ from_here test k (end - k - 1) t

pub least_at : (test : ℕ → Bool) (k n : ℕ) → k < n → test k ≡ true → ((j : ℕ) → j < k → test j ≡ false) → least test n ≡ Some k
least_at test k n l t h =
    let e : n - 0 ≡ n = omega arith in
    least_below test n ∙ ap (λ (m : ℕ). least_from test 0 m) (sym e) ∙ found_at test 0 k n (omega arith) l t (λ j lo hi. h j hi)

pub nothing_from : (test : ℕ → Bool) (i n : ℕ) → ((j : ℕ) → i ≤ j → j < i + n → test j ≡ false) → least_from test i n ≡ None
nothing_from test i n h = let e : n + 0 ≡ n = omega arith in ap (least_from test i) (sym e) ∙ passed_over test i n 0 h ∙ from_none test (i + n)

pub nothing_below : (test : ℕ → Bool) (n : ℕ) → ((j : ℕ) → j < n → test j ≡ false) → least test n ≡ None
nothing_below test n h = least_below test n ∙ nothing_from test 0 n (λ j lo hi. h j (omega arith))

-- the least passes, is in the range, and none before it passes
pub from_some : (test : ℕ → Bool) (i n k : ℕ) → least_from test i n ≡ Some k → (test k ≡ true) × (i ≤ k) × (k < i + n) × ((j : ℕ) → i ≤ j → j < k → test j ≡ false)
from_some test i zero k e = absurd (let z : None ≡ Some k = sym (from_none test i) ∙ e in cc)
from_some test i (suc n) k e = go (from_some test (i + 1) n k) (test i) refl
  where
    below : test i ≡ false → ((j : ℕ) → i + 1 ≤ j → j < k → test j ≡ false) → (j : ℕ) → i ≤ j → j < k → test j ≡ false
    below f h j lo hi = ⊎_elim (λ s. subst (λ x. test x ≡ false) s f) (λ l. h j l hi) (split i j lo)
      where
        split : (i j : ℕ) → i ≤ j → (i ≡ j) ⊎ (i + 1 ≤ j)
        split i j l = grind arith

    go : (least_from test (i + 1) n ≡ Some k → (test k ≡ true) × (i + 1 ≤ k) × (k < i + 1 + n) × ((j : ℕ) → i + 1 ≤ j → j < k → test j ≡ false))
        → (b : Bool) → test i ≡ b → (test k ≡ true) × (i ≤ k) × (k < i + suc n) × ((j : ℕ) → i ≤ j → j < k → test j ≡ false)
    go rest true t =
        let s : Some i ≡ Some k = sym (from_here test i n t) ∙ e in
        let q : i ≡ k = cc in
        (subst (λ x. test x ≡ true) q t, omega arith, omega arith, λ j lo hi. absurd (omega arith))
    go rest false t =
        let r = rest (sym (from_next test i n t) ∙ e) in
        let lo : i + 1 ≤ k = r.1 in
        let hi : k < i + 1 + n = r.2 in
        (r.0, omega arith, omega arith, below t r.3)

pub least_some : (test : ℕ → Bool) (n k : ℕ) → least test n ≡ Some k → (test k ≡ true) × (k < n) × ((j : ℕ) → j < k → test j ≡ false)
least_some test n k e =
    let r = from_some test 0 n k (sym (least_below test n) ∙ e) in
    let hi : k < 0 + n = r.2 in
    (r.0, omega arith, λ j l. r.3 j (omega arith) l)

pub from_nothing : (test : ℕ → Bool) (i n : ℕ) → least_from test i n ≡ None → (j : ℕ) → i ≤ j → j < i + n → test j ≡ false
from_nothing test i zero e j lo hi = absurd (omega arith)
from_nothing test i (suc n) e j lo hi = go (λ r l. from_nothing test (i + 1) n r j l (omega arith)) (test i) refl
  where
    split : (i j : ℕ) → i ≤ j → (i ≡ j) ⊎ (i + 1 ≤ j)
    split i j l = grind arith

    go : (least_from test (i + 1) n ≡ None → i + 1 ≤ j → test j ≡ false) → (b : Bool) → test i ≡ b → test j ≡ false
    go rest true t = absurd (let z : Some i ≡ None = sym (from_here test i n t) ∙ e in cc)
    go rest false t = ⊎_elim (λ s. subst (λ x. test x ≡ false) s t) (λ l. rest (sym (from_next test i n t) ∙ e) l) (split i j lo)

pub least_nothing : (test : ℕ → Bool) (n : ℕ) → least test n ≡ None → (j : ℕ) → j < n → test j ≡ false
least_nothing test n e j l = from_nothing test 0 n (sym (least_below test n) ∙ e) j (omega arith) (omega arith)

-- tests that agree have the same least
pub from_same : (f g : ℕ → Bool) (i n : ℕ) → ((j : ℕ) → i ≤ j → j < i + n → f j ≡ g j) → least_from f i n ≡ least_from g i n
from_same f g i zero h = from_none f i ∙ sym (from_none g i)
from_same f g i (suc n) h = go (from_same f g (i + 1) n (λ j lo hi. h j (omega arith) (omega arith))) (g i) refl
  where
    go : least_from f (i + 1) n ≡ least_from g (i + 1) n → (b : Bool) → g i ≡ b → least_from f i (suc n) ≡ least_from g i (suc n)
    go rest true t = from_here f i n (h i (omega arith) (omega arith) ∙ t) ∙ sym (from_here g i n t)
    go rest false t = from_next f i n (h i (omega arith) (omega arith) ∙ t) ∙ rest ∙ sym (from_next g i n t)

pub least_same : (f g : ℕ → Bool) (n : ℕ) → ((j : ℕ) → j < n → f j ≡ g j) → least f n ≡ least g n
least_same f g n h = least_below f n ∙ from_same f g 0 n (λ j lo hi. h j (omega arith)) ∙ sym (least_below g n)

-- ---- number after number
pub step_found : (test : ℕ → Bool) (i end : ℕ) (want : Option ℕ) → i < end → test i ≡ true → least_from test i (end - i) ≡ want → Some i ≡ want
step_found test i end want l t e = sym (found_at test i i end (omega arith) l t (λ j lo hi. absurd (omega arith))) ∙ e

pub step_passed : (test : ℕ → Bool) (i end : ℕ) (want : Option ℕ) → i < end → test i ≡ false → least_from test i (end - i) ≡ want → least_from test (i + 1) (end - (i + 1)) ≡ want
step_passed test i end want l f e = sym (passed_to test i (i + 1) end (omega arith) (omega arith) (λ j lo hi. let s : i ≡ j = omega arith in subst (λ x. test x ≡ false) s f)) ∙ e

pub step_end : (test : ℕ → Bool) (i end : ℕ) (want : Option ℕ) → end ≤ i → least_from test i (end - i) ≡ want → None ≡ want
step_end test i end want l e = let z : end - i ≡ 0 = omega arith in sym (from_none test i) ∙ ap (least_from test i) (sym z) ∙ e
