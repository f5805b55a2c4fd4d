-- How many numbers pass a test: where one more passes, and where none does.
use Rattle.std.proofs.Common.{ℕ, zero, suc, ◌≡◌, ◌≢◌, ◌<◌, ◌+◌, ◌⊎◌, inl, inr, Bool, true, false, refl, sym, ap, subst, ◌∙◌, arith}
use Rattle.std.proofs.lemmas.Bool.{cases_eq}
use Rattle.disk_definitions.specs.Least.{count, one_if}

pub count_zero : (f : ℕ → Bool) → count f 0 ≡ 0
unfolding count
count_zero f = refl

pub count_more : (f : ℕ → Bool) (n : ℕ) → count f (suc n) ≡ one_if (f n) + count f n
unfolding count
count_more f n = refl

pub count_same : (f g : ℕ → Bool) (n : ℕ) → ((q : ℕ) → q < n → f q ≡ g q) → count f n ≡ count g n
count_same f g zero h = count_zero f ∙ sym (count_zero g)
count_same f g (suc n) h =
    let e : f n ≡ g n = h n (omega arith) in
    let r : count f n ≡ count g n = count_same f g n (λ q l. h q (omega arith)) in
    count_more f n ∙ rw (e, r) (sym (count_more g n))

pub count_none : (f : ℕ → Bool) (n : ℕ) → ((q : ℕ) → q < n → f q ≡ false) → count f n ≡ 0
count_none f zero h = count_zero f
count_none f (suc n) h =
    let e : f n ≡ false = h n (omega arith) in
    let r : count f n ≡ 0 = count_none f n (λ q l. h q (omega arith)) in
    count_more f n ∙ rw (e, r) refl

-- one passes no longer
pub count_less_one : (f g : ℕ → Bool) (n k : ℕ) → k < n → f k ≡ true → g k ≡ false → ((q : ℕ) → q < n → q ≢ k → g q ≡ f q) → count f n ≡ count g n + 1
count_less_one f g zero k l a b h = absurd (omega arith)
count_less_one f g (suc n) k l a b h = go (λ m. count_less_one f g n k m a b (λ j p. h j (omega arith))) (cases_eq k n)
  where
    go : (k < n → count f n ≡ count g n + 1) → (k ≡ n) ⊎ (k ≢ n) → count f (suc n) ≡ count g (suc n) + 1
    go rest (inl q) =
        let fn : f n ≡ true = subst (λ x. f x ≡ true) q a in
        let gn : g n ≡ false = subst (λ x. g x ≡ false) q b in
        let r : count g n ≡ count f n = count_same g f n (λ j m. h j (omega arith) (λ s. absurd (omega arith))) in
        let x : count f (suc n) ≡ 1 + count f n = count_more f n ∙ ap (λ (v : Bool). one_if v + count f n) fn in
        let y : count g (suc n) ≡ 0 + count g n = count_more g n ∙ ap (λ (v : Bool). one_if v + count g n) gn in
        omega arith
    go rest (inr q) =
        let e : g n ≡ f n = h n (omega arith) (λ s. q (sym s)) in
        let m : k < n = grind arith in
        let r : count f n ≡ count g n + 1 = rest m in
        let x : count f (suc n) ≡ one_if (f n) + count f n = count_more f n in
        let y : count g (suc n) ≡ one_if (f n) + count g n = count_more g n ∙ ap (λ (v : Bool). one_if v + count g n) e in
        omega arith
