-- A test of all numbers below a bound fails where one fails.
use Rattle.std.proofs.Common.{◌≡◌, ◌<◌, ℕ, zero, suc, ◌⊎◌, inl, inr, Bool, true, false, ◌&&◌, [], ◌∷◌, refl, sym, ap, ◌∙◌, arith}
use Rattle.std.specs.List.{list_all}
use Rattle.std.proofs.lemmas.List.Folds.{list_all-append}
use Rattle.tree_definitions.specs.Numbers.{below}

and_true : (a : Bool) → a && true ≡ a
and_true true = refl
and_true false = refl

and_false : (a : Bool) → a && false ≡ false
and_false true = refl
and_false false = refl

more : (test : ℕ → Bool) (n : ℕ) → list_all test (below (suc n)) ≡ list_all test (below n) && test n
more test n = list_all-append test (below n) (n ∷ []) ∙ ap (λ b. list_all test (below n) && b) (and_true (test n))

pub one_fails : (test : ℕ → Bool) (n k : ℕ) → k < n → test k ≡ false → list_all test (below n) ≡ false
one_fails test zero k lt fails = absurd (omega arith)
one_fails test (suc n) k lt fails = more test n ∙ go (split k n lt) (one_fails test n k)
  where
    split : (k n : ℕ) → k < suc n → (k ≡ n) ⊎ (k < n)
    split k n lt = grind arith

    go : (k ≡ n) ⊎ (k < n) → (k < n → test k ≡ false → list_all test (below n) ≡ false) → list_all test (below n) && test n ≡ false
    go (inl e) before = ap (λ b. list_all test (below n) && b) (ap test (sym e) ∙ fails) ∙ and_false (list_all test (below n))
    go (inr l) before = ap (λ b. b && test n) (before l fails)
