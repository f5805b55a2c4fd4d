-- What tests of whole lists say of each element.
use Rattle.std.proofs.Common.{ℕ, zero, suc, ◌≡◌, ◌<◌, ◌⊎◌, inl, inr, Bool, true, false, cond, filter, List, [], ◌∷◌, refl, sym, ◌∙◌, subst, arith}
use Rattle.std.proofs.lemmas.Bool.{false≢true}
use Rattle.std.proofs.lemmas.List.Folds.{list_all-append}
use Rattle.std.specs.List.{list_all}
use Rattle.disk_definitions.proofs.Listed.{Among}
use Rattle.tree_definitions.specs.Numbers.{below}
use Rattle.core_definitions.specs.Logs.{is_none}
use Rattle.core_laws.proofs.Guarding.{Of2, of_2}

-- all numbers below a bound pass: each does
pub each_below : (test : ℕ → Bool) (n k : ℕ) → list_all test (below n) ≡ true → k < n → test k ≡ true
each_below test zero k all lt = absurd (omega arith)
each_below test (suc n) k all lt = go (split k n lt) (each_below test n k parts.p0)
  where
    parts : Of2 (list_all test (below n)) (list_all test (n ∷ []))
    parts = of_2 (list_all test (below n)) (list_all test (n ∷ [])) (sym (list_all-append test (below n) (n ∷ [])) ∙ all)

    last : test n ≡ true
    last = (of_2 (test n) true parts.p1).p0

    split : (k n : ℕ) → k < suc n → (k ≡ n) ⊎ (k < n)
    split k n lt = grind arith

    go : (k ≡ n) ⊎ (k < n) → (k < n → test k ≡ true) → test k ≡ true
    go (inl e) before = subst (λ i. test i ≡ true) (sym e) last
    go (inr l) before = before l

-- none passes: each fails
pub each_fails : {X : Type 0} (test : X → Bool) (xs : List X) (x : X) → is_none (filter test xs) ≡ true → Among x xs → test x ≡ false
each_fails test [] x none i = absurd i
each_fails test (y ∷ ys) x none i = go (test y) refl (λ n j. each_fails test ys x n j) none i
  where
    go : (b : Bool) → test y ≡ b → (is_none (filter test ys) ≡ true → Among x ys → test x ≡ false) → is_none (cond b (y ∷ filter test ys) (filter test ys)) ≡ true →
        Among x (y ∷ ys) → test x ≡ false
    go true e rest n j = absurd (false≢true n)
    go false e rest n (inl s) = subst (λ z. test z ≡ false) (sym s) e
    go false e rest n (inr j) = rest n j
