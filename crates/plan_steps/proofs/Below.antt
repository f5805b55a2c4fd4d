-- Tests of the numbers below a bound.
use Rattle.std.proofs.Common.{◌≡◌, ℕ, zero, suc, ◌+◌, ◌<◌, ◌≤◌, Bool, true, false, ◌&&◌, [], ◌∷◌, ◌++◌, ⊎_elim, refl, ap, subst, ◌∙◌, arith}
use Rattle.std.proofs.Math.Nat.{eq-or-lt_of_le}
use Rattle.std.specs.List.{list_all}
use Rattle.std.proofs.lemmas.Bool.{and_left}
use Rattle.std.proofs.lemmas.List.Folds.{list_all-append}
use Rattle.tree_definitions.specs.Numbers.{below}

pub below_one : (n : ℕ) → below (n + 1) ≡ below n ++ n ∷ []
below_one n = let e : n + 1 ≡ suc n = omega arith in rw e refl

both : (a b : Bool) → a ≡ true → b ≡ true → (a && (b && true)) ≡ true
both true true x y = refl
both true false x y = absurd (cc)
both false b x y = absurd (cc)

pub all_more : (f : ℕ → Bool) (n : ℕ) → list_all f (below n) ≡ true → f n ≡ true → list_all f (below (n + 1)) ≡ true
all_more f n h t = ap (list_all f) (below_one n) ∙ list_all-append f (below n) (n ∷ []) ∙ both (list_all f (below n)) (f n) h t

second : (a b : Bool) → b ≡ false → (a && (b && true)) ≡ false
second true false e = refl
second false false e = refl
second a true e = absurd (cc)

pub all_not : (f : ℕ → Bool) (n i : ℕ) → i < n → f i ≡ false → list_all f (below n) ≡ false
all_not f zero i l e = absurd (omega arith)
all_not f (suc n) i l e =
    let le : i ≤ n = omega arith in
    list_all-append f (below n) (n ∷ [])
    ∙ ⊎_elim
    (λ same. second (list_all f (below n)) (f n) (subst (λ k. f k ≡ false) same e))
    (λ less. and_left (list_all f (below n)) (f n && true) (all_not f n i less e)) (eq-or-lt_of_le {n = i} {m = n} le)
