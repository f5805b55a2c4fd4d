-- Where a rule breaks, with one line more.
use Rattle.std.proofs.Common.{◌≡◌, ◌⊎◌, inl, inr, ℕ, ◌+◌, ◌<◌, ◌≤◌, Some, None, List, [], ◌∷◌, ◌++◌, length, take, sym, subst, arith, take_all}
use Rattle.std.proofs.lemmas.List.{take-append-le, length-append}
use Rattle.std.proofs.lemmas.Bool.{cases_lt}
use Rattle.frang_base.specs.declared.said.Said.{Said}
use Rattle.judge_rules.specs.Verdicts.{BreaksAt}

module _ (Rule : List Said → Type 0) where
  -- a beginning of the lines with one more is one of theirs, or all
  beginning : (before : List Said) (x : Said) (k : ℕ) → (Rule (take k before)) → Rule (before ++ x ∷ []) → Rule (take k (before ++ x ∷ []))
  beginning before x k shorter whole = go (cases_lt (length before) k)
    where
      go : (length before < k) ⊎ (k ≤ length before) → Rule (take k (before ++ x ∷ []))
      go (inl above) = subst Rule (sym (take_all k (before ++ x ∷ []) (let e : length (before ++ x ∷ []) ≡ length before + 1 = length-append before (x ∷ []) in omega (arith, e)))) whole
      go (inr within) = subst Rule (sym (take-append-le k before (x ∷ []) within)) shorter

  pub holds_on : (before : List Said) (x : Said) → BreaksAt Rule before None → Rule (before ++ x ∷ []) → BreaksAt Rule (before ++ x ∷ []) None
  holds_on before x all whole k = beginning before x k (all k) whole

  pub breaks_here : (before : List Said) (x : Said) → BreaksAt Rule before None → ¬ Rule (before ++ x ∷ []) → BreaksAt Rule (before ++ x ∷ []) (Some (length before + 1))
  breaks_here before x all broken =
      let long : length (before ++ x ∷ []) ≡ length before + 1 = length-append before (x ∷ []) in (
        omega (arith, long),
        λ k below. subst Rule (sym (take-append-le k before (x ∷ []) (omega arith))) (all k),
        λ whole. broken (subst Rule (take_all (length before + 1) (before ++ x ∷ []) (omega (arith, long))) whole),
      )

  pub stays_broken : (before : List Said) (x : Said) (n : ℕ) → BreaksAt Rule before (Some n) → BreaksAt Rule (before ++ x ∷ []) (Some n)
  stays_broken before x n (within, shorter, broken) =
      let long : length (before ++ x ∷ []) ≡ length before + 1 = length-append before (x ∷ []) in (
        omega (arith, long),
        λ k below. subst Rule (sym (take-append-le k before (x ∷ []) (omega arith))) (shorter k below),
        λ whole. broken (subst Rule (take-append-le n before (x ∷ []) within) whole),
      )
