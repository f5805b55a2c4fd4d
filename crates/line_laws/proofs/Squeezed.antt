-- Numbers that differ, all below a bound, are at most so many.
use Rattle.std.proofs.Common.{◌≡◌, ◌≢◌, ◌<◌, ◌≤◌, ◌+◌, ℕ, zero, suc, Bool, true, false, ◌==◌, nat_eq, if◌then◌else◌, refl, sym, ◌∙◌, arith}
use Rattle.std.proofs.lemmas.Bool.{eqb-false, eqb-true}

abbrev AreApart : (ℕ → ℕ) → ℕ → Type 0
AreApart f count = (i j : ℕ) → i < count → j < count → f i ≡ f j → i ≡ j

-- the last value is put where the bound stood
abbrev moved : (ℕ → ℕ) → ℕ → ℕ → ℕ → ℕ
moved f bound last j = if f j == bound then f last else f j

module _ (f : ℕ → ℕ) (bound last : ℕ) (below : (j : ℕ) → j < last + 1 → f j < bound + 1) (apart : AreApart f (last + 1)) where
  moved_below : (j : ℕ) → j < last → moved f bound last j < bound
  moved_below j l = go (nat_eq (f j) bound) refl
    where
      not_last : f j ≢ f last
      not_last e = let i : j ≡ last = apart j last (omega arith) (omega arith) e in omega arith

      go : (b : Bool) → nat_eq (f j) bound ≡ b → (if b then f last else f j) < bound
      go true e = let d : f j ≡ bound = eqb-true (f j) bound e in let h : f last < bound + 1 = below last (omega arith) in let ne : f last ≢ bound = λ q. not_last (d ∙ sym q) in grind arith
      go false e = let h : f j < bound + 1 = below j (omega arith) in let ne : f j ≢ bound = eqb-false (f j) bound e in grind arith

  moved_apart : AreApart (moved f bound last) last
  moved_apart i j li lj = go (nat_eq (f i) bound) refl (nat_eq (f j) bound) refl
    where
      go : (a : Bool) → nat_eq (f i) bound ≡ a → (b : Bool) → nat_eq (f j) bound ≡ b → (if a then f last else f i) ≡ (if b then f last else f j) → i ≡ j
      go true p true q e = apart i j (omega arith) (omega arith) (eqb-true (f i) bound p ∙ sym (eqb-true (f j) bound q))
      go true p false q e = absurd (let k : last ≡ j = apart last j (omega arith) (omega arith) e in omega arith)
      go false p true q e = absurd (let k : i ≡ last = apart i last (omega arith) (omega arith) e in omega arith)
      go false p false q e = apart i j (omega arith) (omega arith) e

pub squeezed : (bound count : ℕ) (f : ℕ → ℕ) → ((j : ℕ) → j < count → f j < bound) → AreApart f count → count ≤ bound
squeezed bound zero f below apart = omega arith
squeezed zero (suc count) f below apart = absurd (let l : f 0 < 0 = below 0 (omega arith) in omega arith)
squeezed (suc bound) (suc count) f below apart =
    let lower : (j : ℕ) → j < count + 1 → f j < bound + 1 = λ j l. (let h : f j < suc bound = below j (omega arith) in omega arith) in
    let far : AreApart f (count + 1) = λ i j li lj e. apart i j (omega arith) (omega arith) e in
    let rest : count ≤ bound = squeezed bound count (moved f bound count) (moved_below f bound count lower far) (moved_apart f bound count lower far) in
    omega arith
