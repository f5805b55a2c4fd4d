-- Sums over sectors, each counted once, are at most what the edits add.
use Rattle.std.proofs.Common.{◌≡◌, ◌≢◌, ℕ, ◌+◌, ◌≤◌, Bool, ◌==◌, if◌then◌else◌, inl, inr, List, [], ◌∷◌, refl, ap, subst, arith}
use Rattle.std.specs.List.Sorted.{IsStrictlySortedBy}
use Rattle.std.specs.Ordering.{nat_cmp}
use Rattle.std.specs.declared.cmp.Ordering.TheVariants.{Less}
use Rattle.std.proofs.lemmas.Bool.{cases_eq, ne_eqb, eq-eqb}
use Rattle.std.proofs.lemmas.Bool.Decides.{nat_tests}
use Rattle.sector_bytes.specs.SectorMaps.{Ascend}
use Rattle.sector_bytes.proofs.MapLaws.{AllAbove}
use Rattle.disk_definitions.specs.Edits.{Edit}
use Rattle.disk_definitions.specs.Written.{edit_sector}
use Rattle.plan_fit.proofs.Charges.{price, budget, charge}

-- the sum over the sectors
abbrev pub total : (ℕ → ℕ) → List (ℕ × ℕ) → ℕ
total f [] = 0
total f (k ∷ ks) = f k.0 + total f ks

total_none : (ks : List (ℕ × ℕ)) → total (λ s. 0) ks ≡ 0
total_none [] = refl
total_none (k ∷ ks) = let e = total_none ks in omega arith

total_both : (f g : ℕ → ℕ) (ks : List (ℕ × ℕ)) → total (λ s. f s + g s) ks ≡ total f ks + total g ks
total_both f g [] = refl
total_both f g (k ∷ ks) = let e = total_both f g ks in omega arith

-- what is added at one sector
abbrev at_one : ℕ → ℕ → ℕ → ℕ
at_one q p s = if s == q then p else 0

apart : (a b : ℕ) → nat_cmp a b ≡ Less → b ≢ a
apart a b e = grind (arith, nat_tests)

none_above : (q p : ℕ) (ks : List (ℕ × ℕ)) → AllAbove q ks → total (at_one q p) ks ≡ 0
none_above q p [] all = refl
none_above q p (k ∷ ks) all = let e = none_above q p ks all.1 in let f : at_one q p k.0 ≡ 0 = ap (λ (t : Bool). if t then p else 0) (ne_eqb k.0 q (apart q k.0 all.0)) in omega arith

-- of sectors that ascend one at most is it
once : (q p : ℕ) (ks : List (ℕ × ℕ)) → Ascend ks → total (at_one q p) ks ≤ p
unfolding IsStrictlySortedBy
once q p [] asc = omega arith
once q p (k ∷ ks) asc = elim (cases_eq k.0 q) [
  | inl e ↦
      let a : AllAbove q ks = subst (λ (z : ℕ). AllAbove z ks) e asc.0 in
      let b = none_above q p ks a in
      let c : at_one q p k.0 ≡ p = ap (λ (t : Bool). if t then p else 0) (eq-eqb k.0 q e) in
      omega arith
  | inr d ↦
      let b = once q p ks asc.1 in
      let c : at_one q p k.0 ≡ 0 = ap (λ (t : Bool). if t then p else 0) (ne_eqb k.0 q d) in
      omega arith
]

pub total_charge : (es : List Edit) (ks : List (ℕ × ℕ)) → Ascend ks → total (charge es) ks ≤ budget es
total_charge [] ks asc = let e = total_none ks in omega arith
total_charge (e ∷ es) ks asc =
    let a = total_both (at_one (edit_sector e) (price e es)) (charge es) ks in
    let b = once (edit_sector e) (price e es) ks asc in
    let c = total_charge es ks asc in
    omega arith
