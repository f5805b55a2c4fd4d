-- The sectors that a recovery writes gone through one after another.
use Rattle.std.proofs.Common.{◌≡◌, ℕ, ◌+◌, ◌<◌, ◌≤◌, Bool, true, false, if◌then◌else◌, List, [], ◌∷◌, Some, None, is_some, nat_le, nat_eq, refl, sym, ap, ◌∙◌, arith}
use Rattle.std.proofs.lemmas.Bool.{false≢true, le-leb, leb-true}
use Rattle.std.proofs.lemmas.Bool.Decides.{nat_tests}
use Rattle.std.proofs.lemmas.Option.{same_Some}
use Rattle.std.specs.List.{AllByRecursion}
use Rattle.std.specs.List.Sorted.{IsStrictlySortedBy}
use Rattle.std.specs.Map.{keys_of}
use Rattle.std.specs.Ordering.{nat_cmp}
use Rattle.std.specs.declared.cmp.Ordering.TheVariants.{Less}
use Rattle.frang_base.specs.Functions.{member}
use Rattle.sector_bytes.specs.SectorMaps.{value_at}
use Rattle.disk_definitions.specs.Written.{ascending}
use Rattle.log_slots.proofs.Maps.{ascending_member, ascending_sorted, keys_member}
use Rattle.recovery_demon.specs.Recovering.{first_sector_from}

-- ---- the first of ascending numbers from one on

none_from : (xs : List ℕ) (from s : ℕ) → first_sector_from xs from ≡ None → member s xs ≡ true → nat_le from s ≡ false
none_from [] from s none there = absurd (false≢true there)
none_from (x ∷ xs) from s none there = go (λ behind at. none_from xs from s behind at) (nat_le from x) refl none (nat_eq x s) refl there
  where
    equal : (a b : ℕ) → nat_eq a b ≡ true → a ≡ b
    equal a b e = grind (arith, nat_tests)

    go : (first_sector_from xs from ≡ None → member s xs ≡ true → nat_le from s ≡ false) → (b : Bool) → nat_le from x ≡ b → (if b then Some x else first_sector_from xs from) ≡ None → (t : Bool) → nat_eq x s ≡ t → (if t then true else member s xs) ≡ true → nat_le from s ≡ false
    go behind true is none t at there = absurd (cc)
    go behind false is none true at there = ap (nat_le from) (sym (equal x s at)) ∙ is
    go behind false is none false at there = behind none there

above : (x s : ℕ) (xs : List ℕ) → AllByRecursion (λ y. nat_cmp x y ≡ Less) xs → member s xs ≡ true → x < s
above x s [] all there = absurd (false≢true there)
above x s (y ∷ ys) all there = go (λ at. above x s ys all.1 at) (nat_eq y s) refl there
  where
    equal : (a b : ℕ) → nat_eq a b ≡ true → a ≡ b
    equal a b e = grind (arith, nat_tests)

    less : (a b : ℕ) → nat_cmp a b ≡ Less → a < b
    less a b e = grind (arith, nat_tests)

    go : (member s ys ≡ true → x < s) → (t : Bool) → nat_eq y s ≡ t → (if t then true else member s ys) ≡ true → x < s
    go behind true at there = let same = equal y s at in let l = less x y all.0 in omega (arith, same, l)
    go behind false at there = behind there

some_from : (xs : List ℕ) (from t s : ℕ) → IsStrictlySortedBy nat_cmp xs → first_sector_from xs from ≡ Some t → member s xs ≡ true → from ≤ s → t ≤ s
unfolding IsStrictlySortedBy
some_from [] from t s sorted is there far = absurd (false≢true there)
some_from (x ∷ xs) from t s sorted is there far = go (λ behind at. some_from xs from t s sorted.1 behind at far) (nat_le from x) refl is (nat_eq x s) refl there
  where
    equal : (a b : ℕ) → nat_eq a b ≡ true → a ≡ b
    equal a b e = grind (arith, nat_tests)

    go : (first_sector_from xs from ≡ Some t → member s xs ≡ true → t ≤ s) → (b : Bool) → nat_le from x ≡ b → (if b then Some x else first_sector_from xs from) ≡ Some t → (q : Bool) → nat_eq x s ≡ q → (if q then true else member s xs) ≡ true → t ≤ s
    go behind true early is true at there = let one = same_Some x t is in let two = equal x s at in omega (arith, one, two)
    go behind true early is false at there = let one = same_Some x t is in let two = above x s xs sorted.0 there in omega (arith, one, two)
    go behind false early is true at there = absurd (false≢true (sym early ∙ ap (nat_le from) (equal x s at) ∙ le-leb from s far))
    go behind false early is false at there = behind is there

found_from : (xs : List ℕ) (from t : ℕ) → first_sector_from xs from ≡ Some t → member t xs ≡ true
found_from [] from t is = absurd (cc)
found_from (x ∷ xs) from t is = go (λ at. found_from xs from t at) (nat_le from x) is
  where
    itself : (a b : ℕ) → a ≡ b → (if nat_eq a b then true else member b xs) ≡ true
    itself a b e = grind (arith, nat_tests)

    behind : (b : Bool) → member t xs ≡ true → (if b then true else member t xs) ≡ true
    behind true there = refl
    behind false there = there

    go : (first_sector_from xs from ≡ Some t → member t xs ≡ true) → (b : Bool) → (if b then Some x else first_sector_from xs from) ≡ Some t → (if nat_eq x t then true else member t xs) ≡ true
    go more true is = itself x t (same_Some x t is)
    go more false is = behind (nat_eq x t) (more is)

reached_from : (xs : List ℕ) (from t : ℕ) → first_sector_from xs from ≡ Some t → from ≤ t
reached_from [] from t is = absurd (cc)
reached_from (x ∷ xs) from t is = go (λ at. reached_from xs from t at) (nat_le from x) refl is
  where
    go : (first_sector_from xs from ≡ Some t → from ≤ t) → (b : Bool) → nat_le from x ≡ b → (if b then Some x else first_sector_from xs from) ≡ Some t → from ≤ t
    go more true early is = let same = same_Some x t is in let low = leb-true from x early in omega (arith, same, low)
    go more false early is = more is

-- ---- the writes that are left of a walk

module _ {V : Type 0} (writes : List (ℕ × V)) where
  abbrev sectors : List ℕ
  sectors = ascending (keys_of writes)

  among : (s : ℕ) → member s sectors ≡ is_some (value_at writes s)
  among s = ascending_member (keys_of writes) s ∙ keys_member writes s

  pub is_wanted : (from t : ℕ) → first_sector_from (ascending (keys_of writes)) from ≡ Some t → is_some (value_at writes t) ≡ true
  is_wanted from t is = sym (among t) ∙ found_from sectors from t is

  pub goes_on : (from t : ℕ) → first_sector_from (ascending (keys_of writes)) from ≡ Some t → from ≤ t
  goes_on from t is = reached_from sectors from t is

  module _ (passes : ℕ → Bool) where
    -- none below a number passes
    abbrev pub IsWalked : ℕ → Type 0
    IsWalked from = (s : ℕ) → s < from → is_some (value_at writes s) ≡ true → passes s ≡ false

    pub walked : (from t : ℕ) → first_sector_from (ascending (keys_of writes)) from ≡ Some t → passes t ≡ false → IsWalked from → IsWalked (t + 1)
    walked from t is off before s small there = go (nat_le from s) refl
      where
        lower : (a b : ℕ) → nat_le a b ≡ false → b < a
        lower a b e = grind (arith, nat_tests)

        go : (b : Bool) → nat_le from s ≡ b → passes s ≡ false
        go false far = before s (lower from s far) there
        go true far =
            let low : t ≤ s = some_from sectors from t s (ascending_sorted (keys_of writes)) is (among s ∙ there) (leb-true from s far) in
            let same : t ≡ s = omega (arith, low, small) in
            ap passes (sym same) ∙ off

    pub ended : (from : ℕ) → first_sector_from (ascending (keys_of writes)) from ≡ None → IsWalked from → (s : ℕ) → is_some (value_at writes s) ≡ true → passes s ≡ false
    ended from none before s there = before s (lower from s (none_from sectors from s none (among s ∙ there))) there
      where
        lower : (a b : ℕ) → nat_le a b ≡ false → b < a
        lower a b e = grind (arith, nat_tests)
