-- One of the sectors that pass is found by parts: by one test and then by another.
use Rattle.std.proofs.Common.{◌≡◌, ℕ, Bool, true, false, ◌&&◌, ◌||◌, if◌then◌else◌, List, [], ◌∷◌, Option, Some, None, refl, sym, ap, ◌∙◌, subst, unwrap_or, arith}
use Rattle.std.proofs.lemmas.Bool.Decides.{nat_tests}
use Rattle.std.specs.Prelude.{nat_eq}
use Rattle.std.specs.List.{list_any, filter_map, cons_option}
use Rattle.std.specs.List.Sorted.{IsStrictlySortedBy}
use Rattle.std.specs.Option.{option_map, option_or}
use Rattle.std.specs.Ordering.{nat_cmp, is_eq}
use Rattle.std.specs.declared.cmp.Ordering.{Ordering}
use Rattle.std.specs.declared.cmp.Ordering.TheVariants.{Less, Equal, Greater}
use Rattle.frang_base.specs.declared.sector.Sector.{Sector}
use Rattle.frang_base.proofs.Tests.{none_of}
use Rattle.sector_bytes.specs.SectorMaps.{value_at, Ascend}
use Rattle.sector_bytes.proofs.MapLaws.{AllAbove, absent, above_more}
use Rattle.cache_definitions.specs.Caches.{Cache, CachedSector}
use Rattle.server_writes.specs.Wants.{IsOneOf, passes_at}

abbrev pub Test : Type 0
Test = ℕ × CachedSector → Bool

-- ---- answers

pub or_true : (a : Bool) → (a || true) ≡ true
or_true true = refl
or_true false = refl

pub and_false : (a : Bool) → (a && false) ≡ false
and_false true = refl
and_false false = refl

pub and_true : (a : Bool) → (a && true) ≡ a
and_true true = refl
and_true false = refl

spread : (r a b : Bool) → ((r && a) || (r && b)) ≡ (r && (a || b))
spread true a b = refl
spread false a b = refl

-- ---- tests of all

pub any_either : {X : Type 0} (p q : X → Bool) (xs : List X) → list_any (λ x. p x || q x) xs ≡ (list_any p xs || list_any q xs)
any_either p q [] = refl
any_either p q (x ∷ xs) = ap (λ rest. (p x || q x) || rest) (any_either p q xs) ∙ shuffled (p x) (q x) (list_any p xs) (list_any q xs)
  where
    shuffled : (a b c d : Bool) → ((a || b) || (c || d)) ≡ ((a || c) || (b || d))
    shuffled true b c d = refl
    shuffled false true true d = refl
    shuffled false true false d = refl
    shuffled false false c d = refl

pub any_same : {X : Type 0} (p q : X → Bool) → ((x : X) → p x ≡ q x) → (xs : List X) → list_any p xs ≡ list_any q xs
any_same p q same xs = λ i. list_any (λ x. same x i) xs

pub any_none : {X : Type 0} (xs : List X) → list_any (λ x. false) xs ≡ false
any_none [] = refl
any_none (x ∷ xs) = any_none xs

pub any_of_made : {X Y : Type 0} (t : Y → Bool) (f : X → Option Y) (xs : List X) → list_any t (filter_map f xs) ≡ list_any (λ x. unwrap_or (option_map t (f x)) false) xs
any_of_made t f [] = refl
any_of_made {Y = Y} t f (x ∷ xs) = go (f x) ∙ ap (λ rest. unwrap_or (option_map t (f x)) false || rest) (any_of_made t f xs)
  where
    go : (o : Option Y) → list_any t (cons_option o (filter_map f xs)) ≡ (unwrap_or (option_map t o) false || list_any t (filter_map f xs))
    go None = refl
    go (Some y) = refl

-- ---- one sector of a cache

pub at_either : (p q : Test) (cache : Cache) (sector : ℕ) → passes_at (λ e. p e || q e) cache sector ≡ (passes_at p cache sector || passes_at q cache sector)
at_either p q cache sector = go (value_at cache sector)
  where
    go : (o : Option CachedSector) → unwrap_or (option_map (λ cached. p (sector, cached) || q (sector, cached)) o) false
        ≡ (unwrap_or (option_map (λ cached. p (sector, cached)) o) false || unwrap_or (option_map (λ cached. q (sector, cached)) o) false)
    go None = refl
    go (Some cached) = refl

-- of ascending sectors one alone is this one
module _ (p : Test) (sector : ℕ) where
  abbrev at_this : Test
  at_this e = p e && nat_eq sector e.0

  pub at_one : (cache : Cache) → Ascend cache → list_any at_this cache ≡ passes_at p cache sector
  unfolding IsStrictlySortedBy
  at_one [] sorted = refl
  at_one (e ∷ cache) sorted = go (nat_cmp sector e.0) refl (at_one cache sorted.1)
    where
      other : (a b : ℕ) (o : Ordering) → nat_cmp a b ≡ o → is_eq o ≡ false → nat_eq a b ≡ false
      other a b Less is e = grind (arith, nat_tests)
      other a b Equal is e = cc
      other a b Greater is e = grind (arith, nat_tests)

      same : (a b : ℕ) → nat_cmp a b ≡ Equal → a ≡ b
      same a b is = grind (arith, nat_tests)

      itself : (a : ℕ) → nat_eq a a ≡ true
      itself a = grind (arith, nat_tests)

      passed : (o : Ordering) → nat_cmp sector e.0 ≡ o → is_eq o ≡ false → list_any at_this cache ≡ passes_at p cache sector
          → list_any at_this (e ∷ cache) ≡ unwrap_or (option_map (λ cached. p (sector, cached)) (if is_eq o then Some e.1 else value_at cache sector)) false
      passed o is not rest = ap (λ t. (p e && t) || list_any at_this cache) (other sector e.0 o is not) ∙ ap (λ t. t || list_any at_this cache) (and_false (p e)) ∙ rest
          ∙ sym (ap (λ t. unwrap_or (option_map (λ cached. p (sector, cached)) (if t then Some e.1 else value_at cache sector)) false) not)

      none_left : sector ≡ e.0 → value_at cache sector ≡ None
      none_left is = absent sector cache (subst (λ n. AllAbove n cache) (sym is) sorted.0)

      go : (o : Ordering) → nat_cmp sector e.0 ≡ o → list_any at_this cache ≡ passes_at p cache sector
          → list_any at_this (e ∷ cache) ≡ unwrap_or (option_map (λ cached. p (sector, cached)) (if is_eq o then Some e.1 else value_at cache sector)) false
      go Less is rest = passed Less is refl rest
      go Greater is rest = passed Greater is refl rest
      go Equal is rest =
          let here = same sector e.0 is in
          ap (λ rest. (p e && nat_eq sector e.0) || rest) (rest ∙ ap (λ o. unwrap_or (option_map (λ cached. p (sector, cached)) o) false) (none_left here))
          ∙ ap (λ n. (p e && nat_eq n e.0) || false) here ∙ ap (λ t. (p e && t) || false) (itself e.0) ∙ plain (p e) ∙ ap (λ n. p (n, e.1)) (sym here)
        where
          plain : (a : Bool) → ((a && true) || false) ≡ a
          plain true = refl
          plain false = refl

-- ---- one of those that pass

-- by a test that answers the same
pub by_same : (p q : Test) (cache : Cache) (r : Option Sector) → ((e : ℕ × CachedSector) → p e ≡ q e) → IsOneOf p cache r → IsOneOf q cache r
by_same p q cache r same is = subst (λ f. IsOneOf f cache r) (λ i e. same e i) is

either_first : (p q : Test) (cache : Cache) (sector : Sector) → IsOneOf p cache (Some sector) → IsOneOf (λ e. p e || q e) cache (Some sector)
either_first p q cache sector is = at_either p q cache sector.0 ∙ ap (λ t. t || passes_at q cache sector.0) is

either_later : (p q : Test) (cache : Cache) (r : Option Sector) → IsOneOf p cache None → IsOneOf q cache r → IsOneOf (λ e. p e || q e) cache r
either_later p q cache None none is = any_either p q cache ∙ ap (λ t. t || list_any q cache) none ∙ is
either_later p q cache (Some sector) none is = at_either p q cache sector.0 ∙ ap (λ t. passes_at p cache sector.0 || t) is ∙ or_true (passes_at p cache sector.0)

module _ (ready p q : Test) (cache : Cache) where
  -- what passes the first test is found
  pub found_first : (sector : Sector) → IsOneOf (λ e. ready e && p e) cache (Some sector) → IsOneOf (λ e. ready e && (p e || q e)) cache (Some sector)
  found_first sector is = by_same (λ e. (ready e && p e) || (ready e && q e)) (λ e. ready e && (p e || q e)) cache (Some sector) (λ e. spread (ready e) (p e) (q e))
      (either_first (λ e. ready e && p e) (λ e. ready e && q e) cache sector is)

  -- nothing does, and what passes the second is found
  pub found_later : (r : Option Sector) → IsOneOf (λ e. ready e && p e) cache None → IsOneOf (λ e. ready e && q e) cache r → IsOneOf (λ e. ready e && (p e || q e)) cache r
  found_later r none is = by_same (λ e. (ready e && p e) || (ready e && q e)) (λ e. ready e && (p e || q e)) cache r (λ e. spread (ready e) (p e) (q e))
      (either_later (λ e. ready e && p e) (λ e. ready e && q e) cache r none is)

  pub found_or : (a b : Option Sector) → IsOneOf (λ e. ready e && p e) cache a → IsOneOf (λ e. ready e && q e) cache b → IsOneOf (λ e. ready e && (p e || q e)) cache (option_or a b)
  found_or None b first later = found_later b first later
  found_or (Some sector) b first later = found_first sector first
