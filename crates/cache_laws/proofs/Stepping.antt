-- Adjustments one after another are one change of each entry.
use Rattle.std.proofs.Common.{◌≡◌, ℕ, Bool, true, false, not, ◌&&◌, if◌then◌else◌, nat_eq, Some, List, [], ◌∷◌, ◌||◌, map, fold, subst, arith, refl, sym, ap, ◌∙◌}
use Rattle.std.proofs.lemmas.Bool.{eqb-true}
use Rattle.std.proofs.lemmas.Bool.Decides.{nat_tests}
use Rattle.std.specs.BTreeMap.{is_at}
use Rattle.std.specs.List.Sorted.{IsStrictlySortedBy}
use Rattle.std.specs.Ordering.{is_eq, nat_cmp}
use Rattle.frang_base.specs.declared.change.Change.{Change}
use Rattle.frang_base.specs.declared.lock.LockId.{LockId}
use Rattle.sector_bytes.proofs.MapLaws.{AllAbove, ascend_adjusted, found}
use Rattle.sector_bytes.specs.Changes.{changed}
use Rattle.sector_bytes.specs.Replays.{change_at}
use Rattle.sector_bytes.specs.SectorMaps.{Ascend, adjusted}
use Rattle.cache_definitions.specs.Caches.{Cache, CachedSector, dirty, each_cached}
use Rattle.cache_laws.specs.Steps.{ChangesLieSectorBySector, CoversMoveSectorBySector, are_apart, cover_after, names, with_covers, with_its_change}

-- two tests that two numbers are the same
same_test : (a b : ℕ) → is_at (nat_cmp a) b ≡ nat_eq a b
same_test a b = by (is_at (nat_cmp a) b) (nat_eq a b) refl refl
  where
    by : (s t : Bool) → is_at (nat_cmp a) b ≡ s → nat_eq a b ≡ t → s ≡ t
    by true true e f = refl
    by false false e f = refl
    by true false e f = absurd (grind (arith, nat_tests))
    by false true e f = absurd (grind (arith, nat_tests))

module _ {V : Type 0} where
  -- each value changed, by its key
  abbrev each : (ℕ → V → V) → List (ℕ × V) → List (ℕ × V)
  each f entries = map (λ entry. (entry.0, f entry.0 entry.1)) entries

  -- what a change at one sector is of each value
  abbrev at_its : ℕ → (V → V) → ℕ → V → V
  at_its sector f key v = if is_at (nat_cmp sector) key then f v else v

  each_nothing : (entries : List (ℕ × V)) → each (λ k v. v) entries ≡ entries
  each_nothing [] = refl
  each_nothing (entry ∷ entries) = ap (λ rest. entry ∷ rest) (each_nothing entries)

  each-each : (f g : ℕ → V → V) (entries : List (ℕ × V)) → each g (each f entries) ≡ each (λ k v. g k (f k v)) entries
  each-each f g [] = refl
  each-each f g (entry ∷ entries) = ap (λ rest. (entry.0, g entry.0 (f entry.0 entry.1)) ∷ rest) (each-each f g entries)

  none_above : (f : V → V) (sector : ℕ) (entries : List (ℕ × V)) → AllAbove sector entries → each (at_its sector f) entries ≡ entries
  none_above f sector [] all = refl
  none_above f sector (entry ∷ entries) all =
      ap (λ b. (entry.0, if b then f entry.1 else entry.1) ∷ each (at_its sector f) entries) (ap is_eq all.0)
      ∙ ap (λ rest. entry ∷ rest) (none_above f sector entries all.1)

  one_is_each : (f : V → V) (entries : List (ℕ × V)) (sector : ℕ) → Ascend entries → adjusted f entries sector ≡ each (at_its sector f) entries
  unfolding IsStrictlySortedBy
  one_is_each f [] sector sorted = refl
  one_is_each f (entry ∷ entries) sector sorted = go (is_at (nat_cmp sector) entry.0) refl (one_is_each f entries sector sorted.1)
    where
      go : (b : Bool) → is_at (nat_cmp sector) entry.0 ≡ b → adjusted f entries sector ≡ each (at_its sector f) entries
          → (if b then (entry.0, f entry.1) ∷ entries else entry ∷ adjusted f entries sector) ≡ (entry.0, if b then f entry.1 else entry.1) ∷ each (at_its sector f) entries
      go true is below = ap (λ rest. (entry.0, f entry.1) ∷ rest) (sym (none_above f sector entries (subst (λ key. AllAbove key entries) (found sector entry.0 is) sorted.0)))
      go false is below = ap (λ rest. entry ∷ rest) below

  module _ {X : Type 0} (key : X → ℕ) (f : X → V → V) where
    -- a value after all changes of its sector
    abbrev after_all : List X → ℕ → V → V
    after_all xs k v = fold (λ v x. at_its (key x) (f x) k v) v xs

    all_adjusted : (entries : List (ℕ × V)) (xs : List X) → Ascend entries → fold (λ entries x. adjusted (f x) entries (key x)) entries xs ≡ each (after_all xs) entries
    all_adjusted entries [] sorted = sym (each_nothing entries)
    all_adjusted entries (x ∷ xs) sorted =
        all_adjusted (adjusted (f x) entries (key x)) xs (ascend_adjusted (f x) entries (key x) sorted)
        ∙ ap (each (after_all xs)) (one_is_each (f x) entries (key x) sorted)
        ∙ each-each (at_its (key x) (f x)) (after_all xs) entries

-- ---- covers

abbrev under_it : ℕ × LockId → CachedSector → CachedSector
under_it move cached = record cached { cover = move.1 }

covered : (moves : List (ℕ × LockId)) (sector : ℕ) (cached : CachedSector)
    → after_all (λ move. move.0) under_it moves sector cached ≡ record cached { cover = cover_after moves sector cached.cover }
covered [] sector cached = refl
covered (move ∷ moves) sector cached =
    covered moves sector (at_its move.0 (under_it move) sector cached)
    ∙ ap (λ b. record (if b then under_it move cached else cached) { cover = cover_after moves sector (if b then under_it move cached else cached).cover }) (same_test move.0 sector)
    ∙ go (nat_eq move.0 sector)
  where
    go : (b : Bool) → record (if b then under_it move cached else cached) { cover = cover_after moves sector (if b then under_it move cached else cached).cover }
        ≡ record cached { cover = cover_after moves sector (if b then move.1 else cached.cover) }
    go true = refl
    go false = refl

pub covers_move_sector_by_sector : CoversMoveSectorBySector
covers_move_sector_by_sector cache moves sorted =
    all_adjusted (λ move. move.0) under_it cache moves sorted ∙ ap (λ change. each_cached change cache) (λ i sector cached. covered moves sector cached i)

-- ---- changes

abbrev laid_over : ℕ → Change → CachedSector → CachedSector
laid_over mark change cached = dirty (changed cached.block change) cached.cover mark false

module _ (mark : ℕ) where
  abbrev after_changes : List Change → ℕ → CachedSector → CachedSector
  after_changes changes sector cached = after_all (λ change. change.sector.0) (laid_over mark) changes sector cached

  unnamed : (changes : List Change) (sector : ℕ) (cached : CachedSector) → names changes sector ≡ false → after_changes changes sector cached ≡ cached
  unnamed [] sector cached none = refl
  unnamed (change ∷ changes) sector cached none =
      ap (λ b. after_changes changes sector (if b then laid_over mark change cached else cached)) (same_test change.sector.0 sector)
      ∙ go (nat_eq change.sector.0 sector) refl (unnamed changes sector cached)
    where
      go : (b : Bool) → nat_eq change.sector.0 sector ≡ b → (names changes sector ≡ false → after_changes changes sector cached ≡ cached)
          → after_changes changes sector (if b then laid_over mark change cached else cached) ≡ cached
      go true is below = cc (sym (ap (λ b. b || names changes sector) is) ∙ none)
      go false is below = below (sym (ap (λ b. b || names changes sector) is) ∙ none)

  laid : (changes : List Change) (sector : ℕ) (cached : CachedSector) → are_apart changes ≡ true → after_changes changes sector cached ≡ with_its_change mark (change_at changes sector) cached
  laid [] sector cached apart = refl
  laid (change ∷ changes) sector cached apart =
      ap (λ b. after_changes changes sector (if b then laid_over mark change cached else cached)) (same_test change.sector.0 sector)
      ∙ go (nat_eq change.sector.0 sector) refl (both (not (names changes change.sector.0)) (are_apart changes) apart) (laid changes sector cached)
    where
      both : (a b : Bool) → a && b ≡ true → (a ≡ true) × (b ≡ true)
      both true b e = (refl, e)
      both false b e = cc e

      opened : (b : Bool) → not b ≡ true → b ≡ false
      opened true e = cc e
      opened false e = refl

      go : (b : Bool) → nat_eq change.sector.0 sector ≡ b → (not (names changes change.sector.0) ≡ true) × (are_apart changes ≡ true)
          → (are_apart changes ≡ true → after_changes changes sector cached ≡ with_its_change mark (change_at changes sector) cached)
          → after_changes changes sector (if b then laid_over mark change cached else cached) ≡ with_its_change mark (if b then Some change else change_at changes sector) cached
      go true is rest below =
          unnamed changes sector (laid_over mark change cached)
          (ap (names changes) (sym (eqb-true change.sector.0 sector is)) ∙ opened (names changes change.sector.0) rest.0)
      go false is rest below = below rest.1

pub changes_lie_sector_by_sector : ChangesLieSectorBySector
changes_lie_sector_by_sector mark cache changes sorted apart =
    all_adjusted (λ change. change.sector.0) (laid_over mark) cache changes sorted ∙ ap (λ change. each_cached change cache) (λ i sector cached. laid mark changes sector cached apart i)

-- ---- met by a cache of two sectors

module _ (one two : CachedSector) (first second : LockId) where
  abbrev pair : Cache
  pair = (1, one) ∷ (2, two) ∷ []

  pair_ascends : Ascend pair
  unfolding IsStrictlySortedBy
  pair_ascends = ((refl, tt), (tt, tt))

  -- of two moves of one sector the last counts, and one of a sector that isn't cached changes nothing
  the_last_move_counts : with_covers pair ((2, first) ∷ (3, first) ∷ (2, second) ∷ []) ≡ (1, one) ∷ (2, record two { cover = second }) ∷ []
  the_last_move_counts = covers_move_sector_by_sector pair ((2, first) ∷ (3, first) ∷ (2, second) ∷ []) pair_ascends
