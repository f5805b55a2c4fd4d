-- What is so of each cached sector, through all that is done to a cache.
use Rattle.std.proofs.Common.{◌≡◌, ℕ, inl, inr, Bool, true, false, not, cond, List, [], ◌∷◌, fold, if◌then◌else◌, refl, sym, ap, subst}
use Rattle.std.specs.BTreeMap.{is_at}
use Rattle.std.specs.List.{AllByRecursion}
use Rattle.std.specs.Map.{remove_entry}
use Rattle.std.specs.Ordering.{is_eq, match_ordering, nat_cmp}
use Rattle.std.specs.declared.cmp.Ordering.{Ordering}
use Rattle.std.specs.declared.cmp.Ordering.TheVariants.{Less, Equal, Greater}
use Rattle.frang_base.specs.declared.lock.LockId.{LockId}
use Rattle.disk_definitions.proofs.Listed.{Among}
use Rattle.sector_bytes.specs.SectorMaps.{with_value, without}
use Rattle.sector_bytes.proofs.MapLaws.{found}
use Rattle.cache_definitions.specs.Caches.{Cache, CachedSector, cleaned, dropped, each_cached, forgotten, is_under, without_dirt}

abbrev pub EachEntry : (ℕ → CachedSector → Type 0) → Cache → Type 0
EachEntry P [] = Unit {0}
EachEntry P (entry ∷ entries) = P entry.0 entry.1 × EachEntry P entries

module _ (P : ℕ → CachedSector → Type 0) where
  pub entry_at : (cache : Cache) (entry : ℕ × CachedSector) → Among entry cache → EachEntry P cache → P entry.0 entry.1
  entry_at [] entry i all = absurd i
  entry_at (x ∷ xs) entry (inl e) all = subst (λ y. P y.0 y.1) (sym e) all.0
  entry_at (x ∷ xs) entry (inr i) all = entry_at xs entry i all.1

  pub with_entry : (cache : Cache) (sector : ℕ) (cached : CachedSector) → P sector cached → EachEntry P cache → EachEntry P (with_value cache sector cached)
  with_entry [] sector cached here all = (here, tt)
  with_entry (x ∷ xs) sector cached here all = go (nat_cmp sector x.0) refl (with_entry xs sector cached here all.1)
    where
      go : (o : Ordering) → nat_cmp sector x.0 ≡ o → EachEntry P (with_value xs sector cached) →
          EachEntry P (match_ordering o ((sector, cached) ∷ x ∷ xs) ((x.0, cached) ∷ xs) (x ∷ with_value xs sector cached))
      go Less e rest = (here, all)
      go Equal e rest = (subst (λ n. P n cached) (sym (found sector x.0 (ap is_eq e))) here, all.1)
      go Greater e rest = (all.0, rest)

  pub without_entry : (cache : Cache) (sector : ℕ) → EachEntry P cache → EachEntry P (without cache sector)
  without_entry [] sector all = tt
  without_entry (x ∷ xs) sector all = go (is_at (nat_cmp sector) x.0) (without_entry xs sector all.1)
    where
      go : (b : Bool) → EachEntry P (without xs sector) → EachEntry P (cond b xs (x ∷ remove_entry (is_at (nat_cmp sector)) xs))
      go true rest = all.1
      go false rest = (all.0, rest)

  pub all_forgotten : (cache : Cache) (sectors : List ℕ) → EachEntry P cache → EachEntry P (forgotten cache sectors)
  all_forgotten cache [] all = all
  all_forgotten cache (sector ∷ sectors) all = all_forgotten (without cache sector) sectors (without_entry cache sector all)

  pub all_dropped : (cache : Cache) (lock : LockId) → EachEntry P cache → EachEntry P (dropped cache lock)
  all_dropped [] lock all = tt
  all_dropped (x ∷ xs) lock all = go (is_under lock x.1) (all_dropped xs lock all.1)
    where
      go : (b : Bool) → EachEntry P (dropped xs lock) → EachEntry P (cond (not b) (x ∷ dropped xs lock) (dropped xs lock))
      go true rest = rest
      go false rest = (all.0, rest)

  pub all_each : (change : ℕ → CachedSector → CachedSector) → ((sector : ℕ) (cached : CachedSector) → P sector cached → P sector (change sector cached)) → (cache : Cache) → EachEntry P cache →
      EachEntry P (each_cached change cache)
  all_each change keeps [] all = tt
  all_each change keeps (x ∷ xs) all = (keeps x.0 x.1 all.0, all_each change keeps xs all.1)

  pub all_cleaned : ((sector : ℕ) (cached : CachedSector) → P sector cached → P sector (without_dirt cached)) → (cache : Cache) (sector : ℕ) → EachEntry P cache → EachEntry P (cleaned cache sector)
  all_cleaned keeps [] sector all = tt
  all_cleaned keeps (x ∷ xs) sector all = go (is_at (nat_cmp sector) x.0) (all_cleaned keeps xs sector all.1)
    where
      go : (b : Bool) → EachEntry P (cleaned xs sector) → EachEntry P (if b then (x.0, without_dirt x.1) ∷ xs else x ∷ cleaned xs sector)
      go true rest = (keeps x.0 x.1 all.0, all.1)
      go false rest = (all.0, rest)

  -- entries are put in, one after the other
  pub all_put : {X : Type 0} (put_in : Cache → X → Cache) (Q : X → Type 0) → ((cache : Cache) (x : X) → Q x → EachEntry P cache → EachEntry P (put_in cache x)) → (xs : List X) → AllByRecursion Q xs →
      (cache : Cache) → EachEntry P cache → EachEntry P (fold put_in cache xs)
  all_put put_in Q keeps [] each cache all = all
  all_put put_in Q keeps (x ∷ xs) each cache all = all_put put_in Q keeps xs each.1 (put_in cache x) (keeps cache x each.0 all)
