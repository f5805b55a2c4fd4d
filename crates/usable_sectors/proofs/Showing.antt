-- A sector is among the usable ones, with its block, where it is cached and its cover is in the set.
use Rattle.std.proofs.Common.{◌≡◌, ℕ, Bool, true, false, if◌then◌else◌, [], ◌∷◌, Option, Some, None, refl, sym, ap, ◌∙◌, subst}
use Rattle.std.specs.List.{cons_option}
use Rattle.std.specs.List.Sorted.{IsStrictlySortedBy}
use Rattle.std.specs.BTreeMap.{is_at}
use Rattle.std.specs.Option.{option_and_then, option_map}
use Rattle.std.specs.Ordering.{nat_cmp, is_eq}
use Rattle.frang_base.specs.declared.lock.LockId.{LockId}
use Rattle.sector_bytes.specs.Blocks.{Block}
use Rattle.sector_bytes.specs.SectorMaps.{value_at, Ascend}
use Rattle.sector_bytes.proofs.MapLaws.{AllAbove, found}
use Rattle.cache_definitions.specs.Caches.{Cache, CachedSector, block_at, cover_at}
use Rattle.set_definitions.specs.Sets.{LockSet, has_lock}
use Rattle.set_definitions.specs.Usable.{usable}

module _ (set : LockSet) (sector : ℕ) where
  -- the block of a cached sector, where its cover is in the set
  abbrev usable_block : CachedSector → Option Block
  usable_block cached = if has_lock set cached.cover then Some cached.block else None

  none_above : (cache : Cache) → AllAbove sector cache → value_at (usable set cache) sector ≡ None
  none_above [] above = refl
  none_above (entry ∷ cache) above = go (has_lock set entry.1.cover) (none_above cache above.1)
    where
      go : (t : Bool) → value_at (usable set cache) sector ≡ None → value_at (cons_option (if t then Some (entry.0, entry.1.block) else None) (usable set cache)) sector ≡ None
      go true rest = ap (λ o. if is_eq o then Some entry.1.block else value_at (usable set cache) sector) above.0 ∙ rest
      go false rest = rest

  usable_at : (cache : Cache) → Ascend cache → value_at (usable set cache) sector ≡ option_and_then usable_block (value_at cache sector)
  unfolding IsStrictlySortedBy
  usable_at [] sorted = refl
  usable_at (entry ∷ cache) sorted = go (has_lock set entry.1.cover) refl (is_at (nat_cmp sector) entry.0) refl (usable_at cache sorted.1)
    where
      go : (t : Bool) → has_lock set entry.1.cover ≡ t → (u : Bool) → is_at (nat_cmp sector) entry.0 ≡ u → value_at (usable set cache) sector ≡ option_and_then usable_block (value_at cache sector)
          → value_at (cons_option (if t then Some (entry.0, entry.1.block) else None) (usable set cache)) sector ≡ option_and_then usable_block (if u then Some entry.1 else value_at cache sector)
      go true has true at rest = ap (λ u. if u then Some entry.1.block else value_at (usable set cache) sector) at ∙ sym (ap (λ t. if t then Some entry.1.block else None) has)
      go true has false at rest = ap (λ u. if u then Some entry.1.block else value_at (usable set cache) sector) at ∙ rest
      go false has true at rest = none_above cache (subst (λ low. AllAbove low cache) (found sector entry.0 at) sorted.0) ∙ sym (ap (λ t. if t then Some entry.1.block else None) has)
      go false has false at rest = rest

  -- a sector under this lock
  pub shown_under : (cache : Cache) → Ascend cache → (lock : LockId) → Some lock ≡ cover_at cache sector → (if has_lock set lock then block_at cache sector else None) ≡ value_at (usable set cache) sector
  shown_under cache sorted lock under = go (value_at cache sector) under ∙ sym (usable_at cache sorted)
    where
      go : (o : Option CachedSector) → Some lock ≡ option_map (λ cached. cached.cover) o → (if has_lock set lock then option_map (λ cached. cached.block) o else None) ≡ option_and_then usable_block o
      go (Some cached) e =
          let same : lock ≡ cached.cover = cc e in
          ap (λ l. if has_lock set l then Some cached.block else None) same
      go None e = cc e

  -- one that isn't cached
  pub not_shown : (cache : Cache) → Ascend cache → None ≡ cover_at cache sector → None ≡ value_at (usable set cache) sector
  not_shown cache sorted none = go (value_at cache sector) none ∙ sym (usable_at cache sorted)
    where
      go : (o : Option CachedSector) → None ≡ option_map (λ cached. cached.cover) o → None ≡ option_and_then usable_block o
      go (Some cached) e = cc e
      go None e = refl
