-- A lock without a dirty sector has only clean ones, and to drop its sectors touches no other.
use Rattle.std.proofs.Common.{◌≡◌, ℕ, Bool, true, false, not, ◌&&◌, ◌||◌, if◌then◌else◌, is_some, [], ◌∷◌, Option, Some, None, refl, sym, ap, ◌∙◌, subst}
use Rattle.std.specs.List.{filter_map}
use Rattle.std.specs.List.Sorted.{IsStrictlySortedBy}
use Rattle.std.specs.BTreeMap.{is_at}
use Rattle.std.specs.Ordering.{nat_cmp}
use Rattle.frang_base.specs.declared.lock.LockId.{LockId}
use Rattle.frang_base.proofs.Tests.{none_of}
use Rattle.sector_bytes.specs.SectorMaps.{value_at, Ascend}
use Rattle.sector_bytes.proofs.MapLaws.{AllAbove, absent, found}
use Rattle.cache_definitions.specs.declared.dirt.Dirt.{Dirt}
use Rattle.cache_definitions.specs.Caches.{Cache, CachedSector, any_cached, dropped, is_dirty_under, is_under}
use Rattle.clerk_cache.specs.Marks.{mark_of, marks_of}

-- under the lock and not dirty under it
clean_under : (lock : LockId) (cached : CachedSector) → is_dirty_under lock cached ≡ false → is_under lock cached ≡ true → cached.dirt ≡ None
clean_under lock cached clean under = none_of cached.dirt (sym (ap (λ t. t && is_some cached.dirt) under) ∙ clean)

-- where none is dirty, neither is the first, nor any after it
none_first : (lock : LockId) (entry : ℕ × CachedSector) (contents : Cache) → any_cached (is_dirty_under lock) (entry ∷ contents) ≡ false → (is_dirty_under lock entry.1 ≡ false) × (any_cached (is_dirty_under lock) contents ≡ false)
none_first lock entry contents none = go (is_dirty_under lock entry.1) none
  where
    go : (t : Bool) → t || any_cached (is_dirty_under lock) contents ≡ false → (t ≡ false) × (any_cached (is_dirty_under lock) contents ≡ false)
    go true e = cc e
    go false e = (refl, e)

pub clean_all : (lock : LockId) (contents : Cache) → any_cached (is_dirty_under lock) contents ≡ false → (s : ℕ) (cached : CachedSector) → value_at contents s ≡ Some cached → is_under lock cached ≡ true → cached.dirt ≡ None
clean_all lock [] none s cached there under = cc there
clean_all lock (entry ∷ contents) none s cached there under =
    go (is_at (nat_cmp s) entry.0) there (λ e. clean_all lock contents (none_first lock entry contents none).1 s cached e under)
  where
    go : (t : Bool) → (if t then Some entry.1 else value_at contents s) ≡ Some cached → (value_at contents s ≡ Some cached → cached.dirt ≡ None) → cached.dirt ≡ None
    go true e rest = let same : entry.1 ≡ cached = cc e in ap (λ c. c.dirt) (sym same) ∙ clean_under lock entry.1 (none_first lock entry contents none).0 (ap (is_under lock) same ∙ under)
    go false e rest = rest e

pub marks_stay : (lock : LockId) (contents : Cache) → any_cached (is_dirty_under lock) contents ≡ false → marks_of (dropped contents lock) ≡ marks_of contents
marks_stay lock [] none = refl
marks_stay lock (entry ∷ contents) none = go (is_under lock entry.1) refl (marks_stay lock contents (none_first lock entry contents none).1)
  where
    go : (t : Bool) → is_under lock entry.1 ≡ t → marks_of (dropped contents lock) ≡ marks_of contents
        → marks_of (if not t then entry ∷ dropped contents lock else dropped contents lock) ≡ marks_of (entry ∷ contents)
    go true under rest =
        let clean = clean_under lock entry.1 (none_first lock entry contents none).0 under in
        rest ∙ sym (ap (λ dirt. filter_map mark_of ((entry.0, record { block = entry.1.block; cover = entry.1.cover; dirt = dirt }) ∷ contents)) clean)
    go false other rest = head entry.1.dirt rest
      where
        head : (dirt : Option Dirt) → marks_of (dropped contents lock) ≡ marks_of contents
            → filter_map mark_of ((entry.0, record { block = entry.1.block; cover = entry.1.cover; dirt = dirt }) ∷ dropped contents lock) ≡ filter_map mark_of ((entry.0, record { block = entry.1.block; cover = entry.1.cover; dirt = dirt }) ∷ contents)
        head (Some dirt) e = ap (λ marks. record { sector = record { 0 = entry.0 }; mark = dirt.mark } ∷ marks) e
        head None e = e

module _ (lock : LockId) (s : ℕ) where
  above_dropped : (low : ℕ) (contents : Cache) → AllAbove low contents → AllAbove low (dropped contents lock)
  above_dropped low [] all = tt
  above_dropped low (entry ∷ contents) all = go (is_under lock entry.1) (above_dropped low contents all.1)
    where
      go : (t : Bool) → AllAbove low (dropped contents lock) → AllAbove low (if not t then entry ∷ dropped contents lock else dropped contents lock)
      go true rest = rest
      go false rest = (all.0, rest)

  pub gone : (contents : Cache) → Ascend contents → (cached : CachedSector) → value_at contents s ≡ Some cached → is_under lock cached ≡ true → value_at (dropped contents lock) s ≡ None
  unfolding IsStrictlySortedBy
  gone [] sorted cached there under = refl
  gone (entry ∷ contents) sorted cached there under = go (is_at (nat_cmp s) entry.0) refl there (λ e. gone contents sorted.1 cached e under)
    where
      go : (t : Bool) → is_at (nat_cmp s) entry.0 ≡ t → (if t then Some entry.1 else value_at contents s) ≡ Some cached → (value_at contents s ≡ Some cached → value_at (dropped contents lock) s ≡ None) → value_at (dropped (entry ∷ contents) lock) s ≡ None
      go true at e rest =
          let same : entry.1 ≡ cached = cc e in
          ap (λ t. value_at (if not t then entry ∷ dropped contents lock else dropped contents lock) s) (ap (is_under lock) same ∙ under)
          ∙ absent s (dropped contents lock) (subst (λ key. AllAbove key (dropped contents lock)) (found s entry.0 at) (above_dropped entry.0 contents sorted.0))
      go false at e rest = over (is_under lock entry.1) (rest e)
        where
          over : (t : Bool) → value_at (dropped contents lock) s ≡ None → value_at (if not t then entry ∷ dropped contents lock else dropped contents lock) s ≡ None
          over true rest = rest
          over false rest = ap (λ t. if t then Some entry.1 else value_at (dropped contents lock) s) at ∙ rest

  pub others_stay : (contents : Cache) → (cached : CachedSector) → value_at contents s ≡ Some cached → is_under lock cached ≡ false → value_at (dropped contents lock) s ≡ Some cached
  others_stay [] cached there other = there
  others_stay (entry ∷ contents) cached there other = go (is_at (nat_cmp s) entry.0) refl there (λ e. others_stay contents cached e other)
    where
      go : (t : Bool) → is_at (nat_cmp s) entry.0 ≡ t → (if t then Some entry.1 else value_at contents s) ≡ Some cached → (value_at contents s ≡ Some cached → value_at (dropped contents lock) s ≡ Some cached) → value_at (dropped (entry ∷ contents) lock) s ≡ Some cached
      go true at e rest =
          let same : entry.1 ≡ cached = cc e in
          ap (λ t. value_at (if not t then entry ∷ dropped contents lock else dropped contents lock) s) (ap (is_under lock) same ∙ other)
          ∙ ap (λ t. if t then Some entry.1 else value_at (dropped contents lock) s) at ∙ e
      go false at e rest = over (is_under lock entry.1) (rest e)
        where
          over : (t : Bool) → value_at (dropped contents lock) s ≡ Some cached → value_at (if not t then entry ∷ dropped contents lock else dropped contents lock) s ≡ Some cached
          over true rest = rest
          over false rest = ap (λ t. if t then Some entry.1 else value_at (dropped contents lock) s) at ∙ rest
