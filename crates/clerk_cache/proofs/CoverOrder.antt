-- Covers and marks are keys, which are others for other sectors.
use Rattle.std.proofs.Common.{◌≡◌, ℕ, Bool, true, false, if◌then◌else◌, Option, Some, None, refl}
use Rattle.std.specs.BTreeMap.{is_at}
use Rattle.std.specs.Option.{option_map}
use Rattle.std.specs.Ordering.{nat_cmp, ordering_then, is_eq}
use Rattle.std.specs.declared.cmp.Ordering.{Ordering}
use Rattle.std.specs.declared.cmp.Ordering.TheVariants.{Less, Equal, Greater}
use Rattle.frang_base.proofs.Tests.{both_equal}
use Rattle.lock_definitions.specs.Order.{lock_cmp}
use Rattle.lock_definitions.proofs.LockOrder.{found_lock}
use Rattle.flush_order.specs.Marks.{mark_cmp}
use Rattle.sorted_entries.specs.Places.{IsKeyOrder}
use Rattle.sector_bytes.proofs.MapLaws.{found}
use Rattle.cache_definitions.specs.declared.dirt.Dirt.{Dirt}
use Rattle.clerk_cache.specs.declared.covered.Covered.{Covered}
use Rattle.clerk_cache.specs.declared.state.SectorState.{SectorState}
use Rattle.clerk_cache.specs.Covers.{cover_cmp, cover_total, cover_key}
use Rattle.clerk_cache.specs.Kept.{state_mark}
use Rattle.clerk_cache.proofs.Keying.{AreOther}

-- a cover found is the cover that was looked for
found_cover : (a b : Covered) → is_at (cover_cmp a) b ≡ true → b ≡ a
found_cover a b e =
    let equal = both_equal (lock_cmp a.cover b.cover) (nat_cmp a.sector b.sector) e in
    (λ i. record { cover = found_lock a.cover b.cover equal.0 i; sector = found a.sector b.sector equal.1 i })

-- covers are keys
pub covers : IsKeyOrder cover_cmp
covers = record { total = cover_total; exact = found_cover }

-- ---- other sectors have other keys

pub other_then : (o p : Ordering) → is_eq p ≡ false → is_eq (ordering_then o p) ≡ false
other_then Less p e = refl
other_then Equal p e = e
other_then Greater p e = refl

module _ (sector : ℕ) (state : SectorState) (entry : ℕ × SectorState) (other : is_at (nat_cmp sector) entry.0 ≡ false) where
  pub other_marks : AreOther mark_cmp (state_mark (sector, state)) (state_mark entry)
  other_marks = go state.dirt entry.1.dirt
    where
      go : (d e : Option Dirt) → AreOther mark_cmp (option_map (λ dirt. record { sector = record { 0 = sector }; mark = dirt.mark }) d) (option_map (λ dirt. record { sector = record { 0 = entry.0 }; mark = dirt.mark }) e)
      go None e = tt
      go (Some d) None = tt
      go (Some d) (Some e) = other_then (nat_cmp d.mark e.mark) (nat_cmp sector entry.0) other

  pub other_covers : (test : SectorState → Bool) → AreOther cover_cmp (cover_key test (sector, state)) (cover_key test entry)
  other_covers test = go (test state) (test entry.1)
    where
      go : (t u : Bool) → AreOther cover_cmp (if t then Some (record { cover = state.cover; sector = sector }) else None) (if u then Some (record { cover = entry.1.cover; sector = entry.0 }) else None)
      go false u = tt
      go true false = tt
      go true true = other_then (lock_cmp state.cover entry.1.cover) (nat_cmp sector entry.0) other
