-- Marks with their covers are keys, and keys by mark or by cover and mark are others for other sectors.
use Rattle.std.proofs.Common.{◌≡◌, ℕ, Bool, true, false, if◌then◌else◌, Option, Some, None}
use Rattle.std.specs.BTreeMap.{is_at}
use Rattle.std.specs.Option.{option_map}
use Rattle.std.specs.Ordering.{nat_cmp}
use Rattle.frang_base.proofs.Tests.{both_equal}
use Rattle.lock_definitions.specs.Order.{lock_cmp}
use Rattle.lock_definitions.proofs.LockOrder.{found_lock}
use Rattle.flush_order.specs.declared.Mark.{Mark}
use Rattle.flush_order.specs.Marks.{mark_cmp}
use Rattle.flush_order.proofs.MarkOrder.{found_mark}
use Rattle.sorted_entries.specs.Places.{IsKeyOrder}
use Rattle.clerk_cache.specs.declared.covered_mark.CoveredMark.{CoveredMark}
use Rattle.clerk_cache.specs.declared.state.SectorState.{SectorState}
use Rattle.clerk_cache.specs.CoveredMarks.{covered_mark, covered_mark_cmp, covered_mark_key, covered_mark_total}
use Rattle.clerk_cache.specs.Kept.{mark_key, state_mark}
use Rattle.clerk_cache.proofs.CoverOrder.{other_marks, other_then}
use Rattle.clerk_cache.proofs.Keying.{AreOther}

found_covered : (a b : CoveredMark) → is_at (covered_mark_cmp a) b ≡ true → b ≡ a
found_covered a b e =
    let equal = both_equal (lock_cmp a.cover b.cover) (mark_cmp a.mark b.mark) e in
    (λ i. record { cover = found_lock a.cover b.cover equal.0 i; mark = found_mark a.mark b.mark equal.1 i })

pub covered_marks : IsKeyOrder covered_mark_cmp
covered_marks = record { total = covered_mark_total; exact = found_covered }

module _ (sector : ℕ) (state : SectorState) (entry : ℕ × SectorState) (other : is_at (nat_cmp sector) entry.0 ≡ false) where
  pub other_keys : (test : SectorState → Bool) → AreOther mark_cmp (mark_key test (sector, state)) (mark_key test entry)
  other_keys test = go (test state) (test entry.1) (state_mark (sector, state)) (state_mark entry) (other_marks sector state entry other)
    where
      go : (t u : Bool) (a b : Option Mark) → AreOther mark_cmp a b → AreOther mark_cmp (if t then a else None) (if u then b else None)
      go false u a b others = tt
      go true true a b others = others
      go true false None b others = tt
      go true false (Some a) b others = tt

  pub other_covered : (test : SectorState → Bool) → AreOther covered_mark_cmp (covered_mark_key test (sector, state)) (covered_mark_key test entry)
  other_covered test = go (mark_key test (sector, state)) (mark_key test entry) (other_keys test)
    where
      go : (a b : Option Mark) → AreOther mark_cmp a b → AreOther covered_mark_cmp (option_map (covered_mark state.cover) a) (option_map (covered_mark entry.1.cover) b)
      go None b others = tt
      go (Some a) None others = tt
      go (Some a) (Some b) others = other_then (lock_cmp state.cover entry.1.cover) (mark_cmp a b) others
