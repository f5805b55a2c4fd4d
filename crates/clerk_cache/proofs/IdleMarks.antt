-- The marks of the states that pass are those of the cached sectors that pass and aren't among the flying ones.
use Rattle.std.proofs.Common.{◌≡◌, ℕ, Bool, false, not, ◌&&◌, if◌then◌else◌, [], ◌∷◌, Some, None, refl, sym, ap, ◌∙◌}
use Rattle.std.specs.List.{AllByRecursion, filter_map, cons_option}
use Rattle.std.specs.List.Sorted.{IsStrictlySortedBy}
use Rattle.std.specs.Option.{option_map, unwrap_or}
use Rattle.std.specs.Ordering.{is_eq, ordering_reverse}
use Rattle.std.specs.Cmp.{nat_cmp_total}
use Rattle.frang_base.specs.Functions.{member}
use Rattle.frang_base.proofs.Tests.{at_itself}
use Rattle.sector_bytes.specs.Blocks.{Block}
use Rattle.sector_bytes.specs.SectorMaps.{value_at, Ascend}
use Rattle.sector_bytes.proofs.MapLaws.{AllAbove}
use Rattle.cache_definitions.specs.Caches.{CachedSector}
use Rattle.clerk_cache.specs.declared.state.SectorState.{SectorState}
use Rattle.clerk_cache.specs.Kept.{AreAlike, cached_of, flagged, is_state_flying, joined, mark_key, passing_marks, state_mark}
use Rattle.clerk_cache.specs.Marks.{idle_mark_of}
use Rattle.clerk_cache.proofs.Joining.{Blocks, States}
use Rattle.clerk_cache.proofs.Flagging.{member_flagged}

-- ---- each state is found at its sector

module _ (first : ℕ × SectorState) (all : States) where
  found_behind : (states : States) → AllAbove first.0 states → AllByRecursion (λ e. value_at all e.0 ≡ Some e.1) states → AllByRecursion (λ e. value_at (first ∷ all) e.0 ≡ Some e.1) states
  found_behind [] above each = tt
  found_behind (entry ∷ states) above each =
      (ap (λ o. if is_eq o then Some first.1 else value_at all entry.0) (nat_cmp_total.antisymm entry.0 first.0 ∙ ap ordering_reverse above.0) ∙ each.0, found_behind states above.1 each.1)

pub each_found : (states : States) → Ascend states → AllByRecursion (λ e. value_at states e.0 ≡ Some e.1) states
unfolding IsStrictlySortedBy
each_found [] sorted = tt
each_found (entry ∷ states) sorted =
    (ap (λ t. if t then Some entry.1 else value_at states entry.0) (at_itself entry.0), found_behind entry states states sorted.0 (each_found states sorted.1))

-- ---- the marks

module _ (all : States) (sorted : Ascend all) where
  -- the flags of a state are told by the lists
  pub told : (test : SectorState → Bool) (sector : ℕ) (state : SectorState) → value_at all sector ≡ Some state → test state ≡ member sector (flagged test all)
  told test sector state is = sym (member_flagged test sector all sorted ∙ ap (λ o. unwrap_or (option_map test o) false) is)

  module _ (test : SectorState → Bool) (passes : ℕ × CachedSector → Bool)
      (agree : (sector : ℕ) (block : Block) (state : SectorState) → value_at all sector ≡ Some state → test state ≡ (not (member sector (flagged is_state_flying all)) && passes (sector, cached_of block state))) where
    along : (blocks : Blocks) (states : States) → AreAlike blocks states → AllByRecursion (λ e. value_at all e.0 ≡ Some e.1) states
        → passing_marks test states ≡ filter_map (idle_mark_of passes (flagged is_state_flying all)) (joined blocks states)
    along [] [] alike each = refl
    along [] (s ∷ states) alike each = elim alike [ ]
    along (b ∷ blocks) [] alike each = elim alike [ ]
    along (b ∷ blocks) (s ∷ states) alike each =
        (λ i. cons_option (mark_key test s) (along blocks states alike.1 each.1 i))
        ∙ ap (λ o. cons_option o (filter_map (idle_mark_of passes (flagged is_state_flying all)) (joined blocks states)))
        (ap (λ t. if t then state_mark s else None) (agree s.0 b.1 s.1 each.0)
        ∙ ap (λ key. idle_mark_of passes (flagged is_state_flying all) (key, cached_of b.1 s.1)) (sym alike.0))

    pub passing-joined : (blocks : Blocks) → AreAlike blocks all → passing_marks test all ≡ filter_map (idle_mark_of passes (flagged is_state_flying all)) (joined blocks all)
    passing-joined blocks alike = along blocks all alike (each_found all sorted)
