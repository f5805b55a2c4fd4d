-- The sector of which a write is in flight is among the flying ones from then on.
use Rattle.std.proofs.Common.{◌≡◌, ℕ, ◌==◌, Bool, true, false, ◌||◌, if◌then◌else◌, [], ◌∷◌, filter, Some, refl, sym, ap, ◌∙◌, subst}
use Rattle.std.specs.List.{AllByRecursion}
use Rattle.std.specs.List.Sorted.{IsStrictlySortedBy}
use Rattle.std.specs.BTreeMap.{is_at}
use Rattle.std.specs.Map.{keys_of}
use Rattle.std.specs.Ordering.{nat_cmp, is_eq}
use Rattle.frang_base.specs.Functions.{member}
use Rattle.sector_bytes.specs.SectorMaps.{value_at, adjusted, Ascend}
use Rattle.sector_bytes.proofs.MapLaws.{AllAbove, found}
use Rattle.cache_definitions.specs.Flags.{but, with_cached}
use Rattle.clerk_cache.specs.declared.state.SectorState.{SectorState}
use Rattle.clerk_cache.specs.Kept.{AreAlike, AreKept, cached_of, flagged, flown_state, is_state_flying, joined}
use Rattle.clerk_cache.proofs.Flagging.{flagged-off, is_at_eq}
use Rattle.clerk_cache.proofs.IdleMarks.{each_found, told}
use Rattle.clerk_cache.proofs.Joining.{Blocks, States, states_ascend}

module _ (sector : ℕ) where
  abbrev is_or_flies : ℕ × SectorState → Bool
  is_or_flies entry = is_at (nat_cmp sector) entry.0 || entry.1.flies

  -- above the sector only those that flew are
  others : (states : States) → AllAbove sector states → flagged is_state_flying states ≡ keys_of (filter is_or_flies states)
  others [] all = refl
  others (entry ∷ states) all =
      go entry.1.flies (others states all.1) ∙ ap (λ t. keys_of (if t || entry.1.flies then entry ∷ filter is_or_flies states else filter is_or_flies states)) (sym (ap is_eq all.0))
    where
      go : (t : Bool) → flagged is_state_flying states ≡ keys_of (filter is_or_flies states)
          → keys_of (if t then entry ∷ filter (λ e. is_state_flying e.1) states else filter (λ e. is_state_flying e.1) states) ≡ keys_of (if t then entry ∷ filter is_or_flies states else filter is_or_flies states)
      go true rest = ap (λ xs. entry.0 ∷ xs) rest
      go false rest = rest

  set_flying : (states : States) → Ascend states → flagged is_state_flying (adjusted (flown_state true) states sector) ≡ keys_of (filter is_or_flies states)
  unfolding IsStrictlySortedBy
  set_flying [] sorted = refl
  set_flying (entry ∷ states) sorted = go (is_at (nat_cmp sector) entry.0) refl (set_flying states sorted.1)
    where
      here : (t : Bool) → flagged is_state_flying (adjusted (flown_state true) states sector) ≡ keys_of (filter is_or_flies states)
          → keys_of (if t then entry ∷ filter (λ e. is_state_flying e.1) (adjusted (flown_state true) states sector) else filter (λ e. is_state_flying e.1) (adjusted (flown_state true) states sector))
          ≡ keys_of (if t then entry ∷ filter is_or_flies states else filter is_or_flies states)
      here true rest = ap (λ xs. entry.0 ∷ xs) rest
      here false rest = rest

      go : (t : Bool) → is_at (nat_cmp sector) entry.0 ≡ t → flagged is_state_flying (adjusted (flown_state true) states sector) ≡ keys_of (filter is_or_flies states)
          → flagged is_state_flying (if t then (entry.0, flown_state true entry.1) ∷ states else entry ∷ adjusted (flown_state true) states sector) ≡ keys_of (filter is_or_flies (entry ∷ states))
      go true at rest = ap (λ xs. entry.0 ∷ xs) (others states (subst (λ low. AllAbove low states) (found sector entry.0 at) sorted.0))
          ∙ ap (λ t. keys_of (if t || entry.1.flies then entry ∷ filter is_or_flies states else filter is_or_flies states)) (sym at)
      go false at rest = here entry.1.flies rest ∙ ap (λ t. keys_of (if t || entry.1.flies then entry ∷ filter is_or_flies states else filter is_or_flies states)) (sym at)

  module _ (all : States) (sorted : Ascend all) where
    along : (blocks : Blocks) (states : States) → AreAlike blocks states → AllByRecursion (λ e. value_at all e.0 ≡ Some e.1) states
        → keys_of (filter is_or_flies states) ≡ with_cached (joined blocks states) sector (flagged is_state_flying all)
    along [] [] alike each = refl
    along [] (s ∷ states) alike each = elim alike [ ]
    along (b ∷ blocks) [] alike each = elim alike [ ]
    along (b ∷ blocks) (s ∷ states) alike each =
        (λ i. keys_of (if sym (is_at_eq s.0 sector) i || told all sorted is_state_flying s.0 s.1 each.0 i then s ∷ filter is_or_flies states else filter is_or_flies states))
        ∙ go ((s.0 == sector) || member s.0 (flagged is_state_flying all)) (along blocks states alike.1 each.1)
        ∙ ap (λ key. keys_of (if (key == sector) || member key (flagged is_state_flying all) then (b.0, cached_of b.1 s.1) ∷ filter (λ entry. entry.0 == sector || member entry.0 (flagged is_state_flying all)) (joined blocks states)
        else filter (λ entry. entry.0 == sector || member entry.0 (flagged is_state_flying all)) (joined blocks states))) (sym alike.0)
      where
        go : (t : Bool) → keys_of (filter is_or_flies states) ≡ with_cached (joined blocks states) sector (flagged is_state_flying all)
            → keys_of (if t then s ∷ filter is_or_flies states else filter is_or_flies states)
            ≡ keys_of (if t then (b.0, cached_of b.1 s.1) ∷ filter (λ entry. entry.0 == sector || member entry.0 (flagged is_state_flying all)) (joined blocks states)
            else filter (λ entry. entry.0 == sector || member entry.0 (flagged is_state_flying all)) (joined blocks states))
        go true rest = λ i. sym alike.0 i ∷ rest i
        go false rest = rest

    pub flown-joined : (blocks : Blocks) → AreAlike blocks all → flagged is_state_flying (adjusted (flown_state true) all sector) ≡ with_cached (joined blocks all) sector (flagged is_state_flying all)
    flown-joined blocks alike = set_flying all sorted ∙ along blocks all alike (each_found all sorted)

-- in flight, or no longer
pub flown_either : (sector : ℕ) (flies : Bool) (blocks : Blocks) (states : States) → AreKept blocks states
    → flagged is_state_flying (adjusted (flown_state flies) states sector) ≡ (if flies then with_cached (joined blocks states) sector (flagged is_state_flying states) else but sector (flagged is_state_flying states))
flown_either sector true blocks states kept = flown-joined sector states (states_ascend kept) blocks kept.alike
flown_either sector false blocks states kept = flagged-off is_state_flying sector (flown_state false) (λ state. refl) states (states_ascend kept)
