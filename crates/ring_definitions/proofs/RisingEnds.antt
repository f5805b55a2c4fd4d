-- The end of a log goes no way back where a sector of the ring arrives.
use Rattle.std.proofs.Common.{◌≡◌, ◌⊎◌, ℕ, ◌+◌, ◌-◌, ◌<◌, ◌≤◌, true, false, is_some, Option, Some, None, List, refl, sym, ap, ◌∙◌, inl, inr, arith}
use Rattle.std.proofs.lemmas.Bool.{cases_eq, false_from_ne_true}
use Rattle.disk_definitions.specs.declared.log_sector.LogSector.{LogSector}
use Rattle.disk_definitions.specs.Logs.{Slots, log_end, stands, sector_numbered}
use Rattle.disk_definitions.proofs.EndLaws.{end_stands, end_from, end_is_high, end_is_below, sector_of_number}
use Rattle.ring_definitions.specs.RingRuns.{with_arrived}
use Rattle.ring_definitions.proofs.Standing.{flies, left, left_same, left_other, IsStanding, with_arrival}
use Rattle.ring_definitions.proofs.Ending.{end_is_one, end_sectors, issued_stands, not_below}

module _ (a : ℕ) (all : List LogSector) (slots : Slots) (flying : List LogSector) (reached issued number : ℕ) (flown : flies flying number ≡ true) (s : IsStanding a all slots flying reached issued) where
  after_it : IsStanding a all (with_arrived number slots flying) (left number flying) reached issued
  after_it = with_arrival a all slots flying reached issued number flown s

  -- what stood in the window still stands
  still : (n : ℕ) → log_end slots - 191 ≤ n → n ≤ log_end slots → stands (with_arrived number slots flying) n ≡ true
  still n l h = some_there (sector_numbered (with_arrived number slots flying) n) x.0 (after_it.there n low within (lands (cases_eq n number)) ∙ sym (end_sectors a all slots flying reached issued s n l h) ∙ x.1)
    where
      here : stands slots n ≡ true
      here = end_stands slots (log_end slots) (end_is_one a all slots flying reached issued s) n l h

      x : (y : LogSector) × (sector_numbered slots n ≡ Some y)
      x = sector_of_number slots n here

      within : n ≤ issued
      within = issued_stands a all slots flying reached issued s n here

      low : reached < n + 192
      low = up (log_end slots) n l s.low (not_below a all slots flying reached issued s)
        where
          up : (e n : ℕ) → e - 191 ≤ n → a + 191 ≤ reached → reached ≤ e → reached < n + 192
          up e n l h k = omega arith

      none_some : {X : Type 0} (y : X) → ◌≡◌ {A = Option X} None (Some y) → ⊥
      none_some y e = cc

      rests : flies flying n ≡ false
      rests = false_from_ne_true (flies flying n) (λ f. none_some x.0 (sym (s.gone n low within f) ∙ x.1))

      lands : (n ≡ number) ⊎ (n ≡ number → ⊥) → flies (left number flying) n ≡ false
      lands (inl e) = ap (flies (left number flying)) e ∙ left_same number flying
      lands (inr ne) = left_other number n flying ne ∙ rests

      some_there : (o : Option LogSector) (y : LogSector) → o ≡ Some y → is_some o ≡ true
      some_there None y e = absurd (cc)
      some_there (Some z) y e = refl

  pub end_goes_on : log_end slots ≤ log_end (with_arrived number slots flying)
  end_goes_on = end_is_below (with_arrived number slots flying) (log_end slots)
      (end_from (with_arrived number slots flying) (log_end slots) (end_is_high slots (log_end slots) (end_is_one a all slots flying reached issued s)) still)
