-- The end of the log of a ring: an issued number, not below the acknowledged ones, and no greater number stands.
use Rattle.std.proofs.Common.{◌≡◌, ℕ, ◌+◌, ◌-◌, ◌%◌, ◌<◌, ◌≤◌, true, false, is_some, Option, Some, None, List, ◌++◌, length, refl, sym, ap, ◌∙◌, subst, arith, nat_le}
use Rattle.std.specs.List.{slice_get, list_all}
use Rattle.std.proofs.lemmas.Bool.{false_from_ne_true}
use Rattle.std.proofs.Math.Nat.{le_refl}
use Rattle.frang_base.proofs.Lists.{get_drop}
use Rattle.disk_definitions.specs.declared.log_sector.LogSector.{LogSector}
use Rattle.disk_definitions.specs.LogSectors.{log_sector_in}
use Rattle.disk_definitions.specs.Logs.{Slots, sector_numbered, stands, is_end, numbers_in, log_end}
use Rattle.disk_definitions.proofs.EndLaws.{numbered_is, sector_of_number, end_from, end_stands, end_is_below, log_end_is_one, all_numbers_below}
use Rattle.ring_definitions.specs.Rings.{sent}
use Rattle.ring_definitions.specs.RingRuns.{LogState, EndsWithin}
use Rattle.ring_definitions.proofs.Shown.{not_past}
use Rattle.ring_definitions.proofs.Along.{along_at}
use Rattle.ring_definitions.proofs.Packed.{IsPacked}
use Rattle.ring_definitions.proofs.Standing.{flies, found_flying, IsFlown, IsStanding}
use Rattle.ring_definitions.proofs.Good.{IsGood}

module _ (a : ℕ) (all : List LogSector) (slots : Slots) (flying : List LogSector) (reached issued : ℕ) (s : IsStanding a all slots flying reached issued) where
  -- no acknowledged number is on its way
  not_flying : (n : ℕ) → n ≤ reached → flies flying n ≡ false
  not_flying n h = false_from_ne_true (flies flying n) (λ f. at (found_flying (IsFlown a all reached issued) n flying s.flown f))
    where
      at : ((x : LogSector) × (x.seq ≡ n) × IsFlown a all reached issued x) → ⊥
      at x = let e : x.0.seq ≡ n = x.1 in let l : reached < x.0.seq = x.2.low in omega arith

  some_there : (o p : Option LogSector) → o ≡ p → (p ≡ None → ⊥) → is_some o ≡ true
  some_there None p e h = absurd (h (sym e))
  some_there (Some x) p e h = refl

  -- what stands is issued
  pub issued_stands : (n : ℕ) → stands slots n ≡ true → n ≤ issued
  issued_stands n e =
      let x = sector_of_number slots n e in
      let is = numbered_is n (log_sector_in (n % 256) (slots (n % 256))) x.0 x.1 in
      subst (λ k. k ≤ issued) is.1 (s.numbers (n % 256) x.0 (omega arith) is.0)

  pub acknowledged_stand : (n : ℕ) → reached < n + 192 → n ≤ reached → stands slots n ≡ true
  acknowledged_stand n l h =
      some_there (sector_numbered slots n) (slice_get all (n - a)) (s.there n l (up n s.order h) (not_flying n h))
      (not_past all (n - a) (place n (length all) l h s.low s.order s.known))
    where
      up : (n : ℕ) → reached ≤ issued → n ≤ reached → n ≤ issued
      up n h k = omega arith

      place : (n l : ℕ) → reached < n + 192 → n ≤ reached → a + 191 ≤ reached → reached ≤ issued → issued < a + l → n - a < l
      place n l b c d e f = omega arith

  pub reached_is_end : is_end slots reached ≡ true
  reached_is_end = end_from slots reached (high s.low) (λ n l h. acknowledged_stand n (above n l s.low) h)
    where
      high : a + 191 ≤ reached → 191 ≤ reached
      high h = omega arith

      above : (n : ℕ) → reached - 191 ≤ n → a + 191 ≤ reached → reached < n + 192
      above n h l = omega arith

  pub not_below : reached ≤ log_end slots
  not_below = end_is_below slots reached reached_is_end

  pub end_is_one : is_end slots (log_end slots) ≡ true
  end_is_one = log_end_is_one slots (some (log_end slots) s.low not_below)
    where
      some : (e : ℕ) → a + 191 ≤ reached → reached ≤ e → 0 < e
      some e h l = omega arith

  pub not_above : log_end slots ≤ issued
  not_above = issued_stands (log_end slots) (end_stands slots (log_end slots) end_is_one (log_end slots) (down (log_end slots)) (le_refl (log_end slots)))
    where
      down : (n : ℕ) → n - 191 ≤ n
      down n = omega arith

  pub all_issued : list_all (λ n. nat_le n issued) (numbers_in slots) ≡ true
  all_issued = all_numbers_below slots issued issued_stands

  -- each number up to an end has its sector
  pub end_sectors : (n : ℕ) → log_end slots - 191 ≤ n → n ≤ log_end slots → sector_numbered slots n ≡ slice_get all (n - a)
  end_sectors n l h = s.there n (above (log_end slots) n l s.low not_below) within (false_from_ne_true (flies flying n) flown)
    where
      above : (e n : ℕ) → e - 191 ≤ n → a + 191 ≤ reached → reached ≤ e → reached < n + 192
      above e n l h k = omega arith

      here : stands slots n ≡ true
      here = end_stands slots (log_end slots) end_is_one n l h

      within : n ≤ issued
      within = issued_stands n here

      flown : flies flying n ≡ true → ⊥
      flown f =
          let x = sector_of_number slots n here in
          let none : sector_numbered slots n ≡ None = s.gone n (above (log_end slots) n l s.low not_below) within f in
          let no : Some x.0 ≡ None = sym x.1 ∙ none in
          cc

-- the numbers of the sectors that wait follow those that are issued
waiting_follow : (end : ℕ) (before : List LogSector) (w : LogState) → 255 ≤ end → IsGood end before w → (k : ℕ) (x : LogSector) → slice_get w.ring.waiting k ≡ Some x → x.seq ≡ sent w.ring + 1 + k
waiting_follow end before w low g k x e =
    (along_at IsPacked (end + 1) g.rest (sent w.ring - end + k) x g.packed (sym (get_drop (sent w.ring - end) g.rest k) ∙ ap (λ xs. slice_get xs k) (sym g.waiting) ∙ e)).seq
    ∙ at (sent w.ring) w.ring.reached g.standing.low g.standing.order
  where
    at : (s r : ℕ) → end - 191 + 191 ≤ r → r ≤ s → end + 1 + (s - end + k) ≡ s + 1 + k
    at s r h l = omega arith

pub ends_within : (end : ℕ) (before : List LogSector) (w : LogState) → 255 ≤ end → IsGood end before w → EndsWithin w
ends_within end before w low g = record {
  not_below = not_below (end - 191) (before ++ g.rest) w.slots w.flying w.ring.reached (sent w.ring) g.standing;
  not_above = not_above (end - 191) (before ++ g.rest) w.slots w.flying w.ring.reached (sent w.ring) g.standing;
  numbers = all_issued (end - 191) (before ++ g.rest) w.slots w.flying w.ring.reached (sent w.ring) g.standing;
  window = g.standing.window;
  kept = g.kept;
  given = g.given;
  waits = waiting_follow end before w low g;
}
