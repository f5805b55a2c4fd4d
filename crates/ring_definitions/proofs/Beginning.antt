-- A ring that goes on behind the end of a sealed log.
use Rattle.std.proofs.Common.{◌≡◌, ℕ, ◌+◌, ◌-◌, ◌%◌, ◌^◌, ◌<◌, ◌≤◌, true, is_some, Some, List, [], ◌++◌, length, drop, refl, sym, ap, ◌∙◌, subst, arith, append-nil}
use Rattle.std.specs.List.{slice_get}
use Rattle.std.proofs.lemmas.List.Elements.{All-nil}
use Rattle.std.proofs.lemmas.Option.{slice_get-get_or}
use Rattle.disk_definitions.specs.declared.log_sector.LogSector.{LogSector}
use Rattle.disk_definitions.specs.LogSectors.{log_sector_in, empty_sector}
use Rattle.disk_definitions.specs.Logs.{Slots, sector_numbered, is_end, log_end, is_sealed, sectors_read}
use Rattle.disk_definitions.proofs.EndLaws.{numbered_of, slot_of_number, sealed_numbers, log_end_is_one}
use Rattle.disk_definitions.proofs.ReadingLaws.{length-sectors_read, sector_read_at}
use Rattle.ring_definitions.specs.RingRuns.{log_at}
use Rattle.ring_definitions.proofs.Standing.{IsFlown, IsStanding}
use Rattle.ring_definitions.proofs.Good.{IsGood}

module _ (slots : Slots) (low : 255 ≤ log_end slots) (high : log_end slots < 2 ^ 62) (sealed : is_sealed slots ≡ true) where
  abbrev pub end : ℕ
  end = log_end slots

  abbrev pub before : List LogSector
  before = sectors_read slots end

  pub is_one : is_end slots end ≡ true
  is_one = log_end_is_one slots (omega arith)

  pub length-before : length before ≡ 192
  length-before = length-sectors_read slots end is_one

  read_at : (n : ℕ) → end < n + 192 → n ≤ end → sector_numbered slots n ≡ slice_get before (n - (end - 191))
  read_at n l h = at (n - (end - 191)) (place end n l h low) (whole end n l h low) length-before
    where
      place : (e n : ℕ) → e < n + 192 → n ≤ e → 255 ≤ e → n - (e - 191) < 192
      place e n l h k = omega arith

      whole : (e n : ℕ) → e < n + 192 → n ≤ e → 255 ≤ e → e - 191 + (n - (e - 191)) ≡ n
      whole e n l h k = omega arith

      within : (k m : ℕ) → k < 192 → m ≡ 192 → k < m
      within k m h e = omega arith

      at : (k : ℕ) → k < 192 → end - 191 + k ≡ n → length before ≡ 192 → sector_numbered slots n ≡ slice_get before k
      at k l e size =
          ap (sector_numbered slots) (sym e) ∙ sym (sector_read_at slots end is_one k l (empty_sector 0))
          ∙ sym (slice_get-get_or before k (empty_sector 0) (within k (length before) l size))

  number_below : (slot : ℕ) (x : LogSector) → slot < 256 → log_sector_in slot (slots slot) ≡ Some x → x.seq ≤ end
  number_below slot x l e =
      let at : x.seq % 256 ≡ slot = slot_of_number slot (slots slot) x l e in
      sealed_numbers slots sealed x.seq (ap is_some (numbered_of x.seq (log_sector_in (x.seq % 256) (slots (x.seq % 256))) x (subst (λ k. log_sector_in k (slots k) ≡ Some x) (sym at) e) refl))

  all_is : before ++ [] ≡ before
  all_is = append-nil before

  standing_first : (s : ℕ) → s ≡ end → IsStanding (end - 191) (before ++ []) slots [] end s
  standing_first s e = record {
    low = small end low;
    order = same s end e;
    window = near s end e;
    known = known s end (length (before ++ [])) e low (ap length all_is ∙ length-before);
    flown = All-nil (IsFlown (end - 191) (before ++ []) end s);
    gone = λ n l h f. absurd (cc);
    there = λ n l h f. read_at n l (subst (λ m. n ≤ m) e h) ∙ ap (λ xs. slice_get xs (n - (end - 191))) (sym all_is);
    numbers = λ slot x l f. subst (λ m. x.seq ≤ m) (sym e) (number_below slot x l f);
  }
    where
      small : (m : ℕ) → 255 ≤ m → m - 191 + 191 ≤ m
      small m h = omega arith

      same : (s m : ℕ) → s ≡ m → m ≤ s
      same s m e = omega arith

      near : (s m : ℕ) → s ≡ m → s ≤ m + 64
      near s m e = omega arith

      known : (s m l : ℕ) → s ≡ m → 255 ≤ m → l ≡ 192 → s < m - 191 + l
      known s m l e h f = omega arith

  pub good_first : IsGood end before (log_at slots)
  good_first = record {
    rest = [];
    standing = standing_first (end + 0) (nothing end);
    flags = tt;
    packed = tt;
    laid = (refl, refl);
    ends = twice end;
    bound = small end high;
    waiting = none end;
    given = same end;
    kept = near end;
  }
    where
      nothing : (n : ℕ) → n + 0 ≡ n
      nothing n = omega arith

      twice : (n : ℕ) → n + 0 + 0 ≡ n + 0
      twice n = omega arith

      small : (n : ℕ) → n < 2 ^ 62 → n + 0 + 0 < 2 ^ 63
      small n h = omega arith

      same : (n : ℕ) → n ≤ n + 0
      same n = omega arith

      near : (n : ℕ) → n + 0 + 0 ≤ n + 192
      near n = omega arith

      none : (n : ℕ) → [] ≡ drop {A = LogSector} (n + 0 - n) []
      none n = let z : n + 0 - n ≡ 0 = omega arith in sym (ap (λ k. drop {A = LogSector} k []) z)
