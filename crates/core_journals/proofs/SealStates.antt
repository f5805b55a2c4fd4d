-- The log of a dead server, as far as it is sealed: where it ends, what a number of its seal makes of it, and that it is sealed once the gap is closed.
use Rattle.std.proofs.Common.{◌≡◌, ℕ, ◌+◌, ◌%◌, ◌<◌, ◌≤◌, ◌^◌, ◌⊎◌, inl, inr, Bool, true, IsTrue, List, [], ◌∷◌, ◌++◌, map, nat_le, refl, sym, ap, ◌∙◌, subst, arith, le-leb, leb-true}
use Rattle.std.specs.List.{list_all}
use Rattle.std.proofs.lemmas.Bool.{and_from, and_parts, cases_eq}
use Rattle.disk_definitions.proofs.SameLogs.{SameSlots, log_end_same}
use Rattle.disk_definitions.specs.Arriving.{with_sector, with_sectors}
use Rattle.disk_definitions.specs.LogSectors.{empty_sector}
use Rattle.disk_definitions.specs.Logs.{Slots, is_sealed, log_end}
use Rattle.ring_definitions.specs.Sealing.{IsWithinFlight, is_behind_gap}
use Rattle.ring_definitions.proofs.SealingLaws.{IsClosed, closed, closed_end, closed_sealed, end_kept, sealing_kept}
use Rattle.lock_definitions.specs.Lease.{HasEnded}
use Rattle.core_definitions.specs.Logs.{seal_block}
use Rattle.core_journals.specs.Journals.{AllStandBehind, IsSealing, Open, Partly, Wholly}
use Rattle.core_journals.proofs.LogBlocks.{empty_stands, map_one_more, same_on, sealed_same, with_again, with_elsewhere, with_here, with_one_more, with_same}

pub behind_parts : (end number : ℕ) → is_behind_gap end number ≡ true → (end + 2 ≤ number) × (number ≤ end + 64)
behind_parts end number e = let p = and_parts (nat_le (end + 2) number) (nat_le number (end + 64)) e in (leb-true (end + 2) number p.0, leb-true number (end + 64) p.1)

pub behind_from : (end number : ℕ) → end + 2 ≤ number → number ≤ end + 64 → is_behind_gap end number ≡ true
behind_from end number low high = and_from (nat_le (end + 2) number) (nat_le number (end + 64)) (le-leb (end + 2) number low) (le-leb number (end + 64) high)

all_more : (test : ℕ → Bool) (ns : List ℕ) (n : ℕ) → list_all test ns ≡ true → test n ≡ true → list_all test (ns ++ n ∷ []) ≡ true
all_more test [] n all one = and_from (test n) true one refl
all_more test (m ∷ ms) n all one = let p = and_parts (test m) (list_all test ms) all in and_from (test m) (list_all test (ms ++ n ∷ [])) p.0 (all_more test ms n p.1 one)

-- numbers of one seal have slots of their own
pub seal_slots : (end n m : ℕ) → end < n → n ≤ end + 64 → end < m → m ≤ end + 64 → n % 256 ≡ m % 256 → n ≡ m
seal_slots end n m a b c d e = omega (arith, a, b, c, d, e)

module _ (base : Slots) (low : 255 ≤ log_end base) (high : log_end base < 2 ^ 62) (within : IsWithinFlight base) where
  abbrev pub end : ℕ
  end = log_end base

  abbrev part : List ℕ → Slots
  part numbers = with_sectors base (map empty_sector numbers)

  part_end : (numbers : List ℕ) → list_all (is_behind_gap end) numbers ≡ true → log_end (part numbers) ≡ end
  part_end numbers all = end_kept base (part numbers) low (sealing_kept base numbers high within all)

  -- once the gap is closed it is sealed
  whole_sealed : (numbers : List ℕ) → list_all (is_behind_gap end) numbers ≡ true → AllStandBehind end (part numbers) →
      (is_sealed (with_sector (part numbers) (empty_sector (end + 1))) ≡ true) × (log_end (with_sector (part numbers) (empty_sector (end + 1))) ≡ end + 64)
  whole_sealed numbers all each = (closed_sealed base whole low is, closed_end base whole low is)
    where
      whole : Slots
      whole = with_sector (part numbers) (empty_sector (end + 1))

      is : IsClosed base end whole
      is = closed base end (part numbers) high (sealing_kept base numbers high within all)
          (λ n from to. empty_stands (part numbers) n (small n to) (each n (behind_from end n from to)))
        where
          small : (n : ℕ) → n ≤ end + 64 → n < 2 ^ 63
          small n to = omega (arith, to, high)

  -- the end stands, or it is sealed
  pub end_or_sealed : (now expiry : ℕ) (slots : Slots) → IsSealing now expiry base slots → (log_end slots ≡ end) ⊎ (is_sealed slots ≡ true)
  end_or_sealed now expiry slots (Open same) = inl (log_end_same slots base same)
  end_or_sealed now expiry slots (Partly over numbers all same) = inl (log_end_same slots (part numbers) same ∙ part_end numbers all)
  end_or_sealed now expiry slots (Wholly over numbers all each same) =
      inr (sealed_same (with_sector (part numbers) (empty_sector (end + 1))) slots (λ slot h. sym (same slot h)) (whole_sealed numbers all each).0)

  -- it has an end
  pub end_low : (now expiry : ℕ) (slots : Slots) → IsSealing now expiry base slots → 255 ≤ log_end slots
  end_low now expiry slots (Open same) = subst (λ n. 255 ≤ n) (sym (log_end_same slots base same)) low
  end_low now expiry slots (Partly over numbers all same) = subst (λ n. 255 ≤ n) (sym (log_end_same slots (part numbers) same ∙ part_end numbers all)) low
  end_low now expiry slots (Wholly over numbers all each same) =
      subst (λ n. 255 ≤ n) (sym (log_end_same slots (with_sector (part numbers) (empty_sector (end + 1))) same ∙ (whole_sealed numbers all each).1)) (more end low)
    where
      more : (n : ℕ) → 255 ≤ n → 255 ≤ n + 64
      more n h = omega (arith, h)

  -- with one number more of the seal, but for the first
  later_arrives : (now expiry : ℕ) (slots after : Slots) (number : ℕ) → HasEnded now expiry → is_behind_gap end number ≡ true → SameSlots after (with_sector slots (empty_sector number)) →
      IsSealing now expiry base slots → IsSealing now expiry base after
  later_arrives now expiry slots after number over gap is (Open same) =
      Partly over (number ∷ []) (and_from (is_behind_gap end number) true gap refl)
      (same_on after (with_sector slots (empty_sector number)) (with_sector base (empty_sector number)) is (with_same slots base (empty_sector number) same))
  later_arrives now expiry slots after number over gap is (Partly o numbers all same) =
      Partly over (numbers ++ number ∷ []) (all_more (is_behind_gap end) numbers number all gap)
      (subst (SameSlots after) (sym (ap (with_sectors base) (map_one_more numbers number) ∙ with_one_more base (map empty_sector numbers) (empty_sector number)))
      (same_on after (with_sector slots (empty_sector number)) (with_sector (part numbers) (empty_sector number)) is (with_same slots (part numbers) (empty_sector number) same)))
  later_arrives now expiry slots after number over gap is (Wholly o numbers all each same) =
      Wholly over numbers all each
      (same_on after (with_sector slots (empty_sector number)) whole is
      (same_on (with_sector slots (empty_sector number)) (with_sector whole (empty_sector number)) whole (with_same slots whole (empty_sector number) same) (with_again whole (empty_sector number) there)))
    where
      whole : Slots
      whole = with_sector (part numbers) (empty_sector (end + 1))

      apart : (end number : ℕ) → end + 2 ≤ number → number ≤ end + 64 → number % 256 ≡ (end + 1) % 256 → ⊥
      apart end number a b e = absurd (omega (arith, a, b, e))

      there : whole (number % 256) ≡ seal_block number
      there = let p = behind_parts end number gap in with_elsewhere (part numbers) (empty_sector (end + 1)) (number % 256) (apart end number p.0 p.1) ∙ each number gap

  -- the gap is closed
  first_arrives : (now expiry : ℕ) (slots after : Slots) → HasEnded now expiry → AllStandBehind end slots → SameSlots after (with_sector slots (empty_sector (end + 1))) →
      IsSealing now expiry base slots → IsSealing now expiry base after × (is_sealed after ≡ true)
  first_arrives now expiry slots after over each is sealing = go sealing
    where
      low_slot : (n : ℕ) → n % 256 < 256
      low_slot n = omega arith

      closes : (numbers : List ℕ) → list_all (is_behind_gap end) numbers ≡ true → SameSlots slots (part numbers) → IsSealing now expiry base after × (is_sealed after ≡ true)
      closes numbers all same = (Wholly over numbers all stand shape, sealed_same (with_sector (part numbers) (empty_sector (end + 1))) after (λ slot h. sym (shape slot h)) (whole_sealed numbers all stand).0)
        where
          stand : AllStandBehind end (part numbers)
          stand n gap = sym (same (n % 256) (low_slot n)) ∙ each n gap

          shape : SameSlots after (with_sector (part numbers) (empty_sector (end + 1)))
          shape = same_on after (with_sector slots (empty_sector (end + 1))) (with_sector (part numbers) (empty_sector (end + 1))) is (with_same slots (part numbers) (empty_sector (end + 1)) same)

      go : IsSealing now expiry base slots → IsSealing now expiry base after × (is_sealed after ≡ true)
      go (Open same) = closes [] refl same
      go (Partly o numbers all same) = closes numbers all same
      go (Wholly o numbers all stand same) = (Wholly over numbers all stand shape, sealed_same whole after (λ slot h. sym (shape slot h)) (whole_sealed numbers all stand).0)
        where
          whole : Slots
          whole = with_sector (part numbers) (empty_sector (end + 1))

          shape : SameSlots after whole
          shape =
              same_on after (with_sector slots (empty_sector (end + 1))) whole is
              (same_on (with_sector slots (empty_sector (end + 1))) (with_sector whole (empty_sector (end + 1))) whole (with_same slots whole (empty_sector (end + 1)) same)
              (with_again whole (empty_sector (end + 1)) (with_here (part numbers) (empty_sector (end + 1)))))

  -- a number of the seal arrives
  pub seal_arrives : (now expiry : ℕ) (slots after : Slots) (number : ℕ) → HasEnded now expiry → IsTrue (is_behind_gap end number) ⊎ ((number ≡ end + 1) × AllStandBehind end slots) →
      SameSlots after (with_sector slots (empty_sector number)) → IsSealing now expiry base slots → IsSealing now expiry base after × ((number ≡ end + 1) → is_sealed after ≡ true)
  seal_arrives now expiry slots after number over (inl gap) is sealing = (later_arrives now expiry slots after number over gap is sealing, λ e. absurd (no end number (behind_parts end number gap).0 e))
    where
      no : (end number : ℕ) → end + 2 ≤ number → number ≡ end + 1 → ⊥
      no end number h e = absurd (omega (arith, h, e))
  seal_arrives now expiry slots after number over (inr (e, each)) is sealing =
      let r = first_arrives now expiry slots after over each (subst (λ n. SameSlots after (with_sector slots (empty_sector n))) e is) sealing in (r.0, λ f. r.1)

-- what stands of the seal still stands with one number more
pub behind_stands : (end : ℕ) (slots after : Slots) (number : ℕ) → end < number → number ≤ end + 64 → SameSlots after (with_sector slots (empty_sector number)) → (n : ℕ) → end < n → n ≤ end + 64 →
    slots (n % 256) ≡ seal_block n → after (n % 256) ≡ seal_block n
behind_stands end slots after number a b is n c d there = is (n % 256) (omega arith) ∙ go (cases_eq (n % 256) (number % 256))
  where
    go : (n % 256 ≡ number % 256) ⊎ (n % 256 ≡ number % 256 → ⊥) → with_sector slots (empty_sector number) (n % 256) ≡ seal_block n
    go (inl e) = let same : n ≡ number = seal_slots end n number c d a b e in ap (with_sector slots (empty_sector number)) e ∙ with_here slots (empty_sector number) ∙ ap seal_block (sym same)
    go (inr apart) = with_elsewhere slots (empty_sector number) (n % 256) apart ∙ there
