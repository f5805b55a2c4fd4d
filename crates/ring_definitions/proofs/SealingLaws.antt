-- Sealing a log: the empty sectors behind the gap leave its end and its records, and the one in the gap moves the end behind them.
use Rattle.std.proofs.Common.{◌≡◌, ℕ, suc, ◌+◌, ◌-◌, ◌%◌, ◌^◌, ◌<◌, ◌≤◌, min, ⊎_elim, inl, inr, true, ◌==◌, nat_le, is_some, Some, List, [], ◌∷◌, ◌++◌, length, take, drop, map, get_or, refl, sym, ap, ◌∙◌, subst, arith, append-nil, length-take, length-drop, take-append-drop, leb-true, eq-eqb}
use Rattle.std.specs.List.{list_all}
use Rattle.std.proofs.lemmas.Bool.{and_parts, and_from, cases_eq, cases_lt}
use Rattle.std.proofs.lemmas.List.{same_lists, get_or-take, get_or-drop}
use Rattle.disk_definitions.specs.declared.log_sector.LogSector.{LogSector}
use Rattle.disk_definitions.specs.LogSectors.{empty_sector}
use Rattle.disk_definitions.specs.Arriving.{with_sector, with_sectors}
use Rattle.disk_definitions.specs.Logs.{Slots, sector_numbered, stands, is_end, log_end, log_records, is_sealed, sectors_read, records_among}
use Rattle.disk_definitions.proofs.Listed.{Among}
use Rattle.disk_definitions.proofs.EndLaws.{sector_of_number, numbers_are_below, all_numbers_below, sealed_from, window_among, end_stands, end_from, log_end_is_one, end_is_below, log_end_is}
use Rattle.disk_definitions.proofs.ReadingLaws.{begun, records_among-drop, starts_anew, records_among-append, no_records, length-sectors_read, sector_read_at}
use Rattle.disk_definitions.proofs.ArrivingLaws.{empty_arrived, others_stay, one_number}
use Rattle.disk_definitions.proofs.SameLogs.{sectors_same}
use Rattle.ring_definitions.specs.Sealing.{IsWithinFlight, is_behind_gap, IsSealedFrom}

-- ---- the log while it is being sealed

-- the numbers up to the gap have their sectors, and none is past those behind it
pub record IsKept (slots : Slots) (end : ℕ) (later : Slots) : Type 0 where
  pub same : (n : ℕ) → end ≤ n + 191 → n ≤ end + 1 → sector_numbered later n ≡ sector_numbered slots n
  pub bound : (n : ℕ) → stands later n ≡ true → n ≤ end + 64

bound_more : (end m : ℕ) (w : Slots) → end < 2 ^ 62 → m ≤ end + 64 → ((n : ℕ) → stands w n ≡ true → n ≤ end + 64) → (n : ℕ) → stands (with_sector w (empty_sector m)) n ≡ true → n ≤ end + 64
bound_more end m w high most bound n s = ⊎_elim
    (λ e.
    let x = sector_of_number (with_sector w (empty_sector m)) n s in
    let same : n ≡ m = one_number (with_sector w (empty_sector m)) n m x.0 (empty_sector m) x.1 (empty_arrived w m (omega arith)) e in
    omega arith)
    (λ other. bound n (ap is_some (sym (others_stay w (empty_sector m) n other)) ∙ s)) (cases_eq (n % 256) (m % 256))

kept_more : (slots : Slots) (end m : ℕ) (w : Slots) → end < 2 ^ 62 → end + 2 ≤ m → m ≤ end + 64 → IsKept slots end w → IsKept slots end (with_sector w (empty_sector m))
kept_more slots end m w high low most kept = record {
  same = λ n from to. others_stay w (empty_sector m) n (λ e. omega arith) ∙ kept.same n from to;
  bound = bound_more end m w high most kept.bound;
}

behind_gap : (end n : ℕ) → is_behind_gap end n ≡ true → (end + 2 ≤ n) × (n ≤ end + 64)
behind_gap end n e = let p = and_parts (nat_le (end + 2) n) (nat_le n (end + 64)) e in (leb-true (end + 2) n p.0, leb-true n (end + 64) p.1)

kept_all : (slots : Slots) (end : ℕ) (numbers : List ℕ) (w : Slots) → end < 2 ^ 62 → list_all (is_behind_gap end) numbers ≡ true → IsKept slots end w → IsKept slots end (with_sectors w (map empty_sector numbers))
kept_all slots end [] w high all kept = kept
kept_all slots end (n ∷ numbers) w high all kept =
    let p = and_parts (is_behind_gap end n) (list_all (is_behind_gap end) numbers) all in
    let gap = behind_gap end n p.0 in
    kept_all slots end numbers (with_sector w (empty_sector n)) high p.1 (kept_more slots end n w high gap.0 gap.1 kept)

-- whichever of the sectors behind the gap have arrived
pub sealing_kept : (slots : Slots) (numbers : List ℕ) → log_end slots < 2 ^ 62 → IsWithinFlight slots → list_all (is_behind_gap (log_end slots)) numbers ≡ true
    → IsKept slots (log_end slots) (with_sectors slots (map empty_sector numbers))
sealing_kept slots numbers high within all =
    kept_all slots (log_end slots) numbers slots high all (record { same = λ n from to. refl; bound = numbers_are_below slots (log_end slots + 64) within })

-- the number behind the end doesn't stand
the_gap : (slots : Slots) → 191 ≤ log_end slots → stands slots (log_end slots + 1) ≡ true → ⊥
the_gap slots low s =
    let end = log_end slots in
    let is : is_end slots end ≡ true = log_end_is_one slots (omega arith) in
    let next : end + 1 ≤ log_end slots = end_is_below slots (end + 1) (end_from slots (end + 1) (omega arith)
    (λ n from to. ⊎_elim (λ e. ap (stands slots) e ∙ s) (λ ne. end_stands slots end is n (omega arith) (omega arith)) (cases_eq n (end + 1)))) in
    omega arith

pub end_kept : (slots w : Slots) → 255 ≤ log_end slots → IsKept slots (log_end slots) w → log_end w ≡ log_end slots
end_kept slots w low kept =
    let end = log_end slots in
    let is : is_end slots end ≡ true = log_end_is_one slots (omega arith) in
    log_end_is w end (end_from w end (omega arith) (λ n from to. ap is_some (kept.same n (omega arith) (omega arith)) ∙ end_stands slots end is n from to))
    (λ n e. ⊎_elim
    (λ past.
    let most : n ≤ end + 64 = kept.bound n (end_stands w n e n (omega arith) (omega arith)) in
    let there : stands w (end + 1) ≡ true = end_stands w n e (end + 1) (omega arith) (omega arith) in
    absurd (the_gap slots (omega arith) (ap is_some (sym (kept.same (end + 1) (omega arith) (omega arith))) ∙ there)))
    (λ h. h) (cases_lt end n))

pub records_kept : (slots w : Slots) → 255 ≤ log_end slots → IsKept slots (log_end slots) w → log_records w ≡ log_records slots
records_kept slots w low kept =
    ap (λ end. records_among (sectors_read w end)) (end_kept slots w low kept)
    ∙ ap records_among (sectors_same w slots (log_end slots) (λ n a. let r = window_among (log_end slots) n (omega arith) a in kept.same n (omega arith) (omega arith)))

pub within_kept : (slots w : Slots) → 255 ≤ log_end slots → IsKept slots (log_end slots) w → IsWithinFlight w
within_kept slots w low kept = all_numbers_below w (log_end w + 64) (λ n s. let e = end_kept slots w low kept in let h = kept.bound n s in omega arith)

-- ---- all behind the gap have arrived

stays : (end k : ℕ) (numbers : List ℕ) (w : Slots) → end < 2 ^ 62 → end + 2 ≤ k → k ≤ end + 64 → list_all (is_behind_gap end) numbers ≡ true → sector_numbered w k ≡ Some (empty_sector k)
    → sector_numbered (with_sectors w (map empty_sector numbers)) k ≡ Some (empty_sector k)
stays end k [] w high low most all e = e
stays end k (n ∷ numbers) w high low most all e =
    let p = and_parts (is_behind_gap end n) (list_all (is_behind_gap end) numbers) all in
    let gap = behind_gap end n p.0 in
    stays end k numbers (with_sector w (empty_sector n)) high low most p.1
    (⊎_elim (λ s. subst (λ m. sector_numbered (with_sector w (empty_sector n)) m ≡ Some (empty_sector m)) (sym s) (empty_arrived w n (omega arith)))
    (λ ne. others_stay w (empty_sector n) k (λ s. omega arith) ∙ e) (cases_eq k n))

-- each number that is among these stands as an empty sector
pub all_arrived : (end k : ℕ) (numbers : List ℕ) (w : Slots) → end < 2 ^ 62 → list_all (is_behind_gap end) numbers ≡ true → Among k numbers
    → sector_numbered (with_sectors w (map empty_sector numbers)) k ≡ Some (empty_sector k)
all_arrived end k [] w high all a = absurd a
all_arrived end k (n ∷ numbers) w high all (inr a) = all_arrived end k numbers (with_sector w (empty_sector n)) high (and_parts (is_behind_gap end n) (list_all (is_behind_gap end) numbers) all).1 a
all_arrived end k (n ∷ numbers) w high all (inl s) =
    let p = and_parts (is_behind_gap end n) (list_all (is_behind_gap end) numbers) all in
    let gap = behind_gap end n p.0 in
    stays end k numbers (with_sector w (empty_sector n)) high (omega arith) (omega arith) p.1
    (subst (λ m. sector_numbered (with_sector w (empty_sector n)) m ≡ Some (empty_sector m)) (sym s) (empty_arrived w n (omega arith)))

-- ---- the gap is closed

-- the last 128 numbers up to the end have their sectors, the 64 behind it are empty, and none is past these
pub record IsClosed (slots : Slots) (end : ℕ) (later : Slots) : Type 0 where
  pub same : (n : ℕ) → end ≤ n + 127 → n ≤ end → sector_numbered later n ≡ sector_numbered slots n
  pub empty : (n : ℕ) → end < n → n ≤ end + 64 → sector_numbered later n ≡ Some (empty_sector n)
  pub bound : (n : ℕ) → stands later n ≡ true → n ≤ end + 64

pub closed : (slots : Slots) (end : ℕ) (w : Slots) → end < 2 ^ 62 → IsKept slots end w → ((n : ℕ) → end + 2 ≤ n → n ≤ end + 64 → sector_numbered w n ≡ Some (empty_sector n))
    → IsClosed slots end (with_sector w (empty_sector (end + 1)))
closed slots end w high kept each = record {
  same = λ n from to. others_stay w (empty_sector (end + 1)) n (λ e. omega arith) ∙ kept.same n (omega arith) (omega arith);
  empty = λ n from to. ⊎_elim (λ e. subst (λ k. sector_numbered (with_sector w (empty_sector (end + 1))) k ≡ Some (empty_sector k)) (sym e) (empty_arrived w (end + 1) (omega arith)))
      (λ ne. others_stay w (empty_sector (end + 1)) n (λ e. omega arith) ∙ each n (omega arith) to) (cases_eq n (end + 1));
  bound = bound_more end (end + 1) w high (omega arith) kept.bound;
}

-- a sector of no record
abbrev IsBlank : LogSector → Type 0
IsBlank x = (x.part ≡ 0) × (x.parts ≡ 0)

blank_sectors : (xs : List LogSector) → ((k : ℕ) (d : LogSector) → k < length xs → IsBlank (get_or xs k d)) → (starts_anew xs ≡ true) × (list_all (λ x. x.parts == 0) xs ≡ true)
blank_sectors [] each = (refl, refl)
blank_sectors (x ∷ xs) each =
    let first = each 0 x (omega arith) in
    let rest = blank_sectors xs (λ k d h. each (suc k) d (omega arith)) in
    (eq-eqb x.part 0 first.0, and_from (x.parts == 0) (list_all (λ y. y.parts == 0) xs) (eq-eqb x.parts 0 first.1) rest.1)

module _ (slots w : Slots) (low : 255 ≤ log_end slots) (is : IsClosed slots (log_end slots) w) where
  first_end : is_end slots (log_end slots) ≡ true
  first_end = log_end_is_one slots (omega arith)

  closed_stands : (n : ℕ) → log_end slots ≤ n + 127 → n ≤ log_end slots + 64 → stands w n ≡ true
  closed_stands n from to = ⊎_elim (λ past. ap is_some (is.empty n past to))
      (λ h. ap is_some (is.same n from h) ∙ end_stands slots (log_end slots) first_end n (omega arith) h) (cases_lt (log_end slots) n)

  new_end : is_end w (log_end slots + 64) ≡ true
  new_end = end_from w (log_end slots + 64) (omega arith) (λ n from to. closed_stands n (omega arith) to)

  pub closed_end : log_end w ≡ log_end slots + 64
  closed_end = log_end_is w (log_end slots + 64) new_end (λ n e. is.bound n (end_stands w n e n (omega arith) (omega arith)))

  pub closed_sealed : is_sealed w ≡ true
  closed_sealed = sealed_from w (λ n s. let h = is.bound n s in let e = closed_end in omega arith)

  -- the first 128 sectors are the last ones of what the log had
  old_sectors : take 128 (sectors_read w (log_end slots + 64)) ≡ drop 64 (sectors_read slots (log_end slots))
  old_sectors =
      let before = sectors_read slots (log_end slots) in
      let after = sectors_read w (log_end slots + 64) in
      let a = length-sectors_read slots (log_end slots) first_end in
      let b = length-sectors_read w (log_end slots + 64) new_end in
      let c : length (take 128 after) ≡ min 128 (length after) = length-take 128 after in
      let d : length (drop 64 before) ≡ length before - 64 = length-drop 64 before in
      same_lists (take 128 after) (drop 64 before) (omega arith) (λ k x h.
      let small : k < 128 = omega arith in
      let n : log_end slots + 64 - 191 + k ≡ log_end slots - 191 + (64 + k) = omega arith in
      let one : Some (get_or after k x) ≡ Some (get_or before (64 + k) x) =
      sector_read_at w (log_end slots + 64) new_end k (omega arith) x ∙ is.same (log_end slots + 64 - 191 + k) (omega arith) (omega arith)
      ∙ ap (sector_numbered slots) n ∙ sym (sector_read_at slots (log_end slots) first_end (64 + k) (omega arith) x) in
      get_or-take 128 after k x small ∙ (cc) ∙ sym (get_or-drop 64 before k x))

  -- and the others are empty
  new_sectors : (k : ℕ) (x : LogSector) → k < length (drop 128 (sectors_read w (log_end slots + 64))) → IsBlank (get_or (drop 128 (sectors_read w (log_end slots + 64))) k x)
  new_sectors k x h =
      let after = sectors_read w (log_end slots + 64) in
      let b = length-sectors_read w (log_end slots + 64) new_end in
      let c : length (drop 128 after) ≡ length after - 128 = length-drop 128 after in
      let n = log_end slots + 64 - 191 + (128 + k) in
      let one : Some (get_or after (128 + k) x) ≡ Some (empty_sector n) = sector_read_at w (log_end slots + 64) new_end (128 + k) (omega arith) x ∙ is.empty n (omega arith) (omega arith) in
      let same : get_or (drop 128 after) k x ≡ empty_sector n = get_or-drop 128 after k x ∙ (cc) in
      (ap (λ (y : LogSector). y.part) same, ap (λ (y : LogSector). y.parts) same)

  closed_records : log_records w ≡ records_among (drop 64 (sectors_read slots (log_end slots)))
  closed_records =
      let before = sectors_read slots (log_end slots) in
      let after = sectors_read w (log_end slots + 64) in
      let blank = blank_sectors (drop 128 after) new_sectors in
      ap (λ end. records_among (sectors_read w end)) closed_end ∙ ap records_among (sym (take-append-drop 128 after))
      ∙ records_among-append (take 128 after) (drop 128 after) blank.0
      ∙ ap (λ rs. records_among (take 128 after) ++ rs) (no_records (drop 128 after) blank.1)
      ∙ append-nil (records_among (take 128 after)) ∙ ap records_among old_sectors

  pub sealed_log : IsSealedFrom slots w
  sealed_log = record {
    end = closed_end;
    none_above = closed_sealed;
    records = closed_records;
    missing = begun (sectors_read slots (log_end slots)) 64;
    last = closed_records ∙ records_among-drop 64 (sectors_read slots (log_end slots));
  }
