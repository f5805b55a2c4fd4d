-- A seal sector by sector, and a mount behind it.
use Rattle.std.proofs.Common.{◌-◌, ◌^◌, ◌≤◌, ◌<◌, inr, ℕ, List, Some, map, subst, sym, ◌≡◌, ◌+◌, true, false, nat_le, refl, ap, ◌∙◌, [], ◌∷◌, arith}
use Rattle.std.specs.List.{list_all}
use Rattle.std.proofs.lemmas.Bool.{and_parts, leb-true}
use Rattle.tree_definitions.specs.Numbers.{below}
use Rattle.disk_definitions.proofs.Listed.{Among, among_below, among_map}
use Rattle.disk_definitions.specs.Arriving.{with_sector, with_sectors}
use Rattle.disk_definitions.specs.LogSectors.{empty_sector}
use Rattle.ring_definitions.proofs.SealingLaws.{all_arrived}
use Rattle.disk_definitions.specs.Frames.{frame_read}
use Rattle.disk_definitions.specs.Logs.{is_sealed, log_end, numbers_in, sector_numbered, window}
use Rattle.sector_bytes.specs.Bytes.{zeros}
use Rattle.ring_definitions.specs.RingSteps.{GoodLogsReadBack, RingsBegin, RingsStep}
use Rattle.ring_definitions.specs.Sealing.{IsSealedFrom, IsWithinFlight, SealedLogsKeepTheirLastRecords, is_behind_gap}
use Rattle.log_examples.specs.Rows.{ReadAs, later_numbers, log_left}
use Rattle.log_examples.specs.Seals.{SealsComeBySectors, begun_seal, dead_log, first_record, later_seal, next_record, next_session, second_seal, until_death, whole_seal}
use Rattle.log_examples.proofs.Runs.{IsComputed, read_so, sealed_so, worked, worked_anew}

dead_came : IsComputed dead_log 256 258 (first_record ∷ [])
unfolding zeros window numbers_in frame_read
dead_came = record { whole = refl; below = refl; gap = refl; among = refl }

begun_came : IsComputed begun_seal 256 320 (first_record ∷ [])
unfolding zeros window numbers_in frame_read
begun_came = record { whole = refl; below = refl; gap = refl; among = refl }

second_came : IsComputed second_seal 256 320 (first_record ∷ [])
unfolding zeros window numbers_in frame_read
second_came = record { whole = refl; below = refl; gap = refl; among = refl }

later_came : IsComputed later_seal 256 320 (first_record ∷ [])
unfolding zeros window numbers_in frame_read
later_came = record { whole = refl; below = refl; gap = refl; among = refl }

whole_came : IsComputed whole_seal 320 320 (first_record ∷ [])
unfolding zeros window numbers_in frame_read
whole_came = record { whole = refl; below = refl; gap = refl; among = refl }

next_came : IsComputed (log_left whole_seal 320 next_session) 321 321 (first_record ∷ next_record ∷ [])
unfolding zeros window numbers_in frame_read
next_came = record { whole = refl; below = refl; gap = refl; among = refl }

pub later_is : ReadAs later_seal 256 (first_record ∷ [])
later_is = read_so later_seal 256 320 (first_record ∷ []) later_came (omega arith)

dead_is : ReadAs dead_log 256 (first_record ∷ [])
dead_is = read_so dead_log 256 258 (first_record ∷ []) dead_came (omega arith)

numbers_above : list_all (λ n. nat_le n 256) (numbers_in later_seal) ≡ false
unfolding zeros numbers_in
numbers_above = refl

pub later_open : is_sealed later_seal ≡ false
later_open = ap (λ e. list_all (λ n. nat_le n e) (numbers_in later_seal)) later_is.ends ∙ numbers_above

numbers_within : list_all (λ n. nat_le n 320) (numbers_in dead_log) ≡ true
unfolding zeros numbers_in
numbers_within = refl

dead_within : IsWithinFlight dead_log
dead_within = ap (λ e. list_all (λ n. nat_le n (e + 64)) (numbers_in dead_log)) dead_is.ends ∙ numbers_within

-- ---- by the law

-- all that came of the seal, but for its first number
abbrev came : List ℕ
came = 258 ∷ 300 ∷ 320 ∷ 319 ∷ 258 ∷ later_numbers 256

all_behind : list_all (is_behind_gap 256) came ≡ true
all_behind = refl

there : (k : ℕ) → 258 ≤ k → k ≤ 320 → Among k came
there k low high = inr (inr (inr (inr (inr (among_map (λ j. 256 + 2 + j) (below 63) (k - 258) k (among_below 63 (k - 258) (small k low high)) (back k low high))))))
  where
    small : (k : ℕ) → 258 ≤ k → k ≤ 320 → k - 258 < 63
    small k l h = omega (arith, l, h)

    back : (k : ℕ) → 258 ≤ k → k ≤ 320 → 256 + 2 + (k - 258) ≡ k
    back k l h = omega (arith, l, h)

sealed_by_law : SealedLogsKeepTheirLastRecords → IsSealedFrom dead_log whole_seal
sealed_by_law law =
    subst (λ e. IsSealedFrom dead_log (with_sector (with_sectors dead_log (map empty_sector came)) (empty_sector (e + 1)))) dead_is.ends
    (law dead_log came (low (log_end dead_log) dead_is.ends) (high (log_end dead_log) dead_is.ends) dead_within all each)
  where
    low : (n : ℕ) → n ≡ 256 → 255 ≤ n
    low n e = omega (arith, e)

    high : (n : ℕ) → n ≡ 256 → n < 2 ^ 62
    high n e = omega (arith, e)

    all : list_all (is_behind_gap (log_end dead_log)) came ≡ true
    all = ap (λ e. list_all (is_behind_gap e) came) dead_is.ends ∙ all_behind

    each : (k : ℕ) → is_behind_gap (log_end dead_log) k ≡ true → sector_numbered (with_sectors dead_log (map empty_sector came)) k ≡ Some (empty_sector k)
    each k gap =
        let p = and_parts (nat_le (256 + 2) k) (nat_le k (256 + 64)) (sym (ap (λ e. is_behind_gap e k) dead_is.ends) ∙ gap) in
        all_arrived (log_end dead_log) k came dead_log (high (log_end dead_log) dead_is.ends) all (there k (leb-true 258 k p.0) (leb-true k 320 p.1))

module _ (begin : RingsBegin) (step : RingsStep) (reads : GoodLogsReadBack) (seal : SealedLogsKeepTheirLastRecords) where
  pub seals_come : SealsComeBySectors
  seals_come = record {
    left = worked_anew begin step reads until_death 256 258 (first_record ∷ []) refl dead_came (omega arith);
    within = dead_within;
    begun = read_so begun_seal 256 320 (first_record ∷ []) begun_came (omega arith);
    second = read_so second_seal 256 320 (first_record ∷ []) second_came (omega arith);
    later = later_is;
    open_ = later_open;
    whole = sealed_so whole_seal 320 (first_record ∷ []) whole_came;
    sealed = sealed_by_law seal;
    mount =
        worked begin step reads whole_seal 320 (first_record ∷ []) next_session 321 321 (first_record ∷ next_record ∷ []) (sealed_so whole_seal 320 (first_record ∷ []) whole_came) (omega arith) (omega arith) refl next_came
        (omega arith);
  }
