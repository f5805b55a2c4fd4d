-- Worked runs, by what is computed of the logs that they leave: which numbers stand, and the records among these.
use Rattle.std.proofs.Common.{◌≡◌, ℕ, ◌+◌, ◌-◌, ◌<◌, ◌≤◌, ◌^◌, ⊎_elim, true, false, nat_le, List, [], ◌∷◌, refl, sym, ap, ◌∙◌, subst, arith}
use Rattle.std.specs.List.{list_all}
use Rattle.std.proofs.lemmas.Bool.{and_parts, cases_lt, false≢true}
use Rattle.disk_definitions.proofs.EndLaws.{end_is_high, end_stands, log_end_is, numbers_are_below}
use Rattle.disk_definitions.specs.Logs.{Slots, is_end, log_end, numbers_in, records_among, sectors_read, stands, window}
use Rattle.frang_base.specs.declared.change.Redo.{Redo}
use Rattle.sector_bytes.specs.Bytes.{zeros}
use Rattle.disk_definitions.specs.Frames.{frame_read}
use Rattle.ring_definitions.specs.RingRuns.{LogEvent, LogState, after_log_event, after_log_events, log_at, may_all_happen, may_happen}
use Rattle.ring_definitions.specs.RingSteps.{GoodLogsReadBack, IsGoodLog, RingsBegin, RingsStep}
use Rattle.log_examples.specs.Rows.{IsSealedAs, IsWorkedRun, ReadAs, left_by, log_from, log_left, new_log}

-- ---- a log

-- it and the 191 numbers before it stand, none stands above another number, and none at the next; and the records up to it
pub record IsComputed (slots : Slots) (end top : ℕ) (records : List Redo) : Type 0 where
  pub whole : is_end slots end ≡ true
  pub below : list_all (λ n. nat_le n top) (numbers_in slots) ≡ true
  pub gap : stands slots (end + 1) ≡ false
  pub among : records_among (sectors_read slots end) ≡ records

module _ (slots : Slots) (end top : ℕ) (records : List Redo) (is : IsComputed slots end top records) (near : top ≤ end + 191) where
  high : (n : ℕ) → is_end slots n ≡ true → n ≤ end
  high n e = ⊎_elim past (λ h. h) (cases_lt end n)
    where
      up : (m : ℕ) → 191 ≤ m → m - 191 ≤ m
      up m h = omega (arith, h)

      same : (m : ℕ) → m ≤ m
      same m = omega arith

      from : (m : ℕ) → m ≤ top → m - 191 ≤ end + 1
      from m h = omega (arith, h, near)

      to : (m : ℕ) → end < m → end + 1 ≤ m
      to m h = omega (arith, h)

      past : end < n → n ≤ end
      past h = absurd (false≢true (sym is.gap ∙ end_stands slots n e (end + 1) (from n (numbers_are_below slots top is.below n (end_stands slots n e n (up n (end_is_high slots n e)) (same n)))) (to n h)))

  ends_so : log_end slots ≡ end
  ends_so = log_end_is slots end is.whole high

  pub read_so : ReadAs slots end records
  read_so = record { ends = ends_so; reads = ap (λ n. records_among (sectors_read slots n)) ends_so ∙ is.among }

-- sealed, where none stands above the end
pub sealed_so : (slots : Slots) (end : ℕ) (records : List Redo) → IsComputed slots end end records → IsSealedAs slots end records
sealed_so slots end records is =
    let r = read_so slots end end records is (up end) in record { read = r; sealed = subst (λ n. list_all (λ k. nat_le k n) (numbers_in slots) ≡ true) (sym r.ends) is.below }
  where
    up : (n : ℕ) → n ≤ n + 191
    up n = omega arith

-- ---- a run

module _ (begin : RingsBegin) (step : RingsStep) (reads : GoodLogsReadBack) where
  steps : (slots : Slots) (w : LogState) (events : List LogEvent) → IsGoodLog slots w → may_all_happen w events ≡ true → IsGoodLog slots (after_log_events w events)
  steps slots w [] good may = good
  steps slots w (e ∷ es) good may =
      let both = and_parts (may_happen w e) (may_all_happen (after_log_event w e) es) may in steps slots (after_log_event w e) es (step slots w e good both.0) both.1

  pub worked : (slots : Slots) (start : ℕ) (before : List Redo) (events : List LogEvent) (end top : ℕ) (records : List Redo) → IsSealedAs slots start before → 255 ≤ start → start < 2 ^ 62 →
      may_all_happen (log_from slots start) events ≡ true → IsComputed (log_left slots start events) end top records → top ≤ end + 191 → IsWorkedRun slots start events end records
  worked slots start before events end top records s low high may is near =
      let r = read_so (log_left slots start events) end top records is near in
      let from : log_at slots ≡ log_from slots start = ap (log_from slots) s.read.ends in
      let first : IsGoodLog slots (log_from slots start) =
      subst (IsGoodLog slots) from (begin slots (subst (λ n. 255 ≤ n) (sym s.read.ends) low) (subst (λ n. n < 2 ^ 62) (sym s.read.ends) high) s.sealed) in
      let good = steps slots (log_from slots start) events first may in
      record { begins = from; may = may; ends = r.ends; reads = r.reads; good = good; back = reads slots (left_by slots start events) good }

-- ---- the new log

pub new_sealed : IsSealedAs new_log 255 []
unfolding zeros window numbers_in frame_read
new_sealed = sealed_so new_log 255 [] (record { whole = refl; below = refl; gap = refl; among = refl })

module _ (begin : RingsBegin) (step : RingsStep) (reads : GoodLogsReadBack) where
  pub worked_anew : (events : List LogEvent) (end top : ℕ) (records : List Redo) → may_all_happen (log_from new_log 255) events ≡ true → IsComputed (log_left new_log 255 events) end top records → top ≤ end + 191 →
      IsWorkedRun new_log 255 events end records
  worked_anew events end top records may is near = worked begin step reads new_log 255 [] events end top records new_sealed (omega arith) (omega arith) may is near
