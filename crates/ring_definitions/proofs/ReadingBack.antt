-- What the log of a ring reads as: the records before it and those appended up to the log's end, without some of the first.
use Rattle.std.proofs.Common.{◌≡◌, ℕ, zero, suc, ◌+◌, ◌-◌, ◌<◌, ◌≤◌, ⊎_elim, max, true, List, [], ◌++◌, length, take, drop, map, refl, sym, ap, ◌∙◌, subst, arith, length-append}
use Rattle.std.specs.List.{slice_get}
use Rattle.std.proofs.Math.Seq.{take-append-add}
use Rattle.std.proofs.lemmas.Bool.{cases_lt}
use Rattle.std.proofs.lemmas.List.{take-map, drop-take}
use Rattle.disk_definitions.specs.declared.log_sector.LogSector.{LogSector}
use Rattle.disk_definitions.specs.Logs.{Slots, sector_numbered, window, log_end, sectors_read, records_among}
use Rattle.disk_definitions.proofs.ReadingLaws.{begun, begun_more, begun-append, begun_behind, starts_anew, records_among-drop, records_among-append, plus_more}
use Rattle.ring_definitions.specs.Rings.{sent}
use Rattle.ring_definitions.specs.RingRuns.{Placed, LogState, ReadsBack}
use Rattle.ring_definitions.proofs.Shown.{given, read_run}
use Rattle.ring_definitions.proofs.Laid.{IsLaid}
use Rattle.ring_definitions.proofs.LaidReads.{redo_of, up_to, begun_by, up_to_first, up_to_grows, laid_rising, laid_start, read_laid, begun_laid}
use Rattle.ring_definitions.proofs.Good.{IsGood}
use Rattle.ring_definitions.proofs.Ending.{not_below, not_above, end_sectors}

-- the sectors up to an end are given at the 192 numbers up to it
sectors_given : (slots : Slots) (e : ℕ) → 0 < e → sectors_read slots e ≡ given (sector_numbered slots) (e - 191) 192
unfolding window
sectors_given slots zero h = absurd (omega arith)
sectors_given slots (suc e) h = refl

-- ---- the sectors

-- up to an end they are the first ones without as many as it is further
sectors_up_to : (end : ℕ) (before rest : List LogSector) (slots : Slots) (e : ℕ) → length before ≡ 192 → 255 ≤ end → end ≤ e → e ≤ end + length rest
    → ((n : ℕ) → e - 191 ≤ n → n ≤ e → sector_numbered slots n ≡ slice_get (before ++ rest) (n - (end - 191)))
    → sectors_read slots e ≡ drop (e - end) (before ++ take (e - end) rest)
sectors_up_to end before rest slots e size low more within each =
    sectors_given slots e some
    ∙ read_run (sector_numbered slots) (before ++ rest) (e - 191) (e - end) 192 (fits (length before) (length rest) (length (before ++ rest)) size (length-append before rest) within)
    (λ k l. each (e - 191 + k) (up k) (down k l) ∙ ap (slice_get (before ++ rest)) (place k))
    ∙ sym (drop-take (e - end) 192 (before ++ rest))
    ∙ ap (drop (e - end)) (ap (λ n. take n (before ++ rest)) (turn (e - end) (length before) size) ∙ take-append-add before rest (e - end))
  where
    some : 0 < e
    some = omega arith

    fits : (b r l : ℕ) → b ≡ 192 → l ≡ b + r → e ≤ end + r → e - end + 192 ≤ l
    fits b r l s t h = omega arith

    up : (k : ℕ) → e - 191 ≤ e - 191 + k
    up k = omega arith

    down : (k : ℕ) → k < 192 → e - 191 + k ≤ e
    down k l = omega arith

    place : (k : ℕ) → e - 191 + k - (end - 191) ≡ e - end + k
    place k = omega arith

    turn : (j b : ℕ) → b ≡ 192 → j + 192 ≡ b + j
    turn j b s = omega arith

-- ---- the records

module _ (end : ℕ) (before rest : List LogSector) (placed : List Placed) (laid : IsLaid end [] end rest placed) where
  -- of the sectors up to a number
  records_up_to : (j : ℕ) → records_among (before ++ take j rest) ≡ records_among before ++ map redo_of (up_to (end + j) placed)
  records_up_to j = records_among-append before (take j rest) (laid_start end end j rest placed laid) ∙ ap (λ rs. records_among before ++ rs) (read_laid end end j [] rest placed laid)

  -- those are a prefix of all
  prefix_of_all : (j : ℕ) → records_among before ++ map redo_of (up_to (end + j) placed) ≡ take (length (records_among before) + length (up_to (end + j) placed)) (records_among before ++ map redo_of placed)
  prefix_of_all j =
      ap (λ rs. records_among before ++ rs) (ap (map redo_of) (up_to_first (end + j) (max (end + 1) end) placed (laid_rising end end [] rest placed laid)) ∙ sym (take-map redo_of (length (up_to (end + j) placed)) placed))
      ∙ sym (take-append-add (records_among before) (map redo_of placed) (length (up_to (end + j) placed)))

  -- of the first sectors no more begin than were before and are given up
  begun_up_to : (j n : ℕ) → length before ≡ 192 → end + j ≤ n + 192 → begun (before ++ take j rest) j ≤ length (records_among before) + length (begun_by n placed)
  begun_up_to j n size near = ⊎_elim few many (cases_lt (length before) j)
    where
      starts : starts_anew (take j rest) ≡ true
      starts = laid_start end end j rest placed laid

      many : j ≤ length before → begun (before ++ take j rest) j ≤ length (records_among before) + length (begun_by n placed)
      many h =
          let a : begun (before ++ take j rest) j ≤ begun (before ++ take j rest) (length before) = begun_more (before ++ take j rest) j (length before) h in
          let b : begun (before ++ take j rest) (length before) ≡ length (records_among before) = begun-append before (take j rest) starts in
          omega arith

      few : length before < j → begun (before ++ take j rest) j ≤ length (records_among before) + length (begun_by n placed)
      few h =
          let split : j ≡ length before + (j - length before) = omega arith in
          let a : begun (before ++ take j rest) j ≡ length (records_among before) + begun (take j rest) (j - length before) = ap (begun (before ++ take j rest)) split ∙ begun_behind before (take j rest) (j - length before) starts in
          let b : begun (take j rest) (j - length before) ≤ length (begun_by n placed) = begun_laid end end j (j - length before) n [] rest placed laid (behind (length before) size h) in
          omega arith
        where
          behind : (b : ℕ) → b ≡ 192 → b < j → end + (j - b) ≤ n
          behind b s l = omega arith

module _ (slots : Slots) (w : LogState) (low : 255 ≤ log_end slots) (size : length (sectors_read slots (log_end slots)) ≡ 192) (g : IsGood (log_end slots) (sectors_read slots (log_end slots)) w) where
  abbrev end : ℕ
  end = log_end slots

  abbrev before : List LogSector
  before = sectors_read slots end

  abbrev all : List LogSector
  all = g.rest

  abbrev e : ℕ
  e = log_end w.slots

  reached_below : w.ring.reached ≤ e
  reached_below = not_below (end - 191) (before ++ all) w.slots w.flying w.ring.reached (sent w.ring) g.standing

  sent_above : e ≤ sent w.ring
  sent_above = not_above (end - 191) (before ++ all) w.slots w.flying w.ring.reached (sent w.ring) g.standing

  -- how far the end has gone on
  abbrev gone_on : ℕ
  gone_on = e - end

  not_back : end ≤ e
  not_back = at end w.ring.reached e low g.standing.low reached_below
    where
      at : (m r e : ℕ) → 255 ≤ m → m - 191 + 191 ≤ r → r ≤ e → m ≤ e
      at m r e h l k = omega arith

  whole : end + gone_on ≡ e
  whole = at end e not_back
    where
      at : (m e : ℕ) → m ≤ e → m + (e - m) ≡ e
      at m e h = omega arith

  within : e ≤ end + length all
  within = at e (sent w.ring) (length w.ring.waiting) (end + length all) sent_above g.ends
    where
      at : (e s a m : ℕ) → e ≤ s → s + a ≡ m → e ≤ m
      at e s a m h k = omega arith

  near : end + gone_on ≤ w.ring.given_up + 192
  near = at (end + gone_on) e (sent w.ring) (length w.ring.waiting) (w.ring.given_up + 192) whole sent_above g.kept
    where
      at : (i e s a k : ℕ) → i ≡ e → e ≤ s → s + a ≤ k → i ≤ k
      at i e s a k f h l = omega arith

  sectors_are : sectors_read w.slots e ≡ drop gone_on (before ++ take gone_on all)
  sectors_are = sectors_up_to end before all w.slots e size low not_back within (end_sectors (end - 191) (before ++ all) w.slots w.flying w.ring.reached (sent w.ring) g.standing)

  pub reads_back : ReadsBack slots w
  reads_back = record {
    prefix = length (records_among before) + length (up_to (end + gone_on) w.placed);
    missing = begun (before ++ take gone_on all) gone_on;
    reads =
        ap records_among sectors_are ∙ records_among-drop gone_on (before ++ take gone_on all)
        ∙ ap (drop (begun (before ++ take gone_on all) gone_on)) (records_up_to end before all w.placed g.laid gone_on ∙ prefix_of_all end before all w.placed g.laid gone_on);
    ended = ap (λ n. length (records_among before) + length (up_to n w.placed)) whole;
    reached = plus_more (length (records_among before)) (length (up_to w.ring.reached w.placed)) (length (up_to (end + gone_on) w.placed))
        (up_to_grows w.ring.reached (end + gone_on) w.placed (subst (λ n. w.ring.reached ≤ n) (sym whole) reached_below));
    given_up = begun_up_to end before all w.placed g.laid gone_on w.ring.given_up size near;
  }
