-- The last record that stands whole in a good log is read: also of the log without its oldest 64 numbers, as a seal leaves it.
use Rattle.std.proofs.Common.{◌≡◌, ℕ, zero, suc, ◌+◌, ◌-◌, ◌<◌, ◌≤◌, inl, inr, ⊎_elim, max, nat_le, List, [], ◌∷◌, ◌++◌, length, take, drop, refl, sym, ap, ◌∙◌, subst, arith, length-append}
use Rattle.std.specs.List.{Contains, slice_get}
use Rattle.std.proofs.Math.Seq.{drop-append-add, drop-nil, take-append-add}
use Rattle.std.proofs.lemmas.Bool.{cases_lt, le-leb}
use Rattle.std.proofs.lemmas.List.{drop-append-le, drop-take}
use Rattle.disk_definitions.specs.declared.log_sector.LogSector.{LogSector}
use Rattle.disk_definitions.specs.Logs.{Slots, sector_numbered, window, log_end, log_records, sectors_read, records_among}
use Rattle.disk_definitions.proofs.Listed.{Among, among_either, among_filter, among_map, among_right}
use Rattle.disk_definitions.proofs.ReadingLaws.{records_among-append}
use Rattle.disk_definitions.proofs.SameLogs.{log_end_same, sectors_same, sector_same}
use Rattle.ring_definitions.specs.Rings.{Ring, last, sent}
use Rattle.ring_definitions.specs.RingRuns.{LogState, Placed, after_log_events, log_at}
use Rattle.ring_definitions.specs.RingSteps.{IsGoodLog}
use Rattle.ring_definitions.proofs.Beginning.{length-before}
use Rattle.ring_definitions.proofs.Ending.{end_sectors, not_above, not_below}
use Rattle.ring_definitions.proofs.Good.{IsGood}
use Rattle.ring_definitions.proofs.GoodLogs.{good_run}
use Rattle.ring_definitions.proofs.Laid.{IsLaid, IsRow}
use Rattle.ring_definitions.proofs.LaidReads.{laid_start, read_laid, redo_of, up_to}
use Rattle.ring_definitions.proofs.Shown.{given, read_run}
use Rattle.core_laws.proofs.Membership.{contains_in, in_contains}
use Rattle.core_readings.proofs.Ascending.{Ascends, laid_ascends}
use Rattle.core_log_marks.specs.Accounts.{OperationsRise}
use Rattle.core_log_marks.specs.LastRecords.{IsReadPast, LastRecordsAreRead}
use Rattle.core_log_marks.proofs.Chains.{IsLastUpTo, chain_of_good, last_one}

-- ---- records of laid sectors

row_first : (n past e t : ℕ) (here : List Placed) → IsRow n past e t here → (q : Placed) → Among q here → q.first ≡ n
row_first n past e t [] row q i = absurd i
row_first n past e t (p ∷ ps) row q (inl same) = ap (λ (x : Placed). x.first) same ∙ row.0.first
row_first n past e t (p ∷ ps) row q (inr i) = row_first n past e p.last ps row.1 q i

-- one that begins behind the first sectors, and ends in those that are there, is read without the first ones
read_later : (from till t i : ℕ) (over : List ℕ) (xs : List LogSector) (ps : List Placed) → IsLaid from over till xs ps → (q : Placed) → Among q ps → q.last ≤ from + t → q.first ≤ q.last → from + i < q.first →
    Among q.redo (records_among (drop i (take t xs)))
read_later from till t zero over xs ps laid q among ends grows begins =
    subst (Among q.redo) (sym (read_laid from till t over xs ps laid)) (among_map redo_of (up_to (from + t) ps) q q.redo (among_filter (λ p. nat_le p.last (from + t)) ps q among (le-leb q.last (from + t) ends)) refl)
read_later from till t (suc i) over [] ps laid q among ends grows begins = absurd (subst (Among q) laid.1 among)
read_later from till zero (suc i) over (x ∷ xs) ps laid q among ends grows begins = absurd (apart q.first q.last ends grows begins)
  where
    apart : (a b : ℕ) → b ≤ from + 0 → a ≤ b → from + suc i < a → ⊥
    apart a b h k l = omega (arith, h, k, l)
read_later from till (suc t) (suc i) over (x ∷ xs) ps laid q among ends grows begins =
    ⊎_elim first (λ there. read_later (from + 1) laid.end t i laid.past xs laid.later laid.rest q there (ends_on q.last ends) grows (begins_on q.first begins))
    (among_either q laid.here laid.later (subst (Among q) laid.split among))
  where
    apart : (a : ℕ) → a ≡ from + 1 → from + suc i < a → ⊥
    apart a e l = omega (arith, e, l)

    first : Among q laid.here → Among q.redo (records_among (drop (suc i) (take (suc t) (x ∷ xs))))
    first here = absurd (apart q.first (row_first (from + 1) (length laid.past) (max (from + 1) laid.end) (max (from + 1) till) laid.here laid.row q here) begins)

    ends_on : (a : ℕ) → a ≤ from + suc t → a ≤ from + 1 + t
    ends_on a h = omega (arith, h)

    begins_on : (a : ℕ) → from + suc i < a → from + 1 + i < a
    begins_on a h = omega (arith, h)

-- ---- the sectors that are read

sectors_given : (slots : Slots) (e : ℕ) → 0 < e → sectors_read slots e ≡ given (sector_numbered slots) (e - 191) 192
unfolding window
sectors_given slots zero h = absurd (omega (arith, h))
sectors_given slots (suc e) h = refl

drop_more : {X : Type 0} (m n k : ℕ) (xs : List X) → k ≡ n + m → drop m (drop n xs) ≡ drop k xs
drop_more m zero k xs e = ap (λ j. drop j xs) (sym (at k e))
  where
    at : (k : ℕ) → k ≡ 0 + m → k ≡ m
    at k e = omega (arith, e)
drop_more m (suc n) k [] e = drop-nil m ∙ sym (drop-nil k)
drop_more m (suc n) k (x ∷ xs) e = subst (λ j. drop m (drop n xs) ≡ drop j (x ∷ xs)) (sym (at k e)) (drop_more m n (n + m) xs refl)
  where
    at : (k : ℕ) → k ≡ suc n + m → k ≡ suc (n + m)
    at k e = omega (arith, e)

-- the last record of those that are read, of a log whose sectors were these at first, with all behind them
module _ (slots : Slots) (w : LogState) (low : 255 ≤ log_end slots) (size : length (sectors_read slots (log_end slots)) ≡ 192) (g : IsGood (log_end slots) (sectors_read slots (log_end slots)) w) where
  abbrev end : ℕ
  end = log_end slots

  abbrev before : List LogSector
  before = sectors_read slots end

  abbrev e : ℕ
  e = log_end w.slots

  reached_below : w.ring.reached ≤ e
  reached_below = not_below (end - 191) (before ++ g.rest) w.slots w.flying w.ring.reached (sent w.ring) g.standing

  sent_above : e ≤ sent w.ring
  sent_above = not_above (end - 191) (before ++ g.rest) w.slots w.flying w.ring.reached (sent w.ring) g.standing

  pub not_back : end ≤ e
  not_back = at end w.ring.reached e low g.standing.low reached_below
    where
      at : (m r e : ℕ) → 255 ≤ m → m - 191 + 191 ≤ r → r ≤ e → m ≤ e
      at m r e h l k = omega (arith, h, l, k)

  pub not_past : e ≤ last w.ring
  not_past = at e (sent w.ring) (length w.ring.waiting) sent_above
    where
      at : (e s a : ℕ) → e ≤ s → e ≤ s + a
      at e s a h = omega (arith, h)

  within : e ≤ end + length g.rest
  within = subst (λ n. e ≤ n) g.ends not_past

  abbrev gone_on : ℕ
  gone_on = e - end

  whole : end + gone_on ≡ e
  whole = at end e not_back
    where
      at : (m e : ℕ) → m ≤ e → m + (e - m) ≡ e
      at m e h = omega (arith, h)

  sectors_are : sectors_read w.slots e ≡ drop gone_on (before ++ take gone_on g.rest)
  sectors_are =
      sectors_given w.slots e (some end e low not_back)
      ∙ read_run (sector_numbered w.slots) (before ++ g.rest) (e - 191) gone_on 192 (fits (length before) (length g.rest) (length (before ++ g.rest)) size (length-append before g.rest) within)
      (λ k l. end_sectors (end - 191) (before ++ g.rest) w.slots w.flying w.ring.reached (sent w.ring) g.standing (e - 191 + k) (up k e) (down k e l low not_back) ∙ ap (slice_get (before ++ g.rest)) (place k end e low not_back))
      ∙ sym (drop-take gone_on 192 (before ++ g.rest))
      ∙ ap (drop gone_on) (ap (λ n. take n (before ++ g.rest)) (turn gone_on (length before) size) ∙ take-append-add before g.rest gone_on)
    where
      some : (m e : ℕ) → 255 ≤ m → m ≤ e → 0 < e
      some m e h k = omega (arith, h, k)

      fits : (b r l : ℕ) → b ≡ 192 → l ≡ b + r → e ≤ end + r → e - end + 192 ≤ l
      fits b r l s t h = omega (arith, s, t, h)

      up : (k e : ℕ) → e - 191 ≤ e - 191 + k
      up k e = omega arith

      down : (k e : ℕ) → k < 192 → 255 ≤ end → end ≤ e → e - 191 + k ≤ e
      down k e l h m = omega (arith, l, h, m)

      place : (k m e : ℕ) → 255 ≤ m → m ≤ e → e - 191 + k - (m - 191) ≡ e - m + k
      place k m e h l = omega (arith, h, l)

      turn : (j b : ℕ) → b ≡ 192 → j + 192 ≡ b + j
      turn j b s = omega (arith, s)

  -- without so many of the first
  read_without : (k : ℕ) (q : Placed) → Among q w.placed → q.last ≤ e → q.first ≤ q.last → e + k < q.first + 192 → end < q.first → Among q.redo (records_among (drop k (sectors_read w.slots e)))
  read_without k q among ends grows near begins =
      subst (λ xs. Among q.redo (records_among xs)) (sym (ap (drop k) sectors_are ∙ drop_more k gone_on (gone_on + k) (before ++ take gone_on g.rest) refl))
      (⊎_elim few many (cases_lt (length before) (gone_on + k)))
    where
      ends_in : q.last ≤ end + gone_on
      ends_in = subst (λ n. q.last ≤ n) (sym whole) ends

      many : gone_on + k ≤ length before → Among q.redo (records_among (drop (gone_on + k) (before ++ take gone_on g.rest)))
      many h =
          subst (λ xs. Among q.redo (records_among xs)) (sym (drop-append-le (gone_on + k) before (take gone_on g.rest) h))
          (subst (Among q.redo) (sym (records_among-append (drop (gone_on + k) before) (take gone_on g.rest) (laid_start end end gone_on g.rest w.placed g.laid)))
          (among_right q.redo (records_among (drop (gone_on + k) before)) (records_among (take gone_on g.rest))
          (read_later end end gone_on 0 [] g.rest w.placed g.laid q among ends_in grows (at end q.first begins))))
        where
          at : (m f : ℕ) → m < f → m + 0 < f
          at m f h = omega (arith, h)

      few : length before < gone_on + k → Among q.redo (records_among (drop (gone_on + k) (before ++ take gone_on g.rest)))
      few h =
          subst (λ xs. Among q.redo (records_among xs)) (sym (ap (λ n. drop n (before ++ take gone_on g.rest)) (split (length before) gone_on h) ∙ drop-append-add before (take gone_on g.rest) (gone_on + k - length before)))
          (read_later end end gone_on (gone_on + k - length before) [] g.rest w.placed g.laid q among ends_in grows (at (length before) gone_on q.first size h (subst (λ n. n + k < q.first + 192) (sym whole) near)))
        where
          split : (b j : ℕ) → b < j + k → j + k ≡ b + (j + k - b)
          split b j h = omega (arith, h)

          at : (b j f : ℕ) → b ≡ 192 → b < j + k → end + j + k < f + 192 → end + (j + k - b) < f
          at b j f s h n = omega (arith, s, h, n)

  -- each begins behind the first end, and doesn't end before its beginning
  begins_behind : (t : ℕ) (ps : List Placed) → Ascends t ps → (q : Placed) → Among q ps → (t ≤ q.first) × (q.first ≤ q.last)
  begins_behind t [] a q i = absurd i
  begins_behind t (p ∷ ps) a q (inl same) = (subst (λ (x : Placed). t ≤ x.first) (sym same) a.0, subst (λ (x : Placed). x.first ≤ x.last) (sym same) a.1.0)
  begins_behind t (p ∷ ps) a q (inr i) = let rest = begins_behind p.last ps a.1.1 q i in (over p.first p.last q.first a.0 a.1.0 rest.0, rest.1)
    where
      over : (f l n : ℕ) → t ≤ f → f ≤ l → l ≤ n → t ≤ n
      over f l n a b d = omega (arith, a, b, d)

  pub is_read : (q : Placed) → Among q w.placed → q.last ≤ e → e < q.first + 19 →
      Among q.redo (records_among (sectors_read w.slots e)) × Among q.redo (records_among (drop 64 (sectors_read w.slots e)))
  is_read q among ends near =
      let b = begins_behind (max (end + 1) end) w.placed (laid_ascends end end [] g.rest w.placed g.laid) q among in
      let begins : end < q.first = begin end q.first b.0 in
      (read_without 0 q among ends b.1 (none e q.first near) begins, read_without 64 q among ends b.1 (some e q.first near) begins)
    where
      begin : (m f : ℕ) → max (m + 1) m ≤ f → m < f
      begin m f h = omega (arith, h)

      none : (e f : ℕ) → e < f + 19 → e + 0 < f + 192
      none e f h = omega (arith, h)

      some : (e f : ℕ) → e < f + 19 → e + 64 < f + 192
      some e f h = omega (arith, h)

-- ---- of a good log

-- what a good log has come from
module _ (before : Slots) (w : LogState) (good : IsGoodLog before w) where
  abbrev run : LogState
  run = after_log_events (log_at before) good.events

  is_good : IsGood (log_end before) (sectors_read before (log_end before)) run
  is_good = good_run before good.events good.low good.high good.sealed good.happened

  same_end : log_end w.slots ≡ log_end run.slots
  same_end = log_end_same w.slots run.slots good.left.slots

  same_sectors : sectors_read w.slots (log_end w.slots) ≡ sectors_read run.slots (log_end run.slots)
  same_sectors = ap (sectors_read w.slots) same_end ∙ sectors_same w.slots run.slots (log_end run.slots) (λ n i. sector_same w.slots run.slots good.left.slots n)

  first_size : length (sectors_read before (log_end before)) ≡ 192
  first_size = length-before before good.low good.high good.sealed

  -- its end isn't before the first one, nor past the ring's last number
  pub end_rose : log_end before ≤ log_end w.slots
  end_rose = subst (λ n. log_end before ≤ n) (sym same_end) (not_back before run good.low first_size is_good)

  end_within : log_end w.slots ≤ last w.ring
  end_within = subst (λ (r : Ring). log_end w.slots ≤ last r) (sym good.left.ring) (subst (λ n. n ≤ last run.ring) (sym same_end) (not_past before run good.low first_size is_good))

  pub read_past : (p : Placed) → OperationsRise w.placed → Contains w.placed p → p.last ≤ log_end w.slots → IsReadPast w p
  read_past p rise there ends = go (last_one (log_end before) (log_end w.slots) (last w.ring) w.placed (chain_of_good before w good) end_rose end_within rise p (contains_in w.placed p there) ends)
    where
      go : IsLastUpTo (log_end w.slots) w.placed → IsReadPast w p
      go k = record {
        record_ = k.one;
        there = in_contains w.placed k.one k.there;
        ends = k.ends;
        not_below = k.below p (contains_in w.placed p there) ends;
        read = in_contains (log_records w.slots) k.one.redo (subst (λ xs. Among k.one.redo (records_among xs)) (sym same_sectors) both.0);
        sealed = in_contains (records_among (drop 64 (sectors_read w.slots (log_end w.slots)))) k.one.redo (subst (λ xs. Among k.one.redo (records_among (drop 64 xs))) (sym same_sectors) both.1);
      }
        where
          both : Among k.one.redo (records_among (sectors_read run.slots (log_end run.slots))) × Among k.one.redo (records_among (drop 64 (sectors_read run.slots (log_end run.slots))))
          both = is_read before run good.low first_size is_good k.one (subst (Among k.one) good.left.placed k.there) (subst (λ n. k.one.last ≤ n) same_end k.ends) (subst (λ n. n < k.one.first + 19) same_end k.near)

pub last_records_are_read : LastRecordsAreRead
last_records_are_read before w p good rise there ends = read_past before w good p rise there ends
