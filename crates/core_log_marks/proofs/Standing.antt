-- What stands in a log is of durable operations; and the last record of them is among it.
use Rattle.std.proofs.Common.{◌≡◌, ℕ, zero, suc, ◌+◌, max, ◌≤◌, ◌⊎◌, inl, inr, ⊎_elim, Bool, true, false, not, IsTrue, nat_le, List, [], ◌∷◌, ◌++◌, take, drop, map, refl, sym, ap, ◌∙◌, subst}
use Rattle.std.specs.List.{Contains}
use Rattle.std.proofs.lemmas.Bool.{both_ways, false≢true, leb-true}
use Rattle.frang_base.specs.declared.change.Redo.{Redo}
use Rattle.disk_definitions.proofs.Listed.{Among, among_either, among_filtered, among_mapped}
use Rattle.disk_definitions.specs.Logs.{log_end, log_records}
use Rattle.disk_definitions.specs.Replay.{slots_of}
use Rattle.ring_definitions.specs.RingRuns.{Placed, ReadsBack}
use Rattle.ring_definitions.specs.Rings.{Ring}
use Rattle.ring_definitions.proofs.GoodLogs.{good_reads, good_run}
use Rattle.ring_definitions.proofs.LaidReads.{begun_by, redo_of, up_to}
use Rattle.core_definitions.specs.LineGuards.{is_server}
use Rattle.core_definitions.specs.Runs.{State as RunMoment}
use Rattle.core_definitions.specs.Servers as life
use Rattle.core_definitions.specs.Servers.{is_dead, is_in_mount, is_off}
use Rattle.core_laws.proofs.Membership.{contains_in, in_contains}
use Rattle.core_journals.specs.Logs.{HasAll, IsReadAs, LogsReadAsTheirJournals}
use Rattle.ring_definitions.specs.Sealing.{IsSealedFrom}
use Rattle.sector_world.specs.Histories.{settled}
use Rattle.sector_world.specs.World.{World}
use Rattle.core_world.specs.Journals.{IsJournal, IsLogOf, Journal, sector_log}
use Rattle.core_world.specs.Steps.{IsWorldOf}
use Rattle.core_readings.specs.Logs.{AreLogs, log_journal}
use Rattle.core_readings.proofs.Ascending.{Ascends, begun_behind, laid_ascends, read_parts}
use Rattle.core_log_marks.specs.Accounts.{AccountsFor, AreUpTo}
use Rattle.core_log_marks.specs.Keeping.{IsReportOf, Sealed, Whole}
use Rattle.core_log_marks.specs.LastRecords.{IsReadPast}
use Rattle.core_log_marks.specs.Steps.{StandingIsDurable}
use Rattle.core_log_marks.proofs.Counting.{own_up_to}
use Rattle.core_log_marks.proofs.LastRecords.{read_past}

among_drop : {X : Type 0} (n : ℕ) (xs : List X) (x : X) → Among x (drop n xs) → Among x xs
among_drop zero xs x i = i
among_drop (suc n) [] x i = i
among_drop (suc n) (y ∷ ys) x i = inr (among_drop n ys x i)

-- the journal of a server that isn't off
pub journal_on : (p : life.Phase) (w : World) (s : RunMoment) (a : ℕ) (ring : Ring) (j : Journal) → is_off p ≡ false → IsLogOf p ring s.core.now s.core.flights s.disk (sector_log w a) a j →
    IsJournal p ring s.core.now s.core.flights s.disk (sector_log w a) a j
journal_on life.Off w s a ring j on l = absurd (false≢true (sym on))
journal_on life.Up w s a ring j on l = l
journal_on life.Still w s a ring j on l = l
journal_on (life.Doomed fate) w s a ring j on l = l
journal_on life.Dead w s a ring j on l = l

-- ---- a log beside its journal

module _ (p : life.Phase) (w : World) (s : RunMoment) (a : ℕ) (ring : Ring) (j : Journal) (is : IsJournal p ring s.core.now s.core.flights s.disk (sector_log w a) a j) (account : AccountsFor j w a) where
  abbrev end : ℕ
  end = log_end j.log.slots

  -- a record since the mount is of a durable operation exactly where it ends up to the log's end
  durable_end : (q : Placed) → Contains j.log.placed q → q.redo.op.0 ≤ w.durable a → q.last ≤ end
  durable_end q i low = subst (λ n. n ≤ end) (is.records.ends_at_last q i) ((own_up_to j.ends end a (w.durable a) q.redo.op.0 (settled w.history) is.counted.durable (account.own q i)).0 low)

  end_durable : (q : Placed) → Contains j.log.placed q → q.last ≤ end → q.redo.op.0 ≤ w.durable a
  end_durable q i low = (own_up_to j.ends end a (w.durable a) q.redo.op.0 (settled w.history) is.counted.durable (account.own q i)).1 (subst (λ n. n ≤ end) (sym (is.records.ends_at_last q i)) low)

  back : ReadsBack j.before j.log
  back = good_reads j.before j.log is.good

  abbrev front : List Redo
  front = log_records j.before ++ map redo_of (up_to end (begun_by j.log.ring.given_up j.log.placed))

  abbrev rest : List Redo
  rest = map redo_of (up_to end (begun_behind j.log.ring.given_up j.log.placed))

  ascending : (t : ℕ) × Ascends t j.log.placed
  ascending =
      let run = good_run j.before is.good.events is.good.low is.good.high is.good.sealed is.good.happened in
      (max (log_end j.before + 1) (log_end j.before), subst (Ascends (max (log_end j.before + 1) (log_end j.before))) (sym is.good.left.placed) (laid_ascends (log_end j.before) (log_end j.before) [] run.rest _ run.laid))

  reads_as : log_records j.log.slots ≡ drop back.missing front ++ rest
  reads_as =
      back.reads ∙ ap (λ n. drop back.missing (take n (log_records j.before ++ map (λ q. q.redo) j.log.placed))) back.ended
      ∙ read_parts (log_records j.before) j.log.placed ascending.0 ascending.1 j.log.ring.given_up end back.missing back.given_up

  placed_durable : (qs : List Placed) → ((q : Placed) → Among q qs → Among q j.log.placed) → (r : Redo) → Among r (map redo_of (up_to end qs)) → r.op.0 ≤ w.durable a
  placed_durable qs there r i =
      let q = among_mapped redo_of (up_to end qs) r i in
      let f = among_filtered (λ x. nat_le x.last end) qs q.0 q.1 in
      subst (λ (x : Redo). x.op.0 ≤ w.durable a) q.2 (end_durable q.0 (in_contains j.log.placed q.0 (there q.0 f.0)) (leb-true q.0.last end f.1))

  pub base_durable : AreUpTo (w.durable a) (log_records j.log.slots)
  base_durable r i = ⊎_elim (λ x. in_front (among_drop back.missing front r x)) (placed_durable (begun_behind j.log.ring.given_up j.log.placed) (λ q k. (among_filtered (λ x. not (nat_le x.first j.log.ring.given_up)) j.log.placed q k).0) r)
      (among_either r (drop back.missing front) rest (subst (Among r) reads_as (contains_in (log_records j.log.slots) r i)))
    where
      in_front : Among r front → r.op.0 ≤ w.durable a
      in_front x =
          ⊎_elim (λ old. account.before r (in_contains (log_records j.before) r old)) (placed_durable (begun_by j.log.ring.given_up j.log.placed) (λ q k. (among_filtered (λ x. nat_le x.first j.log.ring.given_up) j.log.placed q k).0) r)
          (among_either r (log_records j.before) (map redo_of (up_to end (begun_by j.log.ring.given_up j.log.placed))) x)

  -- ---- what is read of it

  module _ (records : List Redo) (report : IsReportOf j.log.slots records) where
    pub report_durable : AreUpTo (w.durable a) records
    report_durable r i = go report
      where
        go : IsReportOf j.log.slots records → r.op.0 ≤ w.durable a
        go (Whole is) = base_durable r (subst (λ l. Contains l r) is i)
        go (Sealed is missing last) = base_durable r (in_contains (log_records j.log.slots) r (among_drop missing (log_records j.log.slots) r (contains_in (drop missing (log_records j.log.slots)) r (subst (λ l. Contains l r) last i))))

    -- where a record since the mount is of a durable operation, one is read whose operation isn't below
    pub report_past : (q : Placed) → Contains j.log.placed q → q.redo.op.0 ≤ w.durable a → (r : Redo) × Contains records r × (q.redo.op.0 ≤ r.op.0)
    report_past q i low = go report
      where
        past : IsReadPast j.log q
        past = read_past j.before j.log is.good q account.rise i (durable_end q i low)

        go : IsReportOf j.log.slots records → (r : Redo) × Contains records r × (q.redo.op.0 ≤ r.op.0)
        go (Whole same) = (past.record_.redo, subst (λ l. Contains l past.record_.redo) (sym same) past.read, past.not_below)
        go (Sealed same missing last) = (past.record_.redo, subst (λ l. Contains l past.record_.redo) (sym same) past.sealed, past.not_below)

-- ---- what stands on the disk

module _ (read_as : LogsReadAsTheirJournals) (s : RunMoment) (w : World) (journal : ℕ → Journal) (t : IsWorldOf s w journal) (logs : AreLogs s journal) (a : ℕ) (server : IsTrue (is_server a)) (on : is_off (s.core.servers a).phase ≡ false) where
  reads : IsReadAs s a (log_journal (journal a))
  reads = read_as s a (log_journal (journal a)) (logs.small a server on) (logs.stand a server) on

  whole_or_sealed : HasAll (journal a).log.slots (slots_of s.disk a) ⊎ IsSealedFrom (journal a).log.slots (slots_of s.disk a) → IsReportOf (journal a).log.slots (log_records (slots_of s.disk a))
  whole_or_sealed (inl all) = Whole all.records
  whole_or_sealed (inr sealed) = Sealed sealed.records sealed.missing sealed.last

  pub standing_report : IsReportOf (journal a).log.slots (log_records (slots_of s.disk a))
  standing_report = go (s.core.servers a).phase refl
    where
      go : (p : life.Phase) → (s.core.servers a).phase ≡ p → IsReportOf (journal a).log.slots (log_records (slots_of s.disk a))
      go life.Off e = absurd (both_ways (is_off (s.core.servers a).phase) on (ap is_off e))
      go life.Up e = whole_or_sealed (inl (reads.live (ap is_in_mount e)))
      go life.Still e = whole_or_sealed (inl (reads.live (ap is_in_mount e)))
      go (life.Doomed fate) e = whole_or_sealed (inl (reads.live (ap is_in_mount e)))
      go life.Dead e = whole_or_sealed (reads.left (ap is_dead e))

  pub there : IsJournal (s.core.servers a).phase (s.core.servers a).ring s.core.now s.core.flights s.disk (sector_log w a) a (journal a)
  there = journal_on (s.core.servers a).phase w s a (s.core.servers a).ring (journal a) on (t.journals a server)

pub standing_is_durable : LogsReadAsTheirJournals → StandingIsDurable
standing_is_durable read_as s w journal t g logs accounts a server = go (is_off (s.core.servers a).phase) refl
  where
    go : (b : Bool) → is_off (s.core.servers a).phase ≡ b → AreUpTo (w.durable a) (log_records (slots_of s.disk a))
    go true off = (accounts a server).rest off
    go false on =
        report_durable (s.core.servers a).phase w s a (s.core.servers a).ring (journal a) (there read_as s w journal t logs a server on) ((accounts a server).journal on) (log_records (slots_of s.disk a))
        (standing_report read_as s w journal t logs a server on)
