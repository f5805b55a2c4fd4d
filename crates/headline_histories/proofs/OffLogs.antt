-- While a server is off nothing is written in its log; and as it leaves, what it did since its mount is in the log, since it kept what is durable.
use Rattle.std.proofs.Common.{ℕ, ◌≡◌, ◌≢◌, ◌≤◌, ◌<◌, inl, inr, ◌==◌, ◌&&◌, ◌||◌, not, Bool, true, false, if◌then◌else◌, IsTrue, Some, nat_eq, nat_le, List, [], ◌∷◌, refl, sym, ◌∙◌, ap, subst, arith}
use Rattle.std.proofs.lemmas.Bool.{and_parts, eq-eqb, eqb-true, false≢true, not-true}
use Rattle.frang_base.specs.Functions.{keep_if}
use Rattle.tree_definitions.specs.History.{Stays}
use Rattle.tree_definitions.specs.Removal.{mounts}
use Rattle.tree_definitions.specs.Touched.{is_mounted}
use Rattle.tree_definitions.specs.Tree.{FileTree}
use Rattle.sector_bytes.specs.Blocks.{Block}
use Rattle.sector_bytes.specs.SectorMaps.{value_at}
use Rattle.sector_bytes.specs.Sectors.{Sectors}
use Rattle.sector_world.proofs.HistoryLaws.{each_map}
use Rattle.sector_world.specs.Histories.{Commit, Each, Entry, settled, survives}
use Rattle.sector_world.specs.Histories.Entry.{Did, Mounted, Recovered, Synced}
use Rattle.disk_definitions.proofs.SameLogs.{log_records_same}
use Rattle.disk_definitions.specs.declared.region.Region.TheVariants as region
use Rattle.disk_definitions.specs.Logs.{greatest_operation}
use Rattle.disk_definitions.specs.Regions.{sector_of}
use Rattle.disk_definitions.specs.Replay.{greatest_of, slots_of}
use Rattle.byte_trees.specs.Deeds.{Deed, Does, Doubts, Says, items}
use Rattle.core_definitions.specs.Flights.{Flight, InPlace, OfLog, OfRecovery, Purpose}
use Rattle.core_definitions.specs.LineGuards.{is_server}
use Rattle.core_definitions.specs.Runs.{State as RunMoment, Step}
use Rattle.core_definitions.specs.Servers.{is_dead, is_off}
use Rattle.core_facts.proofs.Reading.{Arriving, PlacedFor, low_high, same_log, server_low, slot_low}
use Rattle.core_facts.proofs.Turns.{step_turn, work_of}
use Rattle.core_journals.proofs.Changing.{Arrived, DiskChange, Stands, turn_disk, written_elsewhere}
use Rattle.core_laws.specs.Laws.{SectorsStandOnce}
use Rattle.core_laws.specs.Leases.{LeasesEnd}
use Rattle.core_histories.specs.Stops.{ToldHistoriesSettle}
use Rattle.core_world.specs.Steps.{IsReached}
use Rattle.core_writes.proofs.Landing.{arriving_there}
use Rattle.stop_laws.specs.Happened.{Happening, Acts, Covers, Mounts, Recovers, Speaks, has_lost, on_sectors, settle, what_stays}
use Rattle.stop_laws.specs.Paired.{AreKeptSinceMount, ArePaired}
use Rattle.stop_laws.specs.Sure.{has_mounted}
use Rattle.headline_histories.specs.Closed.{EachOfItsMount, HasItsRecords}
use Rattle.headline_histories.specs.OffLogs.{GoesOnByOthers, IsOfOthers, LeavingLogsHaveTheirRecords, OffLogsAreUntouched, OffLogsKeepTheirRecords}
use Rattle.headline_histories.proofs.Others.{off_not_dead}

-- ---- nothing is written

module _ (ends : LeasesEnd) (once : SectorsStandOnce) (a slot : ℕ) (server : IsTrue (is_server a)) (low : slot < 256) where
  abbrev place : ℕ
  place = sector_of (region.Log a slot)

  apart : (s : RunMoment) (r : IsReached s) (ticket : ℕ) (flight : Flight) → value_at s.core.flights ticket ≡ Some flight → s.core.now ≤ flight.stamp → is_off (s.core.servers a).phase ≡ true → flight.sector ≡ place → ⊥
  apart s r ticket flight at early off is = go flight.purpose refl known.placed
    where
      known : Arriving s flight
      known = arriving_there ends once s r ticket flight at early

      high : 4294967296 ≤ flight.sector → ⊥
      high h = low_high flight.sector place h (slot_low a slot (server_low a server) low) is

      go : (p : Purpose) → flight.purpose ≡ p → PlacedFor p flight → ⊥
      go (OfLog number) e placed = known.not_off a server off (same_log flight.server number a slot low (sym (known.of_log number e) ∙ is)).0
      go (InPlace cover) e placed = high placed
      go OfRecovery e (inl h) = high h
      go OfRecovery e (inr x) =
          off_not_dead (s.core.servers a).phase off
          (subst (λ n. IsTrue (is_dead (s.core.servers n).phase)) (same_log flight.behalf x.0 a slot low (sym x.1 ∙ is)).0 (known.for_dead e))

  leaves : (s v : RunMoment) → IsReached s → Step s v → is_off (s.core.servers a).phase ≡ true → v.disk place ≡ s.disk place
  leaves s v r step off = go v.disk (turn_disk s (work_of v) (step_turn s v step))
    where
      go : (disk : Sectors) → DiskChange s disk → disk place ≡ s.disk place
      go disk Stands = refl
      go disk (Arrived ticket flight e early) = written_elsewhere s.disk flight.sector place flight.block (apart s r ticket flight e early off)

pub off_untouched : LeasesEnd → SectorsStandOnce → OffLogsAreUntouched
off_untouched ends once s v r step a slot server off low = leaves ends once a slot server low s v r step off

-- ---- records stay

module _ (P : Commit → Type 0) (a : ℕ) where
  by_others : (e : Entry) (older : List Entry) → IsOfOthers a e → has_mounted a (e ∷ older) ≡ true → (has_mounted a older ≡ true) × (EachOfItsMount P a older → EachOfItsMount P a (e ∷ older))
  by_others (Did c) older other m = (m, λ each. ((λ own. absurd (other own)), each))
  by_others (Recovered d k) older other m = ((and_parts (not (nat_eq d a)) (has_mounted a older) m).1, λ each. each)
  by_others (Synced d n) older other m = (m, λ each. each)
  by_others (Mounted d n) older other m = (go (nat_eq d a) refl m, λ each. λ ne. each)
    where
      go : (x : Bool) → nat_eq d a ≡ x → (x || has_mounted a older) ≡ true → has_mounted a older ≡ true
      go true e h = absurd (other (eqb-true d a e))
      go false e h = h

pub off_keep : OffLogsAreUntouched → OffLogsKeepTheirRecords
off_keep untouched s v w u a r step server off goes more had mounted = go goes
  where
    greatest : greatest_of v.disk a ≡ greatest_of s.disk a
    greatest = ap greatest_operation (log_records_same (slots_of v.disk a) (slots_of s.disk a) (λ slot low. untouched s v r step a slot server off low))

    to : HasItsRecords s w a → (EachOfItsMount (λ c. c.changes ≢ [] → c.op ≤ greatest_of s.disk a) a w.history → EachOfItsMount (λ c. c.changes ≢ [] → c.op ≤ greatest_of s.disk a) a u.history) → HasItsRecords v u a
    to has on = record {
      within = subst (λ n. n ≤ u.durable a) (sym greatest) (through (greatest_of s.disk a) (w.durable a) (u.durable a) has.within more);
      records = subst (λ n. EachOfItsMount (λ c. c.changes ≢ [] → c.op ≤ n) a u.history) (sym greatest) (on has.records);
    }
      where
        through : (x y z : ℕ) → x ≤ y → y ≤ z → x ≤ z
        through x y z h l = omega (arith, h, l)

    go : GoesOnByOthers a w u → HasItsRecords v u a
    go (inl is) = to (had (ap (has_mounted a) (sym is) ∙ mounted)) (λ each. subst (EachOfItsMount (λ c. c.changes ≢ [] → c.op ≤ greatest_of s.disk a) a) (sym is) each)
    go (inr x) =
        let one = by_others (λ c. c.changes ≢ [] → c.op ≤ greatest_of s.disk a) a x.0 w.history x.2 (ap (has_mounted a) (sym x.1) ∙ mounted) in
        to (had one.0) (λ each. subst (EachOfItsMount (λ c. c.changes ≢ [] → c.op ≤ greatest_of s.disk a) a) (sym x.1) (one.1 each))

-- ---- as a server leaves

gone_is : (d n : ℕ) (c : Commit) → survives d n c ≡ false → c.by ≡ d
gone_is d n c gone = go (nat_eq c.by d) refl gone
  where
    go : (x : Bool) → nat_eq c.by d ≡ x → (if x then nat_le c.op n else true) ≡ false → c.by ≡ d
    go true e f = eqb-true c.by d e
    go false e f = absurd (false≢true (sym f))

module _ (a greatest durable : ℕ) (d n : ℕ) (apart : d ≡ a → ⊥) where
  back_kept : (deeds : List Deed) → AreKeptSinceMount a greatest durable (what_stays d n deeds) → AreKeptSinceMount a greatest durable deeds
  back_kept [] kept = tt
  back_kept (Does c e ∷ older) kept = go (survives d n c) refl kept (back_kept older)
    where
      go : (x : Bool) → survives d n c ≡ x → AreKeptSinceMount a greatest durable (keep_if x (Does c e) (what_stays d n older)) →
          (AreKeptSinceMount a greatest durable (what_stays d n older) → AreKeptSinceMount a greatest durable older) → AreKeptSinceMount a greatest durable (Does c e ∷ older)
      go true is k on = (k.0, on k.1)
      go false is k on = ((λ own. absurd (apart (sym (gone_is d n c is) ∙ own))), on k)
  back_kept (Says e ∷ older) kept = go (not (e.server.0 == d && has_lost d n older)) kept (back_kept older)
    where
      go : (x : Bool) → AreKeptSinceMount a greatest durable (keep_if x (Says e) (what_stays d n older)) →
          (AreKeptSinceMount a greatest durable (what_stays d n older) → AreKeptSinceMount a greatest durable older) → AreKeptSinceMount a greatest durable (Says e ∷ older)
      go true k on = λ none. on (k none)
      go false k on = λ none. on k
  back_kept (Doubts marked runs ∷ older) kept = back_kept older kept

  abbrev Low : Commit → Type 0
  Low c = c.by ≡ a → c.op ≤ durable

  back_low : (deeds : List Deed) → Each Low (items (what_stays d n deeds)) → Each Low (items deeds)
  back_low [] low = tt
  back_low (Does c e ∷ older) low = go (survives d n c) refl low (back_low older)
    where
      go : (x : Bool) → survives d n c ≡ x → Each Low (items (keep_if x (Does c e) (what_stays d n older))) → (Each Low (items (what_stays d n older)) → Each Low (items older)) → Each Low (items (Does c e ∷ older))
      go true is l on = (l.0, on l.1)
      go false is l on = ((λ own. absurd (apart (sym (gone_is d n c is) ∙ own))), on l)
  back_low (Says e ∷ older) low = go (not (e.server.0 == d && has_lost d n older)) low (back_low older)
    where
      go : (x : Bool) → Each Low (items (keep_if x (Says e) (what_stays d n older))) → (Each Low (items (what_stays d n older)) → Each Low (items older)) → Each Low (items older)
      go true l on = on l
      go false l on = on l
  back_low (Doubts marked runs ∷ older) low = back_low older low

module _ (segments : ℕ) (when : ℕ → ℕ) (opening : ℕ → Block) (first : FileTree) (numbers : List ℕ) (a greatest durable : ℕ) where
  each_of_mount : (h : List Happening) → ArePaired segments when opening first numbers h → has_mounted a (on_sectors h) ≡ true → AreKeptSinceMount a greatest durable (settle first h) →
      Each (λ c. c.by ≡ a → c.op ≤ durable) (items (settle first h)) → EachOfItsMount (λ c. c.changes ≢ [] → c.op ≤ greatest) a (on_sectors h)
  each_of_mount [] p m kept low = tt
  each_of_mount (Acts c e ∷ older) p m kept low = ((λ own some. kept.0 own (low.0 own) some), each_of_mount older p.1 m kept.1 low.1)
  each_of_mount (Speaks e ∷ older) p m kept low = each_of_mount older p.2 m (kept (ap (λ b. e.server.0 == a && b) p.1 ∙ nothing (e.server.0 == a))) low
    where
      nothing : (x : Bool) → (x && false) ≡ false
      nothing true = refl
      nothing false = refl
  each_of_mount (Mounts number e ∷ older) p m kept low = λ ne. each_of_mount older p.2 (mounted ne (e.server.0 == a) refl m) (kept (none ne (e.server.0 == a) refl)) low
    where
      mounted : e.server.0 ≢ a → (x : Bool) → (e.server.0 == a) ≡ x → (x || has_mounted a (on_sectors older)) ≡ true → has_mounted a (on_sectors older) ≡ true
      mounted ne true own h = absurd (ne (eqb-true e.server.0 a own))
      mounted ne false own h = h

      none : e.server.0 ≢ a → (x : Bool) → (e.server.0 == a) ≡ x → mounts a (Stays e) ≡ false
      none ne true own = absurd (ne (eqb-true e.server.0 a own))
      none ne false own = ap (λ b. b && is_mounted e.reply) own
  each_of_mount (Covers server number ∷ older) p m kept low = each_of_mount older p m kept low
  each_of_mount (Recovers server number end ∷ older) p m kept low =
      let parts = and_parts (not (nat_eq server a)) (has_mounted a (on_sectors older)) m in
      each_of_mount older p.1 parts.1
      (back_kept a greatest durable server end (λ e. false≢true (sym (not-true (nat_eq server a) parts.0) ∙ eq-eqb server a e)) (settle first older) kept)
      (back_low a greatest durable server end (λ e. false≢true (sym (not-true (nat_eq server a) parts.0) ∙ eq-eqb server a e)) (settle first older) low)

pub leaving_have : ToldHistoriesSettle → LeavingLogsHaveTheirRecords
leaving_have settles s v w u when first numbers a number told lines mounted kept disk good off history durable = record {
  within = subst (λ (d : Sectors). greatest_of d a ≤ u.durable a) (sym disk) (subst (λ n. greatest_of s.disk a ≤ n) (sym durable) kept.within);
  records = subst (λ (d : Sectors). EachOfItsMount (λ c. c.changes ≢ [] → c.op ≤ greatest_of d a) a u.history) (sym disk)
      (subst (EachOfItsMount (λ c. c.changes ≢ [] → c.op ≤ greatest_of s.disk a) a) (sym history)
      (subst (EachOfItsMount (λ c. c.changes ≢ [] → c.op ≤ greatest_of s.disk a) a) told.sectors
      (each_of_mount s.core.setting.segments when w.opening first numbers a (greatest_of s.disk a) (w.durable a) told.happened told.paired (ap (has_mounted a) told.sectors ∙ mounted) kept.records
      (subst (Each (λ c. c.by ≡ a → c.op ≤ w.durable a)) (sym (settles when first numbers s w told lines).sectors) low))));
}
  where
    low : Each (λ c. c.by ≡ a → c.op ≤ w.durable a) (settled w.history)
    low =
        subst (λ l. Each (λ c. c.by ≡ a → c.op ≤ w.durable a) (settled l)) history
        (each_map (λ c. c.op ≤ u.last c.by) (λ c. c.by ≡ a → c.op ≤ w.durable a) (λ c below own. one c below own) (settled u.history) good.logged.below)
      where
        one : (c : Commit) → c.op ≤ u.last c.by → c.by ≡ a → c.op ≤ w.durable a
        one c below own =
            let last : c.op ≤ u.last a = subst (λ k. c.op ≤ u.last k) own below in
            let rest : u.last a ≤ w.durable a = subst (λ n. u.last a ≤ n) durable (good.logged.rested a off) in
            omega arith
