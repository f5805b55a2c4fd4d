-- Each record that stands in a log names versions from 1 on: it stood so before, or is of an operation of the world's history, along which versions rise.
use Rattle.std.proofs.Common.{◌≡◌, ℕ, zero, suc, ◌<◌, ◌≤◌, ◌⊎◌, inl, inr, ⊎_elim, Bool, true, false, if◌then◌else◌, not, nat_le, IsTrue, List, [], ◌∷◌, ◌++◌, ◌==◌, map, filter, reverse, take, drop, refl, sym, ap, ◌∙◌, subst, arith}
use Rattle.std.proofs.lemmas.Bool.{both_ways, false≢true, leb-true, ltb-true}
use Rattle.std.specs.List.{Contains}
use Rattle.frang_base.specs.Functions.{keep_if, put}
use Rattle.frang_base.proofs.Basics.{at_put}
use Rattle.frang_base.specs.declared.change.Redo.{Redo}
use Rattle.frang_base.specs.declared.limits.TheConstants.{LOGS, LOG_SECTORS}
use Rattle.frang_base.specs.declared.script.Line.{Line}
use Rattle.frang_outside.specs.Disk.{written}
use Rattle.disk_definitions.specs.Logs.{log_records}
use Rattle.disk_definitions.specs.Regions.{sector_of}
use Rattle.disk_definitions.specs.Replay.{slots_of}
use Rattle.disk_definitions.specs.declared.region.Region.TheVariants as region
use Rattle.disk_definitions.proofs.Listed.{Among}
use Rattle.disk_definitions.proofs.SameLogs.{log_records_same, zero_log_records}
use Rattle.ring_definitions.specs.RingRuns.{Placed, all_records}
use Rattle.ring_definitions.specs.Sealing.{IsSealedFrom}
use Rattle.sector_bytes.specs.Blocks.{Block, version_of}
use Rattle.sector_bytes.specs.Replays.{change_at}
use Rattle.sector_bytes.specs.Sectors.{Sectors}
use Rattle.sector_world.specs.Histories.{Item, Named, is_own, logical, own, redo_of, settled}
use Rattle.sector_world.specs.Histories.Item.{Done, Doubt}
use Rattle.sector_world.specs.Kinds.{Good}
use Rattle.sector_world.specs.OnDisk.{Raises, Rising}
use Rattle.sector_world.specs.World.{World}
use Rattle.core_definitions.specs.Flights.{Flight, InPlace, OfLog, OfRecovery, Purpose}
use Rattle.core_definitions.specs.LineEffects.{failed_by}
use Rattle.core_definitions.specs.LineGuards.{is_server}
use Rattle.core_definitions.specs.Runs.{State, Step, Run, first_state}
use Rattle.core_definitions.specs.Scripts.{host_party}
use Rattle.core_definitions.specs.Servers as life
use Rattle.core_definitions.specs.Servers.{Server, is_dead, is_in_mount, is_off}
use Rattle.core_definitions.specs.Settings.{setting_of}
use Rattle.core_definitions.specs.WriteEffects.{acknowledged}
use Rattle.core_facts.proofs.Phases.{off_dead_not}
use Rattle.core_facts.proofs.Reading.{Arriving, Placed as PlacedAt, PlacedFor, facts_of, flight_at, low_high, reads_of_run, same_log, slot_low}
use Rattle.core_facts.proofs.Turns.{Work, failed_at, work_of, step_turn, Turn, Rests, Stays, Lines, Caches, Reclaims, Clears, Commits, Mounts, Leaves, Arms, Stalls, Settles, Asks, Lowers, Releases, Relocks, Wants, Issues, Fades, Lands, Drifts, Breaks, Fails, Dooms, Resumes, Dies, Renews, Ticks, Recovers, Loads, Looks, Finishes, Halts}
use Rattle.core_journals.specs.Logs.{HasAll, IsReadAs, LogsReadAsTheirJournals}
use Rattle.core_journals.proofs.Changing.{Arrived, DiskChange, Stands, turn_disk, written_elsewhere}
use Rattle.core_laws.specs.Leases.{LeasesEnd}
use Rattle.core_laws.proofs.Ashore.{acknowledged_phase}
use Rattle.core_laws.proofs.FlightLists.{in_flights}
use Rattle.core_laws.proofs.Membership.{contains_in, in_contains}
use Rattle.core_world.specs.Journals.{IsLogOf, Journal, is_above, journal_at, records_above, sector_log}
use Rattle.core_world.specs.Readings.{changing}
use Rattle.core_world.specs.Steps.{IsWorldOf}
use Rattle.core_readings.specs.Logs.{log_journal}
use Rattle.core_order.specs.Versions.{GoesOnBy, NameFromOne, VersionsAreNamed, VersionsBegin, VersionsStay, records_beside, NameVersions}
use Rattle.core_order.proofs.Naming.{named_back, named_either, named_of_changing}

-- ---- lists

named_left : (xs ys : List Redo) (x v : ℕ) → Named xs x v → Named (xs ++ ys) x v
named_left [] ys x v n = absurd n
named_left (r ∷ rs) ys x v (inl h) = inl h
named_left (r ∷ rs) ys x v (inr n) = inr (named_left rs ys x v n)

named_right : (xs ys : List Redo) (x v : ℕ) → Named ys x v → Named (xs ++ ys) x v
named_right [] ys x v n = n
named_right (r ∷ rs) ys x v n = inr (named_right rs ys x v n)

named_dropped : (k : ℕ) (xs : List Redo) (x v : ℕ) → Named (drop k xs) x v → Named xs x v
named_dropped zero [] x v n = n
named_dropped zero (r ∷ rs) x v n = n
named_dropped (suc k) [] x v n = n
named_dropped (suc k) (r ∷ rs) x v n = inr (named_dropped k rs x v n)

named_taken : (k : ℕ) (xs : List Redo) (x v : ℕ) → Named (take k xs) x v → Named xs x v
named_taken zero [] x v n = n
named_taken zero (r ∷ rs) x v n = absurd n
named_taken (suc k) [] x v n = n
named_taken (suc k) (r ∷ rs) x v (inl h) = inl h
named_taken (suc k) (r ∷ rs) x v (inr n) = inr (named_taken k rs x v n)

abbrev redo_in : Placed → Redo
redo_in p = p.redo

-- a record that was placed names it
named_placed : (ps : List Placed) (x v : ℕ) → Named (map redo_in ps) x v → (p : Placed) × Among p ps × Named (p.redo ∷ []) x v
named_placed [] x v n = absurd n
named_placed (p ∷ ps) x v (inl h) = (p, inl refl, inl h)
named_placed (p ∷ ps) x v (inr n) = let r = named_placed ps x v n in (r.0, inr r.1, r.2)

placed_named : (ps : List Placed) (p : Placed) (x v : ℕ) → Among p ps → Named (p.redo ∷ []) x v → Named (map redo_in ps) x v
placed_named [] p x v i n = absurd i
placed_named (q ∷ ps) p x v (inl same) (inl h) = inl (h.0, ap (λ (y : Placed). change_at y.redo.changes x) (sym same) ∙ h.1, h.2)
placed_named (q ∷ ps) p x v (inl same) (inr m) = absurd m
placed_named (q ∷ ps) p x v (inr i) n = inr (placed_named ps p x v i n)

filtered_among : (test : Placed → Bool) (ps : List Placed) (p : Placed) → Among p ps → IsTrue (test p) → Among p (filter test ps)
filtered_among test [] p i t = absurd i
filtered_among test (q ∷ ps) p (inl same) t = subst (λ b. Among p (if b then q ∷ filter test ps else filter test ps)) (sym (subst (λ (y : Placed). test y ≡ true) same t)) (inl same)
filtered_among test (q ∷ ps) p (inr i) t = go (test q) (filtered_among test ps p i t)
  where
    go : (b : Bool) → Among p (filter test ps) → Among p (if b then q ∷ filter test ps else filter test ps)
    go true j = inr j
    go false j = j

-- ---- of the world's history

named_rises : (opening : ℕ → Block) (d f x v : ℕ) (h : List Item) → Rising opening x h → Named (own d f h) x v → 1 ≤ v
named_rises opening d f x v [] rising n = absurd n
named_rises opening d f x v (Doubt m ∷ h) rising n = named_rises opening d f x v h rising n
named_rises opening d f x v (Done c ∷ h) rising n = go (named_rises opening d f x v h rising.1) (is_own d f c) n
  where
    above : (a b k : ℕ) → a < b → b ≡ k → 1 ≤ k
    above a b k l e = omega (arith, l, e)

    go : (Named (own d f h) x v → 1 ≤ v) → (b : Bool) → Named (keep_if b (redo_of c) (own d f h)) x v → 1 ≤ v
    go rest false n = rest n
    go rest true (inr n) = rest n
    go rest true (inl (change, at, is)) = above (version_of (logical opening h x)) change.version v (subst (λ o. Raises o (logical opening h x)) at rising.0) is

-- ---- from a journal to the disk

module _ (s : State) (a : ℕ) (j : Journal) (r : IsReadAs s a (log_journal j)) (all : NameFromOne (all_records j.before j.log)) where
  of_journal : NameFromOne (log_records j.log.slots)
  of_journal x v n =
      all x v
      (named_taken r.back.prefix (all_records j.before j.log) x v
      (named_dropped r.back.missing (take r.back.prefix (all_records j.before j.log)) x v (subst (λ records. Named records x v) r.back.reads n)))

  of_has : HasAll j.log.slots (slots_of s.disk a) → NameFromOne (log_records (slots_of s.disk a))
  of_has has x v n = of_journal x v (subst (λ records. Named records x v) has.records n)

  of_sealed : IsSealedFrom j.log.slots (slots_of s.disk a) → NameFromOne (log_records (slots_of s.disk a))
  of_sealed sealed x v n = of_journal x v (named_dropped sealed.missing (log_records j.log.slots) x v (subst (λ records. Named records x v) sealed.last n))

  of_disk : (p : life.Phase) → (s.core.servers a).phase ≡ p → is_off p ≡ false → NameFromOne (log_records (slots_of s.disk a))
  of_disk life.Off e on = absurd (false≢true (sym on))
  of_disk life.Up e on = of_has (r.live (ap is_in_mount e))
  of_disk life.Still e on = of_has (r.live (ap is_in_mount e))
  of_disk (life.Doomed fate) e on = of_has (r.live (ap is_in_mount e))
  of_disk life.Dead e on = ⊎_elim of_has of_sealed (r.left (ap is_dead e))

named_on_disk : LogsReadAsTheirJournals → VersionsAreNamed
named_on_disk reads s journal logs all a server x v n = go (is_off (s.core.servers a).phase) refl (all a server)
  where
    go : (b : Bool) → is_off (s.core.servers a).phase ≡ b → NameFromOne (records_beside b s a (journal a)) → 1 ≤ v
    go true e h = h x v n
    go false e h =
        of_disk s a (journal a) (reads s a (log_journal (journal a)) (logs.small a server e) (logs.stand a server) e) h (s.core.servers a).phase refl e x v n

-- ---- a step

-- the disk is as it was where a server comes to be off
ends_off : (s : State) (w : Work) → Turn s w → (a : ℕ) → is_off (s.core.servers a).phase ≡ false → IsTrue (is_off (w.servers a).phase) → w.disk ≡ s.disk
ends_off s w turn a on off = go w turn off
  where
    still : (servers : ℕ → Server) (b : ℕ) (new : Server) → servers ≡ s.core.servers → new.phase ≡ (s.core.servers b).phase → IsTrue (is_off (put servers b new a).phase) → ⊥
    still servers b new same p = at_put (λ x. IsTrue (is_off x.phase) → ⊥) servers b new a
        (λ e o. both_ways (is_off (s.core.servers a).phase) on (ap is_off (ap (λ n. (s.core.servers n).phase) e ∙ sym p) ∙ o))
        (λ n o. both_ways (is_off (s.core.servers a).phase) on (ap (λ f. is_off (f a).phase) (sym same) ∙ o))

    failed : (b : ℕ) → IsTrue (is_off (failed_at s.core.servers b a).phase) → ⊥
    failed b = by (b == host_party)
      where
        by : (t : Bool) → IsTrue (is_off ((if t then s.core.servers else put s.core.servers b (failed_by (s.core.servers b))) a).phase) → ⊥
        by true o = both_ways (is_off (s.core.servers a).phase) on o
        by false o = still s.core.servers b (failed_by (s.core.servers b)) refl refl o

    go : (w : Work) → Turn s w → IsTrue (is_off (w.servers a).phase) → w.disk ≡ s.disk
    go w Rests o = refl
    go w (Stays b) o = refl
    go w (Lines b under server step) o = refl
    go w (Caches b sector block needs cover server e f got) o = refl
    go w (Reclaims b outcome server e) o = refl
    go w (Clears b block server e) o = refl
    go w (Commits b outcome server e cleared) o = refl
    go w (Mounts b under server p u read) o = refl
    go w (Leaves b server up clean) o = refl
    go w (Arms b arming server up) o = refl
    go w (Stalls b server up) o = refl
    go w (Settles b server) o = refl
    go w (Asks b lock mode server e) o = refl
    go w (Lowers b lock can) o = refl
    go w (Releases b lock can) o = refl
    go w (Relocks locks are same wait) o = refl
    go w (Wants b up) o = refl
    go w (Issues b sector write can e) o = refl
    go w (Fades ticket flight e late) o = refl
    go w (Lands ticket flight e early present) o =
        absurd (still s.core.servers flight.server (acknowledged flight.sector flight.block flight.purpose (s.core.servers flight.server)) refl
        (acknowledged_phase flight.sector flight.block flight.purpose (s.core.servers flight.server)) o)
    go w (Drifts ticket flight e early present) o = absurd (both_ways (is_off (s.core.servers a).phase) on o)
    go w (Breaks ticket flight new e early) o = absurd (failed flight.server o)
    go w (Fails b) o = refl
    go w (Dooms b fate can) o = refl
    go w (Resumes b can) o = refl
    go w (Dies b fate server p) o = refl
    go w (Renews b can) o = refl
    go w (Ticks can) o = refl
    go w (Recovers dead by can) o = refl
    go w (Loads by slot block recovery who has wants got) o = refl
    go w (Looks by sector block recovery who has wants got) o = refl
    go w (Finishes by recovery can has) o = refl
    go w Halts o = refl

-- nothing comes into the log of one that is off
module _ (ends : LeasesEnd) (script : List Line) (segments number : ℕ) (disk : Sectors) (s : State) (run : Run (first_state (setting_of script segments number) disk) s) (a : ℕ) (server : IsTrue (is_server a))
    (off : IsTrue (is_off (s.core.servers a).phase)) where
  low : a < LOGS
  low = small a (ltb-true a 16 server)
    where
      small : (n : ℕ) → n < 16 → n < 256
      small n h = omega (arith, h)

  module _ (slot : ℕ) (below : slot < LOG_SECTORS) where
    elsewhere : (one : ℕ × Flight) → Among one s.core.flights → s.core.now ≤ one.1.stamp → one.1.sector ≡ sector_of (region.Log a slot) → ⊥
    elsewhere one there early at = go one.1.purpose refl arriving.placed
      where
        arriving : Arriving s one.1
        arriving = (facts_of ends script segments number disk s run).arriving one there early (in_flights PlacedAt s.core.flights one there (reads_of_run ends script segments number disk s run).placed)

        high_not : 4294967296 ≤ one.1.sector → ⊥
        high_not high = low_high one.1.sector (sector_of (region.Log a slot)) high (slot_low a slot low below) at

        go : (p : Purpose) → one.1.purpose ≡ p → PlacedFor one.1.purpose one.1 → ⊥
        go (OfLog n) e placed = arriving.not_off a server off (same_log one.1.server n a slot below (sym (arriving.of_log n e) ∙ at)).0
        go (InPlace cover) e placed = high_not (subst (λ p. PlacedFor p one.1) e placed)
        go OfRecovery e placed = rescue (subst (λ p. PlacedFor p one.1) e placed)
          where
            rescue : PlacedFor OfRecovery one.1 → ⊥
            rescue (inl high) = high_not high
            rescue (inr x) =
                both_ways (is_dead (s.core.servers a).phase) (off_dead_not (s.core.servers a).phase off)
                (subst (λ n. IsTrue (is_dead (s.core.servers n).phase)) (same_log one.1.behalf x.0 a slot below (sym x.1 ∙ at)).0 (arriving.for_dead e))

    slot_stays : (after : Sectors) → DiskChange s after → slots_of after a slot ≡ slots_of s.disk a slot
    slot_stays after Stands = refl
    slot_stays after (Arrived ticket flight e early) = go (flight_at s.core.flights ticket flight e)
      where
        go : (one : ℕ × Flight) × Among one s.core.flights × (one.1 ≡ flight) → slots_of (written s.disk flight.sector flight.block) a slot ≡ slots_of s.disk a slot
        go x =
            written_elsewhere s.disk flight.sector (sector_of (region.Log a slot)) flight.block
            (λ at. elsewhere x.0 x.1 (subst (λ (f : Flight). s.core.now ≤ f.stamp) (sym x.2) early) (ap (λ (f : Flight). f.sector) x.2 ∙ at))

  stays_off : (v : State) → Step s v → log_records (slots_of v.disk a) ≡ log_records (slots_of s.disk a)
  stays_off v step = log_records_same (slots_of v.disk a) (slots_of s.disk a) (λ slot below. slot_stays slot below v.disk (turn_disk s (work_of v) (step_turn s v step)))

-- what is above the floor is of the world's log
module _ (v : State) (u : World) (later : ℕ → Journal) (is : IsWorldOf v u later) (good : Good u) (a : ℕ) (server : IsTrue (is_server a)) where
  above_named : (p : Placed) → Among p (later a).log.placed → u.floor a < p.redo.op.0 → is_off (v.core.servers a).phase ≡ false → NameFromOne (p.redo ∷ [])
  above_named p there above on x n named = go (v.core.servers a).phase refl (is.journals a server)
    where
      kept : IsTrue (is_above (u.floor a) p)
      kept = by (nat_le p.redo.op.0 (u.floor a)) refl
        where
          far : (k f : ℕ) → f < k → nat_le k f ≡ true → ⊥
          far k f l e = absurd (omega (arith, l, leb-true k f e))

          by : (b : Bool) → nat_le p.redo.op.0 (u.floor a) ≡ b → IsTrue (not b)
          by true e = absurd (far p.redo.op.0 (u.floor a) above e)
          by false e = refl

      of_world : records_above (u.floor a) (later a).log.placed ≡ reverse (changing (u.log a)) → 1 ≤ n
      of_world same =
          named_rises u.opening a (u.floor a) x n (settled u.history) (good.logged.rising x)
          (subst (λ l. Named l x n) (good.logged.logs a)
          (named_of_changing (u.log a) x n
          (named_back (changing (u.log a)) x n
          (subst (λ l. Named l x n) same (placed_named (filter (is_above (u.floor a)) (later a).log.placed) p x n (filtered_among (is_above (u.floor a)) (later a).log.placed p there kept) named)))))

      go : (q : life.Phase) → (v.core.servers a).phase ≡ q → IsLogOf q (v.core.servers a).ring v.core.now v.core.flights v.disk (sector_log u a) a (later a) → 1 ≤ n
      go life.Off e j = absurd (false≢true (sym on ∙ ap is_off e))
      go life.Up e j = of_world j.records.placed
      go life.Still e j = of_world j.records.placed
      go (life.Doomed fate) e j = of_world j.records.placed
      go life.Dead e j = of_world j.records.placed

pub versions_named : LogsReadAsTheirJournals → VersionsAreNamed
versions_named reads = named_on_disk reads

pub versions_stay : LeasesEnd → LogsReadAsTheirJournals → VersionsStay
versions_stay ends reads s v u journal later r step logs is good goes all a server = go (is_off (s.core.servers a).phase) (is_off (v.core.servers a).phase) refl refl
  where
    before : NameVersions s.disk
    before = named_on_disk reads s journal logs all

    on_disk : NameFromOne (log_records (slots_of s.disk a))
    on_disk x n named = before a server x n named

    kept : is_off (s.core.servers a).phase ≡ false → NameFromOne (all_records (journal a).before (journal a).log)
    kept on = subst (λ b. NameFromOne (records_beside b s a (journal a))) on (all a server)

    goes_on : is_off (s.core.servers a).phase ≡ false → is_off (v.core.servers a).phase ≡ false → GoesOnBy u a (journal a) (later a) → NameFromOne (all_records (later a).before (later a).log)
    goes_on on on_then g x n named = ⊎_elim first more (named_either (log_records (later a).before) (map redo_in (later a).log.placed) x n named)
      where
        first : Named (log_records (later a).before) x n → 1 ≤ n
        first m =
            kept on x n
            (named_left (log_records (journal a).before) (map redo_in (journal a).log.placed) x n (subst (λ slots. Named (log_records slots) x n) g.before m))

        placed : (p : Placed) → Among p (later a).log.placed → Named (p.redo ∷ []) x n → Contains (journal a).log.placed p ⊎ (u.floor a < p.redo.op.0) → 1 ≤ n
        placed p there m (inl old) =
            kept on x n
            (named_right (log_records (journal a).before) (map redo_in (journal a).log.placed) x n (placed_named (journal a).log.placed p x n (contains_in (journal a).log.placed p old) m))
        placed p there m (inr above) = above_named v u later is good a server p there above on_then x n m

        more : Named (map redo_in (later a).log.placed) x n → 1 ≤ n
        more m =
            let q = named_placed (later a).log.placed x n m in
            placed q.0 q.1 q.2 (g.placed q.0 (in_contains (later a).log.placed q.0 q.1))

    begins : NameFromOne (all_records (slots_of s.disk a) (journal_at (slots_of s.disk a)).log)
    begins x n named = ⊎_elim (λ m. on_disk x n m) (λ m. absurd m) (named_either (log_records (slots_of s.disk a)) [] x n named)

    go : (b c : Bool) → is_off (s.core.servers a).phase ≡ b → is_off (v.core.servers a).phase ≡ c → NameFromOne (records_beside (is_off (v.core.servers a).phase) v a (later a))
    go b true e f =
        subst (λ t. NameFromOne (records_beside t v a (later a))) (sym f) (λ x n named. on_disk x n (subst (λ records. Named records x n) (same b e) named))
      where
        same : (b : Bool) → is_off (s.core.servers a).phase ≡ b → log_records (slots_of v.disk a) ≡ log_records (slots_of s.disk a)
        same true e = stays_off ends r.script r.segments r.number r.disk s r.run a server e v step
        same false e = ap (λ (d : Sectors). log_records (slots_of d a)) (ends_off s (work_of v) (step_turn s v step) a e f)
    go true false e f = subst (λ t. NameFromOne (records_beside t v a (later a))) (sym f) (subst (λ j. NameFromOne (all_records j.before j.log)) (sym (goes.anew a server e f)) begins)
    go false false e f = subst (λ t. NameFromOne (records_beside t v a (later a))) (sym f) (goes_on e f (goes.on a server e f))

pub versions_begin : VersionsBegin
versions_begin b journal opening a server x v named = absurd (subst (λ records. Named records x v) (zero_log_records (slots_of b.disk a) (λ slot below. opening.logs a slot (small a (ltb-true a 16 server)) below)) named)
  where
    small : (n : ℕ) → n < 16 → n < 256
    small n h = omega (arith, h)
