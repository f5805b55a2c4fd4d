-- A server's log at each step of a run: it goes on by what happens to its ring and its sectors, or anew behind a mount.
use Rattle.std.proofs.Common.{◌≡◌, ℕ, ◌≤◌, ◌<◌, ◌+◌, ◌-◌, ◌%◌, ◌⊎◌, inl, inr, Bool, true, false, not, ◌&&◌, ◌||◌, ◌==◌, if◌then◌else◌, is_some, IsTrue, [], ◌∷◌, ◌++◌, length, nat_eq, nat_le, Option, Some, None, refl, sym, ap, ◌∙◌, subst, arith}
use Rattle.std.proofs.lemmas.Bool.{and_parts, both_ways, cases_eq, eq-eqb, eqb-true, false≢true, le-leb, leb-true}
use Rattle.std.proofs.lemmas.List.Elements.{Contains-push_cases}
use Rattle.std.proofs.lemmas.Option.{none-some}
use Rattle.std.specs.List.{Contains}
use Rattle.std.specs.Option.{unwrap_or}
use Rattle.frang_base.specs.Functions.{put}
use Rattle.frang_base.specs.declared.change.Redo.{Redo}
use Rattle.frang_base.proofs.Basics.{at_put, put_same}
use Rattle.frang_outside.specs.Disk.{written}
use Rattle.disk_definitions.proofs.Listed.{Among, all_at, among_below}
use Rattle.disk_definitions.proofs.SameLogs.{SameSlots, log_end_same}
use Rattle.disk_definitions.specs.Frames.{frame_bytes}
use Rattle.disk_definitions.specs.Logs.{is_sealed, log_end}
use Rattle.disk_definitions.specs.Regions.{sector_of}
use Rattle.disk_definitions.specs.Replay.{slots_of}
use Rattle.disk_definitions.specs.declared.region.Region.TheVariants as region
use Rattle.lock_definitions.specs.Calls.{cleared}
use Rattle.lock_definitions.specs.Lease.{HasEnded, IsInTime}
use Rattle.sector_bytes.specs.Blocks.{Block, zero_block}
use Rattle.sector_bytes.specs.SectorMaps.{value_at, without}
use Rattle.sector_bytes.specs.Sectors.{Sectors, sectors_of}
use Rattle.tree_definitions.specs.Apply.{is_path_op}
use Rattle.tree_definitions.specs.Numbers.{below}
use Rattle.ring_definitions.specs.RingRuns.{may_happen}
use Rattle.ring_definitions.specs.RingRuns.LogEvent.{Acknowledge, Append, Arrive, GiveUp, Issue}
use Rattle.ring_definitions.specs.Rings.{Ring, appended, free, last, need, reclaimed_of, ring_at, sent}
use Rattle.ring_definitions.proofs.GoodLogs.{begins_good}
use Rattle.ring_definitions.proofs.Packed.{length-framed}
use Rattle.core_definitions.specs.Cores.{clean_at, stage, writes}
use Rattle.cache_definitions.specs.Caches.{any_cached, is_dirty}
use Rattle.core_definitions.specs.Effects.{disk_with}
use Rattle.core_definitions.specs.EndEffects.{recovered}
use Rattle.core_definitions.specs.EndGuards.{CanFinish, is_recovery, is_through}
use Rattle.core_definitions.specs.Events.{PutFailed}
use Rattle.core_definitions.specs.Flights.{Flight, Flights, InPlace, OfLog, OfRecovery, Purpose, has_flights}
use Rattle.core_definitions.specs.LineEffects.{committed_by, failed_by, off_after, ring_after as ring_of, up_after}
use Rattle.core_definitions.specs.LineGuards.{is_server}
use Rattle.core_definitions.specs.Lines.{Finishing, Stage, Under}
use Rattle.core_definitions.specs.Logs.{end_of, is_none, is_read, is_sealed_by, is_slot_read}
use Rattle.core_definitions.specs.Plans.{Outcome}
use Rattle.core_definitions.specs.Recoveries.{Recovery, is_replay_done, is_seal_done, is_sealed_at, replay_writes, to_look}
use Rattle.core_definitions.specs.Rings.{appended_some, is_all_reached, is_in_window, next_write}
use Rattle.core_definitions.specs.Runs.{State}
use Rattle.core_definitions.specs.Scripts.{host_party}
use Rattle.core_definitions.specs.Servers.{Dead, Doomed, Fate, Off, Phase, Server, Still, Up, asks, is_dead, is_in_mount, is_off, is_still, is_up, stage_under, wanting_all, wanting_all_up}
use Rattle.core_definitions.specs.Settings.{disk_logs}
use Rattle.core_definitions.specs.WriteEffects.{acknowledged as taken_by, clean_now, counted, died_with, flight_of, flights_at_death, ring_after}
use Rattle.core_definitions.specs.WriteGuards.{CanIssue, is_worker, is_write}
use Rattle.core_definitions.specs.Writes.{Write, comes_clean, keeps_window}
use Rattle.core_facts.proofs.Phases.{doomed_mounted, mounted_dead_not, off_dead_not, recover_waits, up_mounted}
use Rattle.core_facts.proofs.Reading.{Arriving, Facts, Placed, PlacedFor, Reads, flight_at, low_high, same_log, server_low, slot_low, slots_in}
use Rattle.core_facts.proofs.Turns.{Work, work_of, at_server, failed_at, Turn, Rests, Stays, Lines, Caches, Reclaims, Clears, Commits, Mounts, Leaves, Arms, Stalls, Settles, Asks, Lowers, Releases, Relocks, Wants, Issues, Fades, Lands, Drifts, Breaks, Fails, Dooms, Resumes, Dies, Renews, Ticks, Recovers, Loads, Looks, Finishes, Halts}
use Rattle.core_facts.proofs.WriteKinds.{NextOfLog, Places, Rescues, Wanted, next_log_write, wanted_is}
use Rattle.core_laws.proofs.FlightLists.{AllFlights, in_flights}
use Rattle.core_laws.proofs.Guarding.{Of2, of_2, of_3, of_4}
use Rattle.core_laws.proofs.Membership.{contains_in}
use Rattle.core_laws.proofs.Memory.{dead_of}
use Rattle.core_laws.proofs.Resting.{server_no_host}
use Rattle.core_laws.specs.Facts.{KeepsWindows}
use Rattle.core_journals.specs.Journals.{GoesOn, IsAtRest, IsJournal, IsLeft, IsLog, IsLogOf, IsReading, IsSent, Journal, Open, is_working, journal_at}
use Rattle.core_journals.specs.Journals as journals
use Rattle.core_journals.specs.Logs.{IsFit}
use Rattle.core_journals.proofs.Changing.{Arrived, Change, DiskChange, Kept, Read, Stands, Taken, Written_, turn_recovery}
use Rattle.core_journals.proofs.FlightChanges.{Flew, FlightFrom, Was, committed_were, died_were, here_were, is_rescue, landed_were, turn_flights, turn_now}
use Rattle.core_journals.proofs.JournalSteps.{Next, ack_may, acked_sealed, acknowledged, append_may, appends, arrive_may, gives_up, issue_may, issues, next_is, no_event, one_event, two_events, with_event}
use Rattle.core_journals.proofs.Landing.{Known, journal, landed_log, not_over, sent as landed_sent}
use Rattle.core_journals.proofs.LogBlocks.{same_back}
use Rattle.core_journals.proofs.Quiet.{AreOver, Bounds, bounds_of, dead_off_not, quiet_log, rest_same}
use Rattle.core_journals.proofs.SealStates.{end_low}
use Rattle.core_journals.proofs.Touching.{IsQuiet}

-- ---- a server whose ring and life are as before

record SameLife (old new : Server) : Type 0 where
  off : is_off new.phase ≡ is_off old.phase
  mount : is_in_mount new.phase ≡ is_in_mount old.phase
  dead : is_dead new.phase ≡ is_dead old.phase
  ring : new.ring ≡ old.ring
  expiry : IsTrue (is_dead old.phase) → new.expiry ≡ old.expiry

same_life : (old new : Server) → new.phase ≡ old.phase → new.ring ≡ old.ring → new.expiry ≡ old.expiry → SameLife old new
same_life old new phase ring expiry = record { off = ap is_off phase; mount = ap is_in_mount phase; dead = ap is_dead phase; ring = ring; expiry = λ d. expiry }

pub mounted_off_not : (p : Phase) → IsTrue (is_in_mount p) → is_off p ≡ false
mounted_off_not Off h = absurd (false≢true h)
mounted_off_not Up h = refl
mounted_off_not Still h = refl
mounted_off_not (Doomed fate) h = refl
mounted_off_not Dead h = refl

-- it is in a mount before and after
mount_life : (old new : Server) → IsTrue (is_in_mount old.phase) → IsTrue (is_in_mount new.phase) → new.ring ≡ old.ring → SameLife old new
mount_life old new was is ring = record {
  off = mounted_off_not new.phase is ∙ sym (mounted_off_not old.phase was);
  mount = is ∙ sym was;
  dead = mounted_dead_not new.phase is ∙ sym (mounted_dead_not old.phase was);
  ring = ring;
  expiry = λ d. absurd (both_ways (is_dead old.phase) (mounted_dead_not old.phase was) d);
}

pub still_mounted : (p : Phase) → IsTrue (is_still p) → IsTrue (is_in_mount p)
still_mounted Off h = absurd (false≢true h)
still_mounted Up h = absurd (false≢true h)
still_mounted Still h = refl
still_mounted (Doomed fate) h = absurd (false≢true h)
still_mounted Dead h = absurd (false≢true h)

put_life : (servers : ℕ → Server) (b : ℕ) (new : Server) → SameLife (servers b) new → (a : ℕ) → SameLife (servers a) (put servers b new a)
put_life servers b new here a = at_put (SameLife (servers a)) servers b new a (λ e. subst (λ n. SameLife (servers n) new) (sym e) here) (λ n. same_life (servers a) (servers a) refl refl refl)

failed_life : (servers : ℕ → Server) (b a : ℕ) → SameLife (servers a) (failed_at servers b a)
failed_life servers b a = go (b == host_party)
  where
    go : (t : Bool) → SameLife (servers a) ((if t then servers else put servers b (failed_by (servers b))) a)
    go true = same_life (servers a) (servers a) refl refl refl
    go false = put_life servers b (failed_by (servers b)) (same_life (servers b) (failed_by (servers b)) refl refl refl) a

flushed_life : (server : Server) (test : Bool) → SameLife server (if test then wanting_all_up server else server)
flushed_life server false = same_life server server refl refl refl
flushed_life server true = go (is_up server.phase)
  where
    go : (b : Bool) → SameLife server (if b then wanting_all server else server)
    go true = same_life server (wanting_all server) refl refl refl
    go false = same_life server server refl refl refl

life_kept : (old new : Server) (servers : ℕ → Server) (now : ℕ) (flights : Flights) (disk : Sectors) (a : ℕ) (j : Journal) → SameLife old new → IsLogOf old servers now flights disk a j →
    IsLogOf new servers now flights disk a j
life_kept old new servers now flights disk a j same log = record {
  rest = λ off. log.rest (sym same.off ∙ off);
  journal = λ on. subst (λ r. IsJournal r now flights a j) (sym same.ring) (log.journal (sym same.off ∙ on));
  live = λ up. log.live (sym same.mount ∙ up);
  left = λ dead. subst (λ x. IsLeft x servers now flights disk a j.log.slots) (sym (same.expiry (sym same.dead ∙ dead))) (log.left (sym same.dead ∙ dead));
}

-- something happens to its ring that leaves the slots
ring_kept : (old new : Server) (servers : ℕ → Server) (now : ℕ) (flights : Flights) (disk : Sectors) (a : ℕ) (j k : Journal) → new.phase ≡ old.phase → new.expiry ≡ old.expiry →
    k.log.slots ≡ j.log.slots → (IsJournal old.ring now flights a j → IsJournal new.ring now flights a k) → IsLogOf old servers now flights disk a j → IsLogOf new servers now flights disk a k
ring_kept old new servers now flights disk a j k phase expiry slots goes log = record {
  rest = λ off. log.rest (ap is_off (sym phase) ∙ off);
  journal = λ on. goes (log.journal (ap is_off (sym phase) ∙ on));
  live = λ up. subst (λ x. SameSlots (slots_of disk a) x) (sym slots) (log.live (ap is_in_mount (sym phase) ∙ up));
  left = λ dead.
      subst (λ x. IsLeft x servers now flights disk a k.log.slots) (sym expiry)
      (subst (λ x. IsLeft old.expiry servers now flights disk a x) (sym slots) (log.left (ap is_dead (sym phase) ∙ dead)));
}

-- ---- what some steps make

abbrev issue_work : State → ℕ → ℕ → Write → Work
issue_work s c sector write = record
    (at_server s c (record (s.core.servers c) { ring = ring_after write.purpose (s.core.servers c).ring; arming = counted (s.core.servers c).arming }))
    { flights = s.core.flights ++ (s.core.tickets, flight_of s.core c sector write) ∷ [] }

abbrev land_work : State → ℕ → Flight → Work
land_work s ticket flight = record (at_server s flight.server (taken_by flight.sector flight.block flight.purpose (s.core.servers flight.server)))
    { flights = without s.core.flights ticket; disk = written s.disk flight.sector flight.block }

abbrev drift_work : State → ℕ → Flight → Work
drift_work s ticket flight = record (work_of s) { flights = without s.core.flights ticket; disk = written s.disk flight.sector flight.block }

abbrev break_work : State → ℕ → Flight → Work
break_work s ticket flight = record (work_of s) { servers = failed_at s.core.servers flight.server; flights = without s.core.flights ticket; disk = disk_with s.disk flight (PutFailed true) }

abbrev finish_work : State → ℕ → Recovery → Work
finish_work s c recovery = record (work_of s) {
  servers = put (put s.core.servers c (record (s.core.servers c) { recovery = None })) recovery.dead (recovered (s.core.servers recovery.dead));
  locks = cleared s.core.locks recovery.dead;
}

pub stage_up : (up asking : Bool) (o : Option Stage) (x : Stage) → (if up && asking then o else None) ≡ Some x → IsTrue up
stage_up true asking o x e = refl
stage_up false asking o x e = absurd (none-some x e)

abbrev is_of_log : Purpose → Bool
is_of_log (OfLog number) = true
is_of_log (InPlace cover) = false
is_of_log OfRecovery = false

abbrev logged : Purpose → ℕ
logged (OfLog number) = number
logged (InPlace cover) = 0
logged OfRecovery = 0

-- ---- what comes of a step

-- what becomes of a journal, by the case of a step
abbrev pub appended_journal : Option Redo → Journal → Journal
appended_journal None j = j
appended_journal (Some redo) j = with_event j (Append redo)

abbrev pub issued_journal : Purpose → Journal → Journal
issued_journal (OfLog number) j = with_event j Issue
issued_journal (InPlace cover) j = j
issued_journal OfRecovery j = j

abbrev pub arrived_journal : Purpose → Journal → Journal
arrived_journal (OfLog number) j = with_event j (Arrive number)
arrived_journal (InPlace cover) j = j
arrived_journal OfRecovery j = j

abbrev pub landed_journal : Purpose → Journal → Journal
landed_journal (OfLog number) j = with_event (with_event j (Arrive number)) (Acknowledge number)
landed_journal (InPlace cover) j = j
landed_journal OfRecovery j = j

abbrev pub turn_next : (s : State) (w : Work) → Turn s w → ℕ → Journal → Journal
turn_next s w (Reclaims c outcome is e) a j = if nat_eq a c then with_event j GiveUp else j
turn_next s w (Commits c outcome is e settled) a j = if nat_eq a c then appended_journal outcome.redo j else j
turn_next s w (Mounts c under is off has read) a j = if nat_eq a c then journal_at (slots_of s.disk a) else j
turn_next s w (Issues c sector write can e) a j = if nat_eq a c then issued_journal write.purpose j else j
turn_next s w (Lands ticket flight e early present) a j = if nat_eq a flight.server then landed_journal flight.purpose j else j
turn_next s w (Drifts ticket flight e early present) a j = if nat_eq a flight.server then arrived_journal flight.purpose j else j
turn_next s w (Breaks ticket flight true e early) a j = if nat_eq a flight.server then arrived_journal flight.purpose j else j
turn_next s w _ a j = j

-- at the server itself, and at others
here_is : (a c : ℕ) (k j : Journal) → a ≡ c → k ≡ (if nat_eq a c then k else j)
here_is a c k j e = go (nat_eq a c) (eq-eqb a c e)
  where
    go : (t : Bool) → t ≡ true → k ≡ (if t then k else j)
    go true f = refl
    go false f = absurd (false≢true f)

there_is : (a c : ℕ) (k j : Journal) → (a ≡ c → ⊥) → j ≡ (if nat_eq a c then k else j)
there_is a c k j n = go (nat_eq a c) refl
  where
    go : (t : Bool) → nat_eq a c ≡ t → j ≡ (if t then k else j)
    go true f = absurd (n (eqb-true a c f))
    go false f = refl

same_is : (a c : ℕ) (k j : Journal) → j ≡ k → j ≡ (if nat_eq a c then k else j)
same_is a c k j e = go (nat_eq a c)
  where
    go : (t : Bool) → j ≡ (if t then k else j)
    go true = e
    go false = refl

issued_is : (p : Purpose) (j : Journal) → ((number : ℕ) → p ≡ OfLog number → ⊥) → j ≡ issued_journal p j
issued_is (OfLog number) j none = absurd (none number refl)
issued_is (InPlace cover) j none = refl
issued_is OfRecovery j none = refl

-- another's, or of no log
landed_is : (a by : ℕ) (p : Purpose) (j : Journal) → ((number : ℕ) → p ≡ OfLog number → by ≡ a → ⊥) → j ≡ (if nat_eq a by then landed_journal p j else j)
landed_is a by (InPlace cover) j none = same_is a by j j refl
landed_is a by OfRecovery j none = same_is a by j j refl
landed_is a by (OfLog number) j none = there_is a by (landed_journal (OfLog number) j) j (λ e. none number refl (sym e))

arrived_is : (a by : ℕ) (p : Purpose) (j : Journal) → ((number : ℕ) → p ≡ OfLog number → by ≡ a → ⊥) → j ≡ (if nat_eq a by then arrived_journal p j else j)
arrived_is a by (InPlace cover) j none = same_is a by j j refl
arrived_is a by OfRecovery j none = same_is a by j j refl
arrived_is a by (OfLog number) j none = there_is a by (arrived_journal (OfLog number) j) j (λ e. none number refl (sym e))

pub record Result (s : State) (new : Server) (w : Work) (a : ℕ) (j goal : Journal) : Type 0 where
  pub next : Journal
  pub log : IsLogOf new w.servers w.now w.flights w.disk a next
  pub goes : GoesOn s a j next
  pub still : IsTrue (is_dead (s.core.servers a).phase) → HasEnded s.core.now (s.core.servers a).expiry → next ≡ j
  pub exact : next ≡ goal

-- what is known before
pub record Before (s : State) (a : ℕ) : Type 0 where
  pub facts : Facts s
  pub reads : Reads s.core.servers s.core.flights s.disk
  pub over : AreOver s
  pub known : Known s a
  pub fit : IsFit s a

module _ (s : State) (a : ℕ) (server : IsTrue (is_server a)) (b : Before s a) (j : Journal) (log : IsLog s a j) where
  abbrev old : Server
  old = s.core.servers a

  -- ---- no write of the log arrives, and none is issued

  quiet : (w : Work) → (t : Turn s w) → AllFlights (Was s) w.flights → (change : DiskChange s w.disk) → IsQuiet s a w.disk change → IsLogOf old w.servers w.now w.flights w.disk a j
  quiet w t were change still =
      quiet_log s b.facts b.reads b.over a server j log b.fit.ring w.servers w.now (turn_now s w t) w.flights w.disk change still
      (λ one n i by of. in_flights (Was s) w.flights one (contains_in w.flights one i) were) (λ one i q. Flew (in_flights (Was s) w.flights one (contains_in w.flights one i) were))
      (λ by r who has. turn_recovery s w t b.facts.safe by who r has)

  keeps : (w : Work) → (t : Turn s w) → AllFlights (Was s) w.flights → (change : DiskChange s w.disk) → IsQuiet s a w.disk change → SameLife old (w.servers a) → Result s (w.servers a) w a j j
  keeps w t were change still same = record { next = j; log = life_kept old (w.servers a) w.servers w.now w.flights w.disk a j same (quiet w t were change still); goes = no_event s a j; still = λ d o. refl; exact = refl }

  -- where it is another's server that changes
  beside : (w : Work) → (t : Turn s w) → AllFlights (Was s) w.flights → (change : DiskChange s w.disk) → IsQuiet s a w.disk change → {goal : Journal} → j ≡ goal → Result s old w a j goal
  beside w t were change still is = record { next = j; log = quiet w t were change still; goes = no_event s a j; still = λ d o. refl; exact = is }

  at_one : (w : Work) (c : ℕ) (new : Server) {goal : Journal} → (a ≡ c → Result s new w a j goal) → ((a ≡ c → ⊥) → Result s old w a j goal) → Result s (put s.core.servers c new a) w a j goal
  at_one w c new {goal} here there = at_put (λ x. Result s x w a j goal) s.core.servers c new a here there

  -- ---- the ring

  -- a line comes so far only at a server that is Up
  staged_up : {outcome : Outcome} → stage s.core a ≡ Some (Finishing outcome) → IsTrue (is_in_mount old.phase)
  staged_up {outcome} e = up_mounted old.phase (stage_up (is_up old.phase) (asks is_path_op old) (stage_under s.core.setting s.core.locks a old.cache old.under) (Finishing outcome) e)

  reclaims : (w : Work) (c : ℕ) (outcome : Outcome) → (t : Turn s w) → AllFlights (Was s) w.flights → (change : DiskChange s w.disk) → IsQuiet s a w.disk change →
      stage s.core c ≡ Some (Finishing outcome) → a ≡ c → {goal : Journal} → with_event j GiveUp ≡ goal → Result s (record (s.core.servers c) { ring = reclaimed_of s.core.setting.logs.quarter (s.core.servers c).ring }) w a j goal
  reclaims w c outcome t were change still staged e {goal} exact = subst (λ n. Result s (record (s.core.servers n) { ring = reclaimed_of s.core.setting.logs.quarter (s.core.servers n).ring }) w a j goal) e (record {
    next = with_event j GiveUp;
    log = ring_kept old new w.servers w.now w.flights w.disk a j (with_event j GiveUp) refl refl refl
        (λ is. subst (λ r. IsJournal r w.now w.flights a (with_event j GiveUp)) (sym (ap (λ logs. reclaimed_of logs.quarter old.ring) b.facts.rules)) (gives_up old.ring w.now w.flights a j is)) (quiet w t were change still);
    goes = one_event s a j GiveUp refl;
    still = λ d o. absurd (both_ways (is_dead old.phase) (mounted_dead_not old.phase (staged_up (subst (λ n. stage s.core n ≡ Some (Finishing outcome)) (sym e) staged))) d);
    exact = exact;
  })
    where
      new : Server
      new = record old { ring = reclaimed_of s.core.setting.logs.quarter old.ring }

  -- a record that was appended had room
  pub had_room : (ring : Ring) (redo : Redo) → KeepsWindows disk_logs (appended ring redo) → nat_le (need ring redo) (free ring) ≡ true
  had_room ring redo w =
      le-leb (need ring redo) (free ring)
      (room (sent ring) (length ring.waiting) (need ring redo) ring.given_up
      (subst (λ n. sent ring + n ≤ ring.given_up + 192) (length-framed (last ring + 1) ring.waiting (frame_bytes redo)) w.kept) w.given)
    where
      room : (n k m g : ℕ) → n + (k + m) ≤ g + 192 → g ≤ n → m ≤ 192 - (n + k - g)
      room n k m g h i = omega (arith, h, i)

  commits : (w : Work) (c : ℕ) (outcome : Outcome) → (t : Turn s w) → AllFlights (Was s) w.flights → (change : DiskChange s w.disk) → IsQuiet s a w.disk change → stage s.core c ≡ Some (Finishing outcome) →
      (a ≡ c → KeepsWindows disk_logs (ring_of old outcome)) → a ≡ c → {goal : Journal} → appended_journal outcome.redo j ≡ goal → Result s (committed_by outcome (s.core.servers c)) w a j goal
  commits w c outcome t were change still e windows is {goal} exact = subst (λ n. Result s (committed_by outcome (s.core.servers n)) w a j goal) is (go outcome.redo refl)
    where
      fits : (redo : Redo) → outcome.redo ≡ Some redo → KeepsWindows disk_logs (appended old.ring redo)
      fits redo f = subst (λ r. KeepsWindows disk_logs (appended_some old.ring r)) f (windows is)

      go : (r : Option Redo) → outcome.redo ≡ r → Result s (committed_by outcome old) w a j goal
      go None f = record {
        next = j;
        log = life_kept old (committed_by outcome old) w.servers w.now w.flights w.disk a j (same_life old (committed_by outcome old) refl (ap (appended_some old.ring) f) refl) (quiet w t were change still);
        goes = no_event s a j;
        still = λ d o. refl;
        exact = ap (λ r. appended_journal r j) (sym f) ∙ exact;
      }
      go (Some redo) f = record {
        next = with_event j (Append redo);
        log = ring_kept old (committed_by outcome old) w.servers w.now w.flights w.disk a j (with_event j (Append redo)) refl refl refl
            (λ is. subst (λ r. IsJournal r w.now w.flights a (with_event j (Append redo))) (sym (ap (appended_some old.ring) f)) (appends old.ring w.now w.flights a j is redo may)) (quiet w t were change still);
        goes = one_event s a j (Append redo) may;
        still = λ d o. absurd (both_ways (is_dead old.phase) (mounted_dead_not old.phase (staged_up at)) d);
        exact = ap (λ r. appended_journal r j) (sym f) ∙ exact;
      }
        where
          at : stage s.core a ≡ Some (Finishing outcome)
          at = subst (λ n. stage s.core n ≡ Some (Finishing outcome)) (sym is) e

          on : is_off old.phase ≡ false
          on = mounted_off_not old.phase (staged_up at)

          may : may_happen j.log (Append redo) ≡ true
          may = append_may old.ring s.core.now s.core.flights a j (log.journal on) redo (b.fit.records outcome redo at f) (had_room old.ring redo (fits redo f)) (b.fit.ring on)

  -- ---- a mount begins

  module _ (under : Under) (off : IsTrue (is_off old.phase)) (has : old.under ≡ Some under) (read : IsTrue (is_read s.core.setting.logs under.slots)) where
    read_same : SameSlots (sectors_of under.slots) (slots_of s.disk a)
    read_same slot low =
        go (value_at under.slots slot) refl (all_at (is_slot_read under.slots) (below 256) (subst (λ logs. is_read logs under.slots ≡ true) b.facts.rules read) slot (among_below 256 slot low))
      where
        go : (o : Option Block) → value_at under.slots slot ≡ o → IsTrue (is_some o) → sectors_of under.slots slot ≡ slots_of s.disk a slot
        go None f t = absurd (false≢true t)
        go (Some block) f t = ap (λ o. unwrap_or o zero_block) f ∙ ((b.reads.held a).mount slot block (ap (λ o. value_at (slots_in o) slot) has ∙ f)).2

    pub end_is : end_of s.core.setting.logs under.slots ≡ log_end (slots_of s.disk a)
    end_is = ap (λ logs. end_of logs under.slots) b.facts.rules ∙ log_end_same (sectors_of under.slots) (slots_of s.disk a) read_same

    none_sent : (one : ℕ × Flight) (number : ℕ) → Contains s.core.flights one → one.1.server ≡ a → one.1.purpose ≡ OfLog number → IsInTime one.1.stamp s.core.now →
        IsSent (journal_at (slots_of s.disk a)).log.flying number one.1.block
    none_sent one number i by of early =
        absurd ((b.facts.arriving one there early (in_flights Placed s.core.flights one there b.reads.placed)).not_off a server off by)
      where
        there : Among one s.core.flights
        there = contains_in s.core.flights one i

    mounts : (servers : ℕ → Server) → IsLogOf (up_after s.core under) servers s.core.now s.core.flights s.disk a (journal_at (slots_of s.disk a))
    mounts servers = record {
      rest = λ o. absurd (false≢true o);
      journal = λ on. record {
        good = begins_good (slots_of s.disk a) (log.rest off).low (b.fit.end off) (log.rest off).sealed;
        ring_is = ap ring_at (sym end_is);
        low = (log.rest off).low;
        sent = none_sent;
      };
      live = λ up slot low. refl;
      left = λ d. absurd (false≢true d);
    }

  -- ---- a mount ends

  leaves : (servers : ℕ → Server) → IsTrue (is_up old.phase) → IsTrue (clean_at s.core a) → IsLogOf (off_after old) servers s.core.now s.core.flights s.disk a j
  leaves servers up clean = record {
    rest = λ o. rest_same j.log.slots (slots_of s.disk a) (same_back (slots_of s.disk a) j.log.slots (log.live mounted)) (record { low = is.low; sealed = acked_sealed j.before j.log is.good all });
    journal = λ on. absurd (false≢true (sym on));
    live = λ u. absurd (false≢true u);
    left = λ d. absurd (false≢true d);
  }
    where
      mounted : IsTrue (is_in_mount old.phase)
      mounted = up_mounted old.phase up

      is : IsJournal old.ring s.core.now s.core.flights a j
      is = log.journal (mounted_off_not old.phase mounted)

      reached : old.ring.reached ≡ last old.ring
      reached = eqb-true old.ring.reached (last old.ring)
          (of_4 (not (any_cached is_dirty old.cache)) (not (has_flights s.core.flights a)) (is_all_reached old.ring) (not (is_some old.recovery)) clean).p2

      all : j.log.ring.reached ≡ last j.log.ring
      all = subst (λ (r : Ring). r.reached ≡ last r) (sym is.ring_is) reached

  -- ---- who dies

  -- a server that isn't dead has nobody who recovers it, and no write of a seal in flight
  alive_reads : is_dead old.phase ≡ false → (disk : Sectors) (by : ℕ) (r : Recovery) → Change s disk by r → r.dead ≡ a → ⊥
  alive_reads alive disk by r change of = go change
    where
      saved : (o : Recovery) → IsTrue (is_worker s.core by) → (s.core.servers by).recovery ≡ Some o → o.dead ≡ r.dead → ⊥
      saved o who has same =
          both_ways (is_dead old.phase) alive
          (subst (λ n. IsTrue (is_dead (s.core.servers n).phase)) (same ∙ of) (b.facts.safe.saved by o.dead who (ap dead_of has)).0)

      go : Change s disk by r → ⊥
      go (Kept o who has same slots acked) = saved o who has same
      go (Read o slot block who has wants got is) = saved o who has (ap (λ (x : Recovery). x.dead) is)
      go (Written_ o t f who has e by_ q present soon wrote is) = saved o who has (ap (λ (x : Recovery). x.dead) is)
      go (Taken can is) = both_ways (is_dead old.phase) alive (subst (λ n. IsTrue (is_dead (s.core.servers n).phase)) of (recover_waits s.core r.dead by can).p1)

  alive_seals : is_dead old.phase ≡ false → (one : Flight) → Was s one → one.purpose ≡ OfRecovery → (slot : ℕ) → slot < 256 → one.sector ≡ sector_of (region.Log a slot) → s.core.now ≤ one.stamp → ⊥
  alive_seals alive one w q slot low at early = go (subst (λ p. PlacedFor p w.old.1) (w.same.rescue q) ar.placed)
    where
      soon : s.core.now ≤ w.old.1.stamp
      soon = subst (λ n. s.core.now ≤ n) (sym w.same.stamp) early

      ar : Arriving s w.old.1
      ar = b.facts.arriving w.old w.there soon (in_flights Placed s.core.flights w.old w.there b.reads.placed)

      there : w.old.1.sector ≡ sector_of (region.Log a slot)
      there = w.same.sector ∙ at

      go : PlacedFor OfRecovery w.old.1 → ⊥
      go (inl high) = low_high w.old.1.sector (sector_of (region.Log a slot)) high (slot_low a slot (server_low a server) low) there
      go (inr x) =
          both_ways (is_dead old.phase) alive
          (subst (λ n. IsTrue (is_dead (s.core.servers n).phase)) (same_log w.old.1.behalf x.0 a slot low (sym x.1 ∙ there)).0 (ar.for_dead (w.same.rescue q)))

  dies : (w : Work) (fate : Fate) → (t : Turn s w) → AllFlights (Was s) w.flights → (change : DiskChange s w.disk) → IsQuiet s a w.disk change → w.now ≡ s.core.now → old.phase ≡ Doomed fate →
      IsLogOf (died_with fate old) w.servers w.now w.flights w.disk a j
  dies w fate t were change still now doomed = record {
    rest = λ o. absurd (false≢true o);
    journal = λ on. q.journal (ap is_off doomed);
    live = λ u. absurd (false≢true u);
    left = λ d. record {
      stands = Open (q.live (ap is_in_mount doomed));
      seals = λ one slot i p low at early.
          absurd (alive_seals alive one.1 (in_flights (Was s) w.flights one (contains_in w.flights one i) were) p slot low at (subst (λ n. n ≤ one.1.stamp) now early));
      reads = λ by r who has of read. absurd (alive_reads alive w.disk by r (turn_recovery s w t b.facts.safe by who r has) of);
    };
  }
    where
      q : IsLogOf old w.servers w.now w.flights w.disk a j
      q = quiet w t were change still

      alive : is_dead old.phase ≡ false
      alive = ap is_dead doomed

  -- ---- a recovery ends

  finishes : (servers : ℕ → Server) (by : ℕ) (recovery : Recovery) → CanFinish s.core by → (s.core.servers by).recovery ≡ Some recovery → a ≡ recovery.dead →
      IsLogOf (recovered old) servers s.core.now s.core.flights s.disk a j
  finishes servers by recovery can has is = record {
    rest = λ o. record { low = end_low j.log.slots bounds.low bounds.high bounds.within s.core.now old.expiry (slots_of s.disk a) left.stands; sealed = sealed (is_sealed_by disk_logs recovery.slots) refl };
    journal = λ on. absurd (false≢true (sym on));
    live = λ u. absurd (false≢true u);
    left = λ d. absurd (false≢true d);
  }
    where
      dead : IsTrue (is_dead old.phase)
      dead = subst (λ n. IsTrue (is_dead (s.core.servers n).phase)) (sym is) (b.facts.safe.saved by recovery.dead can.who (ap dead_of has)).0

      left : IsLeft old.expiry s.core.servers s.core.now s.core.flights s.disk a j.log.slots
      left = log.left dead

      bounds : Bounds j.log.slots
      bounds = bounds_of old.ring s.core.now s.core.flights a j (log.journal (dead_off_not old dead)) (b.fit.ring (dead_off_not old dead))

      through : IsTrue (is_through s.core recovery)
      through = subst (λ r. IsTrue (is_recovery (is_through s.core) r)) has can.ended

      both : Of2 (is_replay_done s.core.setting.logs s.core.setting.segments recovery) (is_seal_done s.core.setting.logs recovery)
      both = of_2 (is_replay_done s.core.setting.logs s.core.setting.segments recovery) (is_seal_done s.core.setting.logs recovery) through

      read : is_read disk_logs recovery.slots ≡ true
      read = subst (λ logs. is_read logs recovery.slots ≡ true) b.facts.rules
          (of_3 (is_read s.core.setting.logs recovery.slots) (is_none (to_look s.core.setting.logs s.core.setting.segments recovery)) (is_none (replay_writes recovery)) both.p0).p0

      done : IsTrue (is_seal_done disk_logs recovery)
      done = subst (λ logs. IsTrue (is_seal_done logs recovery)) b.facts.rules both.p1

      reading : IsReading (log_end j.log.slots) (slots_of s.disk a) recovery
      reading = left.reads by recovery can.who has (sym is) read

      sealed : (t : Bool) → is_sealed_by disk_logs recovery.slots ≡ t → is_sealed (slots_of s.disk a) ≡ true
      sealed true e = reading.sealed e
      sealed false e = reading.closed e (ap (λ n. is_sealed_at disk_logs recovery (n + 1)) (sym (reading.ends e)) ∙ ap (λ t. t || is_sealed_at disk_logs recovery (end_of disk_logs recovery.slots + 1)) (sym e) ∙ done)

  -- ---- a write is issued

  module _ (c sector : ℕ) (write : Write) (can : CanIssue s.core c sector) (e : value_at (writes s.core c) sector ≡ Some write) (t : Turn s (issue_work s c sector write)) where
    abbrev w : Work
    w = issue_work s c sector write

    abbrev new_flight : ℕ × Flight
    new_flight = (s.core.tickets, flight_of s.core c sector write)

    abbrev new_server : ℕ → Server
    new_server n = record (s.core.servers n) { ring = ring_after write.purpose (s.core.servers n).ring; arming = counted (s.core.servers n).arming }

    was : (one : ℕ × Flight) → Contains s.core.flights one → Was s one.1
    was one i = in_flights (Was s) s.core.flights one (contains_in s.core.flights one i) (here_were s)

    -- one that isn't of its log
    issues_beside : (c ≡ a → (number : ℕ) → write.purpose ≡ OfLog number → ⊥) → IsLogOf old w.servers w.now w.flights w.disk a j
    issues_beside apart =
        quiet_log s b.facts b.reads b.over a server j log b.fit.ring w.servers w.now (turn_now s w t) w.flights w.disk Stands tt
        (λ one n i by of. go one n by of (Contains-push_cases s.core.flights new_flight one i))
        (λ one i q. in_flights (FlightFrom s) w.flights one (contains_in w.flights one i) (turn_flights s w t)) (λ by r who has. turn_recovery s w t b.facts.safe by who r has)
      where
        go : (one : ℕ × Flight) (n : ℕ) → one.1.server ≡ a → one.1.purpose ≡ OfLog n → Contains s.core.flights one ⊎ (new_flight ≡ one) → Was s one.1
        go one n by of (inl i) = was one i
        go one n by of (inr is) = absurd (apart (ap (λ (o : ℕ × Flight). o.1.server) is ∙ by) n (ap (λ (o : ℕ × Flight). o.1.purpose) is ∙ of))

    -- the next of its log
    issues_next : a ≡ c → (number : ℕ) (block : Block) → next_write old.ring ≡ Some (number, block) → write ≡ next_log_write a number block → {goal : Journal} → with_event j Issue ≡ goal → Result s (new_server a) w a j goal
    issues_next is number block next wr exact = record { next = with_event j Issue; log = moved; goes = one_event s a j Issue (issue_may old.ring s.core.now s.core.flights a j on_journal number block n window); still = λ d o. absurd (both_ways (is_dead old.phase) (mounted_dead_not old.phase (up_mounted old.phase up)) d); exact = exact }
      where
        up : IsTrue (is_up old.phase)
        up = go (is_server c) (is_up (s.core.servers c).phase) (c == host_party) (ap (λ n. n == host_party) (sym is) ∙ server_no_host a server) can.issuable.who (ap (λ n. is_up (s.core.servers n).phase) is)
          where
            go : (number u h : Bool) → h ≡ false → IsTrue ((number && u) || h) → is_up old.phase ≡ u → IsTrue (is_up old.phase)
            go true true h f t g = g
            go true false h f t g = absurd (both_ways h f t)
            go false u h f t g = absurd (both_ways h f t)

        on_journal : IsJournal old.ring s.core.now s.core.flights a j
        on_journal = log.journal (mounted_off_not old.phase (up_mounted old.phase up))

        n : Next old.ring s.core.now s.core.flights a j on_journal number block
        n = next_is old.ring s.core.now s.core.flights a j on_journal number block next

        purpose : write.purpose ≡ OfLog number
        purpose = ap (λ (x : Write). x.purpose) wr

        window : number ≤ old.ring.reached + 64
        window = leb-true number (old.ring.reached + 64)
            (subst (λ logs. is_in_window logs old.ring number ≡ true) b.facts.rules
            (subst (λ p. keeps_window s.core.setting.logs old.ring p ≡ true) purpose
            (subst (λ n. keeps_window s.core.setting.logs (s.core.servers n).ring write.purpose ≡ true) (sym is)
            (subst (λ o. is_write (λ x. keeps_window s.core.setting.logs (s.core.servers c).ring x.purpose) o ≡ true) e can.issuable.window))))

        q : IsLogOf old w.servers w.now s.core.flights w.disk a j
        q = quiet_log s b.facts b.reads b.over a server j log b.fit.ring w.servers w.now (turn_now s w t) s.core.flights w.disk Stands tt (λ one n i by of. was one i) (λ one i p. Flew (was one i))
            (λ by r who has. turn_recovery s w t b.facts.safe by who r has)

        moved : IsLogOf (new_server a) w.servers w.now w.flights w.disk a (with_event j Issue)
        moved = record {
          rest = q.rest;
          journal = λ on.
              subst (λ p. IsJournal (ring_after p old.ring) w.now w.flights a (with_event j Issue)) (sym purpose)
              (issues old.ring s.core.now s.core.flights a j on_journal number block n window new_flight
              (λ k f. (same_number k number (sym f ∙ purpose), ap (λ (x : Write). x.block) wr)));
          live = q.live;
          left = λ dead. absurd (both_ways (is_dead old.phase) (mounted_dead_not old.phase (up_mounted old.phase up)) dead);
        }
          where
            same_number : (k m : ℕ) → OfLog k ≡ OfLog m → k ≡ m
            same_number k m f = ap logged f

    issues_log : Result s (w.servers a) w a j (if nat_eq a c then issued_journal write.purpose j else j)
    issues_log = go (wanted_is s.core.setting s.core.locks c (s.core.servers c) (stage s.core c) sector write e)
      where
        other : ((number : ℕ) → write.purpose ≡ OfLog number → ⊥) → Result s (w.servers a) w a j (if nat_eq a c then issued_journal write.purpose j else j)
        other none = record { next = j; log = life_kept old (w.servers a) w.servers w.now w.flights w.disk a j (put_life s.core.servers c (new_server c) same a) (issues_beside (λ is. none)); goes = no_event s a j; still = λ d o. refl; exact = same_is a c (issued_journal write.purpose j) j (issued_is write.purpose j none) }
          where
            same_ring : (p : Purpose) → write.purpose ≡ p → ring_after p (s.core.servers c).ring ≡ (s.core.servers c).ring
            same_ring (OfLog number) f = absurd (none number f)
            same_ring (InPlace cover) f = refl
            same_ring OfRecovery f = refl

            same : SameLife (s.core.servers c) (new_server c)
            same = same_life (s.core.servers c) (new_server c) refl (same_ring write.purpose refl) refl

        go : Wanted s.core.setting.logs s.core.setting.segments c (s.core.servers c) sector write → Result s (w.servers a) w a j (if nat_eq a c then issued_journal write.purpose j else j)
        go (Rescues recovery block has i wr) = other (λ n f. absurd (false≢true (sym (ap is_rescue f) ∙ ap (λ (x : Write). is_rescue x.purpose) wr)))
        go (Places cached dirt i d wr) = other (λ n f. absurd (false≢true (sym (ap (λ (x : Write). is_of_log x.purpose) wr) ∙ ap is_of_log f)))
        go (NextOfLog number block n at wr) =
            at_put (λ x. Result s x w a j (if nat_eq a c then issued_journal write.purpose j else j)) s.core.servers c (new_server c) a
            (λ is. subst (λ m. Result s (new_server m) w a j (if nat_eq a c then issued_journal write.purpose j else j)) is
            (issues_next is number block (subst (λ m. next_write (s.core.servers m).ring ≡ Some (number, block)) (sym is) n) (wr ∙ ap (λ m. next_log_write m number block) (sym is))
            (ap (λ p. issued_journal p j) (sym (ap (λ (x : Write). x.purpose) wr)) ∙ here_is a c (issued_journal write.purpose j) j is)))
            (λ apart. record { next = j; log = issues_beside (λ is. absurd (apart (sym is))); goes = no_event s a j; still = λ d o. refl; exact = there_is a c (issued_journal write.purpose j) j apart })

  -- ---- a write arrives

  module _ (ticket : ℕ) (flight : Flight) (e : value_at s.core.flights ticket ≡ Some flight) (early : s.core.now ≤ flight.stamp) where
    one : (x : ℕ × Flight) × Among x s.core.flights × (x.1 ≡ flight)
    one = flight_at s.core.flights ticket flight e

    ar : Arriving s flight
    ar =
        subst (Arriving s) one.2
        (b.facts.arriving one.0 one.1 (subst (λ (f : Flight). s.core.now ≤ f.stamp) (sym one.2) early) (in_flights Placed s.core.flights one.0 one.1 b.reads.placed))

    -- one of its log
    module _ (number : ℕ) (of : flight.purpose ≡ OfLog number) (by_a : flight.server ≡ a) where
      lasts : HasEnded s.core.now old.expiry → ⊥
      lasts = not_over s a server b.known j log ticket flight e one.0 one.1 one.2 early ar number of by_a

      arrives_log : (servers : ℕ → Server) → ((by : ℕ) (r : Recovery) → IsTrue (is_working servers by) → (servers by).recovery ≡ Some r → Change s (written s.disk flight.sector flight.block) by r) →
          IsLogOf old servers s.core.now (without s.core.flights ticket) (written s.disk flight.sector flight.block) a (with_event j (Arrive number))
      arrives_log servers reads = landed_log s a server b.known j log ticket flight e one.0 one.1 one.2 early ar number of by_a servers reads

      may_arrive : may_happen j.log (Arrive number) ≡ true
      may_arrive =
          arrive_may old.ring s.core.now s.core.flights a j (journal s a server b.known j log ticket flight e one.0 one.1 one.2 early ar number of by_a) number
          (landed_sent s a server b.known j log ticket flight e one.0 one.1 one.2 early ar number of by_a).sector (landed_sent s a server b.known j log ticket flight e one.0 one.1 one.2 early ar number of by_a).there
          (landed_sent s a server b.known j log ticket flight e one.0 one.1 one.2 early ar number of by_a).number_is

      may_ack : may_happen (with_event j (Arrive number)).log (Acknowledge number) ≡ true
      may_ack =
          ack_may old.ring s.core.now s.core.flights a j (journal s a server b.known j log ticket flight e one.0 one.1 one.2 early ar number of by_a) number
          (landed_sent s a server b.known j log ticket flight e one.0 one.1 one.2 early ar number of by_a).sector (landed_sent s a server b.known j log ticket flight e one.0 one.1 one.2 early ar number of by_a).there
          (landed_sent s a server b.known j log ticket flight e one.0 one.1 one.2 early ar number of by_a).number_is

      -- which is acknowledged
      acked_log : (servers : ℕ → Server) → ((by : ℕ) (r : Recovery) → IsTrue (is_working servers by) → (servers by).recovery ≡ Some r → Change s (written s.disk flight.sector flight.block) by r) →
          IsLogOf (taken_by flight.sector flight.block flight.purpose old) servers s.core.now (without s.core.flights ticket) (written s.disk flight.sector flight.block) a
          (with_event (with_event j (Arrive number)) (Acknowledge number))
      acked_log servers reads =
          subst (λ p. IsLogOf (taken_by flight.sector flight.block p old) servers s.core.now (without s.core.flights ticket) (written s.disk flight.sector flight.block) a
          (with_event (with_event j (Arrive number)) (Acknowledge number))) (sym of)
          (ring_kept old (taken_by flight.sector flight.block (OfLog number) old) servers s.core.now (without s.core.flights ticket) (written s.disk flight.sector flight.block) a (with_event j (Arrive number))
          (with_event (with_event j (Arrive number)) (Acknowledge number)) refl refl refl
          (λ is. acknowledged old.ring s.core.now (without s.core.flights ticket) a (with_event j (Arrive number)) is number may_ack) (arrives_log servers reads))

    taken_life : (p : Purpose) (n : ℕ) → ((number : ℕ) → p ≡ OfLog number → ⊥) → SameLife (s.core.servers n) (taken_by flight.sector flight.block p (s.core.servers n))
    taken_life (OfLog number) n none = absurd (none number refl)
    taken_life OfRecovery n none = same_life (s.core.servers n) (taken_by flight.sector flight.block OfRecovery (s.core.servers n)) refl refl refl
    taken_life (InPlace cover) n none = go (comes_clean (s.core.servers n) flight.sector flight.block)
      where
        go : (t : Bool) → SameLife (s.core.servers n) (if t then clean_now flight.sector (s.core.servers n) else s.core.servers n)
        go true = same_life (s.core.servers n) (clean_now flight.sector (s.core.servers n)) refl refl refl
        go false = same_life (s.core.servers n) (s.core.servers n) refl refl refl

    -- is it one of its log?
    pub data Whose : Type 0 where
      Own : (number : ℕ) → flight.purpose ≡ OfLog number → flight.server ≡ a → Whose
      Other : ((number : ℕ) → flight.purpose ≡ OfLog number → flight.server ≡ a → ⊥) → Whose

    whose : Whose
    whose = go flight.purpose refl (cases_eq flight.server a)
      where
        go : (p : Purpose) → flight.purpose ≡ p → (flight.server ≡ a) ⊎ (flight.server ≡ a → ⊥) → Whose
        go (OfLog number) q (inl by) = Own number q by
        go (OfLog number) q (inr apart) = Other (λ n f by. apart by)
        go (InPlace cover) q by = Other (λ n f by. absurd (false≢true (sym (ap is_of_log q) ∙ ap is_of_log f)))
        go OfRecovery q by = Other (λ n f by. absurd (false≢true (sym (ap is_of_log q) ∙ ap is_of_log f)))

pub turn_log : (s : State) (w : Work) (t : Turn s w) (a : ℕ) (server : IsTrue (is_server a)) → Before s a → KeepsWindows disk_logs (w.servers a).ring → (j : Journal) → IsLog s a j → Result s (w.servers a) w a j (turn_next s w t a j)
turn_log s v Rests a server b windows j log = keeps s a server b j log _ Rests (here_were s) Stands tt (same_life _ _ refl refl refl)
turn_log s v (Stays c) a server b windows j log =
    keeps s a server b j log _ (Stays c) (here_were s) Stands tt (put_life s.core.servers c _ (same_life _ _ refl refl refl) a)
turn_log s v (Lines c under is step) a server b windows j log =
    keeps s a server b j log _ (Lines c under is step) (here_were s) Stands tt (put_life s.core.servers c _ (same_life (s.core.servers c) _ refl refl refl) a)
turn_log s v (Caches c sector block needs cover is e f got) a server b windows j log =
    keeps s a server b j log _ (Caches c sector block needs cover is e f got) (here_were s) Stands tt
    (put_life s.core.servers c _ (same_life (s.core.servers c) _ refl refl refl) a)
turn_log s v (Reclaims c outcome is e) a server b windows j log =
    at_one s a server b j log _ c _ (λ same. reclaims s a server b j log _ c outcome (Reclaims c outcome is e) (here_were s) Stands tt e same (here_is a c (with_event j GiveUp) j same))
    (λ n. beside s a server b j log _ (Reclaims c outcome is e) (here_were s) Stands tt (there_is a c (with_event j GiveUp) j n))
turn_log s v (Clears c block is e) a server b windows j log =
    keeps s a server b j log _ (Clears c block is e) (here_were s) Stands tt (put_life s.core.servers c _ (same_life (s.core.servers c) _ refl refl refl) a)
turn_log s v (Commits c outcome is e settled) a server b windows j log =
    at_one s a server b j log _ c _
    (λ is_c. commits s a server b j log _ c outcome (Commits c outcome is e settled) (committed_were s c outcome) Stands tt e (λ same. subst (λ (x : Server). KeepsWindows disk_logs x.ring) (put_here same) windows) is_c
    (here_is a c (appended_journal outcome.redo j) j is_c))
    (λ n. beside s a server b j log _ (Commits c outcome is e settled) (committed_were s c outcome) Stands tt (there_is a c (appended_journal outcome.redo j) j n))
  where
    put_here : a ≡ c → put s.core.servers c (committed_by outcome (s.core.servers c)) a ≡ committed_by outcome (s.core.servers a)
    put_here same = ap (put s.core.servers c (committed_by outcome (s.core.servers c))) same ∙ put_same s.core.servers c (committed_by outcome (s.core.servers c)) ∙ ap (λ n. committed_by outcome (s.core.servers n)) (sym same)
turn_log s v (Mounts c under is off has read) a server b windows j log =
    at_one s a server b j log _ c _
    (λ same. record {
      next = journal_at (slots_of s.disk a);
      log = mounts s a server b j log under (subst (λ n. IsTrue (is_off (s.core.servers n).phase)) (sym same) off) (subst (λ n. (s.core.servers n).under ≡ Some under) (sym same) has) read _;
      goes = journals.Mounts (subst (λ n. IsTrue (is_off (s.core.servers n).phase)) (sym same) off);
      still = λ d o. absurd (both_ways (is_dead (s.core.servers a).phase) (off_dead_not (s.core.servers a).phase (subst (λ n. IsTrue (is_off (s.core.servers n).phase)) (sym same) off)) d);
      exact = here_is a c (journal_at (slots_of s.disk a)) j same;
    })
    (λ n. beside s a server b j log _ (Mounts c under is off has read) (here_were s) Stands tt (there_is a c (journal_at (slots_of s.disk a)) j n))
turn_log s v (Leaves c is up clean) a server b windows j log =
    at_one s a server b j log _ c _
    (λ same. subst (λ n. Result s (off_after (s.core.servers n)) (record (at_server s c (off_after (s.core.servers c))) { locks = cleared s.core.locks c }) a j j) same (record {
      next = j;
      log = leaves s a server b j log _ (subst (λ n. IsTrue (is_up (s.core.servers n).phase)) (sym same) up) (subst (λ n. IsTrue (clean_at s.core n)) (sym same) clean);
      goes = no_event s a j;
      still = λ d o. refl;
      exact = refl;
    }))
    (λ n. beside s a server b j log _ (Leaves c is up clean) (here_were s) Stands tt refl)
turn_log s v (Arms c arming is up) a server b windows j log =
    keeps s a server b j log _ (Arms c arming is up) (here_were s) Stands tt (put_life s.core.servers c _ (same_life (s.core.servers c) _ refl refl refl) a)
turn_log s v (Stalls c is up) a server b windows j log =
    keeps s a server b j log _ (Stalls c is up) (here_were s) Stands tt (put_life s.core.servers c _ (mount_life (s.core.servers c) _ (up_mounted (s.core.servers c).phase up) refl refl) a)
turn_log s v (Settles c is) a server b windows j log =
    keeps s a server b j log _ (Settles c is) (here_were s) Stands tt (put_life s.core.servers c _ (same_life (s.core.servers c) _ refl refl refl) a)
turn_log s v (Asks c lock mode is e) a server b windows j log =
    keeps s a server b j log _ (Asks c lock mode is e) (here_were s) Stands tt (same_life _ _ refl refl refl)
turn_log s v (Lowers c lock can) a server b windows j log =
    keeps s a server b j log _ (Lowers c lock can) (here_were s) Stands tt (same_life _ _ refl refl refl)
turn_log s v (Releases c lock can) a server b windows j log =
    keeps s a server b j log _ (Releases c lock can) (here_were s) Stands tt (put_life s.core.servers c _ (same_life (s.core.servers c) _ refl refl refl) a)
turn_log s v (Relocks locks are same wait) a server b windows j log =
    keeps s a server b j log _ (Relocks locks are same wait) (here_were s) Stands tt (same_life _ _ refl refl refl)
turn_log s v (Wants c up) a server b windows j log =
    keeps s a server b j log _ (Wants c up) (here_were s) Stands tt (put_life s.core.servers c _ (same_life (s.core.servers c) _ refl refl refl) a)
turn_log s v (Issues c sector write can e) a server b windows j log = issues_log s a server b j log c sector write can e (Issues c sector write can e)
turn_log s v (Fades ticket flight e late) a server b windows j log =
    keeps s a server b j log _ (Fades ticket flight e late) (landed_were s ticket) Stands tt (same_life _ _ refl refl refl)
turn_log s v (Lands ticket flight e early present) a server b windows j log = go (whose s a server b j log ticket flight e early)
  where
    landing : Turn s (land_work s ticket flight)
    landing = Lands ticket flight e early present

    go : Whose s a server b j log ticket flight e early → Result s (put s.core.servers flight.server (taken_by flight.sector flight.block flight.purpose (s.core.servers flight.server)) a) (land_work s ticket flight) a j (if nat_eq a flight.server then landed_journal flight.purpose j else j)
    go (Own number of by_a) = record {
      next = with_event (with_event j (Arrive number)) (Acknowledge number);
      log = at_put (λ x. IsLogOf x (land_work s ticket flight).servers s.core.now (without s.core.flights ticket) (written s.disk flight.sector flight.block) a (with_event (with_event j (Arrive number)) (Acknowledge number)))
          s.core.servers flight.server (taken_by flight.sector flight.block flight.purpose (s.core.servers flight.server)) a
          (λ same. subst (λ n. IsLogOf (taken_by flight.sector flight.block flight.purpose (s.core.servers n)) (land_work s ticket flight).servers s.core.now (without s.core.flights ticket) (written s.disk flight.sector flight.block) a (with_event (with_event j (Arrive number)) (Acknowledge number))) same
          (acked_log s a server b j log ticket flight e early number of by_a (land_work s ticket flight).servers (λ by r who has. turn_recovery s (land_work s ticket flight) landing b.facts.safe by who r has)))
          (λ apart. absurd (apart (sym by_a)));
      goes = two_events s a j (Arrive number) (Acknowledge number) (may_arrive s a server b j log ticket flight e early number of by_a) (may_ack s a server b j log ticket flight e early number of by_a);
      still = λ d o. absurd (lasts s a server b j log ticket flight e early number of by_a o);
      exact = ap (λ p. landed_journal p j) (sym of) ∙ here_is a flight.server (landed_journal flight.purpose j) j (sym by_a);
    }
    go (Other none) =
        at_one s a server b j log (land_work s ticket flight) flight.server (taken_by flight.sector flight.block flight.purpose (s.core.servers flight.server))
        (λ same. record {
          next = j;
          log = life_kept (s.core.servers a) (taken_by flight.sector flight.block flight.purpose (s.core.servers flight.server)) (land_work s ticket flight).servers s.core.now (without s.core.flights ticket) (written s.disk flight.sector flight.block) a j
              (subst (λ n. SameLife (s.core.servers n) (taken_by flight.sector flight.block flight.purpose (s.core.servers flight.server))) (sym same) (taken_life s a server b j log ticket flight e early flight.purpose flight.server (λ n f. none n f (sym same))))
              (quiet s a server b j log (land_work s ticket flight) landing (landed_were s ticket) (Arrived ticket flight e early) none);
          goes = no_event s a j;
          still = λ d o. refl;
          exact = landed_is a flight.server flight.purpose j none;
        })
        (λ n. beside s a server b j log (land_work s ticket flight) landing (landed_were s ticket) (Arrived ticket flight e early) none (landed_is a flight.server flight.purpose j none))
turn_log s v (Drifts ticket flight e early present) a server b windows j log = go (whose s a server b j log ticket flight e early)
  where
    go : Whose s a server b j log ticket flight e early → Result s (s.core.servers a) (drift_work s ticket flight) a j (if nat_eq a flight.server then arrived_journal flight.purpose j else j)
    go (Own number of by_a) = record {
      next = with_event j (Arrive number);
      log = arrives_log s a server b j log ticket flight e early number of by_a s.core.servers (λ by r who has. turn_recovery s (drift_work s ticket flight) (Drifts ticket flight e early present) b.facts.safe by who r has);
      goes = one_event s a j (Arrive number) (may_arrive s a server b j log ticket flight e early number of by_a);
      still = λ d o. absurd (lasts s a server b j log ticket flight e early number of by_a o);
      exact = ap (λ p. arrived_journal p j) (sym of) ∙ here_is a flight.server (arrived_journal flight.purpose j) j (sym by_a);
    }
    go (Other none) = beside s a server b j log (drift_work s ticket flight) (Drifts ticket flight e early present) (landed_were s ticket) (Arrived ticket flight e early) none (arrived_is a flight.server flight.purpose j none)
turn_log s v (Breaks ticket flight false e early) a server b windows j log =
    keeps s a server b j log _ (Breaks ticket flight false e early) (landed_were s ticket) Stands tt (failed_life s.core.servers flight.server a)
turn_log s v (Breaks ticket flight true e early) a server b windows j log = go (whose s a server b j log ticket flight e early)
  where
    go : Whose s a server b j log ticket flight e early → Result s (failed_at s.core.servers flight.server a) (break_work s ticket flight) a j (if nat_eq a flight.server then arrived_journal flight.purpose j else j)
    go (Own number of by_a) = record {
      next = with_event j (Arrive number);
      log = life_kept (s.core.servers a) (failed_at s.core.servers flight.server a) (failed_at s.core.servers flight.server) s.core.now (without s.core.flights ticket) (written s.disk flight.sector flight.block) a (with_event j (Arrive number))
          (failed_life s.core.servers flight.server a)
          (arrives_log s a server b j log ticket flight e early number of by_a (failed_at s.core.servers flight.server) (λ by r who has. turn_recovery s (break_work s ticket flight) (Breaks ticket flight true e early) b.facts.safe by who r has));
      goes = one_event s a j (Arrive number) (may_arrive s a server b j log ticket flight e early number of by_a);
      still = λ d o. absurd (lasts s a server b j log ticket flight e early number of by_a o);
      exact = ap (λ p. arrived_journal p j) (sym of) ∙ here_is a flight.server (arrived_journal flight.purpose j) j (sym by_a);
    }
    go (Other none) =
        subst (Result s (failed_at s.core.servers flight.server a) (break_work s ticket flight) a j) (arrived_is a flight.server flight.purpose j none)
        (keeps s a server b j log (break_work s ticket flight) (Breaks ticket flight true e early) (landed_were s ticket) (Arrived ticket flight e early) none (failed_life s.core.servers flight.server a))
turn_log s v (Fails c) a server b windows j log = keeps s a server b j log _ (Fails c) (here_were s) Stands tt (failed_life s.core.servers c a)
turn_log s v (Dooms c fate can) a server b windows j log =
    keeps s a server b j log _ (Dooms c fate can) (here_were s) Stands tt (put_life s.core.servers c _ (mount_life (s.core.servers c) _ (doomed_mounted s.core c b.facts.safe can) refl refl) a)
turn_log s v (Resumes c can) a server b windows j log =
    keeps s a server b j log _ (Resumes c can) (here_were s) Stands tt
    (put_life s.core.servers c _ (mount_life (s.core.servers c) _ (still_mounted (s.core.servers c).phase (and_parts (is_still (s.core.servers c).phase) _ can.past).0) refl refl) a)
turn_log s v (Dies c fate is p) a server b windows j log =
    at_one s a server b j log _ c _
    (λ same. subst (λ n. Result s (died_with fate (s.core.servers n)) (record (at_server s c (died_with fate (s.core.servers c))) { flights = flights_at_death fate c s.core.flights }) a j j) same (record {
      next = j;
      log = dies s a server b j log _ fate (Dies c fate is p) (died_were s c fate.loses) Stands tt refl (ap (λ n. (s.core.servers n).phase) same ∙ p);
      goes = no_event s a j;
      still = λ d o. refl;
      exact = refl;
    }))
    (λ n. beside s a server b j log _ (Dies c fate is p) (died_were s c fate.loses) Stands tt refl)
turn_log s v (Renews c can) a server b windows j log =
    keeps s a server b j log _ (Renews c can) (here_were s) Stands tt (put_life s.core.servers c _ (mount_life (s.core.servers c) _ (up_mounted (s.core.servers c).phase can.up) (up_mounted (s.core.servers c).phase can.up) refl) a)
turn_log s v (Ticks can) a server b windows j log =
    keeps s a server b j log _ (Ticks can) (here_were s) Stands tt (flushed_life (s.core.servers a) ((s.core.now + 1) % s.core.setting.flush_ticks == 0))
turn_log s v (Recovers dead c can) a server b windows j log =
    keeps s a server b j log _ (Recovers dead c can) (here_were s) Stands tt (put_life s.core.servers c _ (same_life (s.core.servers c) _ refl refl refl) a)
turn_log s v (Loads c slot block recovery who has wants got) a server b windows j log =
    keeps s a server b j log _ (Loads c slot block recovery who has wants got) (here_were s) Stands tt
    (put_life s.core.servers c _ (same_life (s.core.servers c) _ refl refl refl) a)
turn_log s v (Looks c sector block recovery who has wants got) a server b windows j log =
    keeps s a server b j log _ (Looks c sector block recovery who has wants got) (here_were s) Stands tt
    (put_life s.core.servers c _ (same_life (s.core.servers c) _ refl refl refl) a)
turn_log s v (Finishes c recovery can has) a server b windows j log =
    at_put (λ x. Result s x (finish_work s c recovery) a j j) (put s.core.servers c (record (s.core.servers c) { recovery = None })) recovery.dead (recovered (s.core.servers recovery.dead)) a
    (λ same. subst (λ n. Result s (recovered (s.core.servers n)) (finish_work s c recovery) a j j) same
    (record { next = j; log = finishes s a server b j log (finish_work s c recovery).servers c recovery can has same; goes = no_event s a j; still = λ d o. refl; exact = refl }))
    (λ apart. record {
      next = j;
      log = life_kept (s.core.servers a) (put s.core.servers c (record (s.core.servers c) { recovery = None }) a) (finish_work s c recovery).servers s.core.now s.core.flights s.disk a j
          (put_life s.core.servers c (record (s.core.servers c) { recovery = None }) (same_life (s.core.servers c) (record (s.core.servers c) { recovery = None }) refl refl refl) a)
          (quiet s a server b j log (finish_work s c recovery) (Finishes c recovery can has) (here_were s) Stands tt);
      goes = no_event s a j;
      still = λ d o. refl;
      exact = refl;
    })
turn_log s v (Halts) a server b windows j log = keeps s a server b j log _ (Halts) tt Stands tt (same_life _ _ refl refl refl)
