-- A write of a server's own log is issued: the first sector that waits is on its way, and else the journals are as they were.
use Rattle.std.proofs.Common.{◌≡◌, ◌⊎◌, ℕ, suc, ◌+◌, ◌<◌, ◌≤◌, ◌==◌, ◌&&◌, ◌||◌, Bool, true, false, not, IsTrue, List, [], ◌∷◌, ◌++◌, Option, Some, None, length, drop, refl, sym, ap, ◌∙◌, subst, inl, inr, ⊎_elim, arith}
use Rattle.std.proofs.lemmas.Bool.{cases_eq, false≢true, ne_eqb, not-true}
use Rattle.std.proofs.lemmas.List.{length-append}
use Rattle.std.proofs.lemmas.List.Elements.{Contains-push_cases}
use Rattle.std.specs.List.{Contains}
use Rattle.frang_base.specs.Functions.{put}
use Rattle.frang_base.proofs.Basics.{at_put, put_other, put_same}
use Rattle.disk_definitions.specs.declared.log_sector.LogSector.{LogSector}
use Rattle.sector_bytes.specs.Blocks.{Block}
use Rattle.disk_definitions.specs.Replay.{slots_of}
use Rattle.sector_bytes.specs.SectorMaps.{value_at}
use Rattle.sector_bytes.specs.Sectors.{Sectors}
use Rattle.ring_definitions.specs.RingRuns.{after_log_event}
use Rattle.ring_definitions.specs.RingRuns.LogEvent.{Issue}
use Rattle.ring_definitions.specs.Rings.{Ring, issued as ring_issued, last}
use Rattle.core_definitions.specs.Cores.{Core, stage, writes}
use Rattle.core_definitions.specs.Events as core_events
use Rattle.core_definitions.specs.Events.{Nothing}
use Rattle.core_definitions.specs.Flights as core
use Rattle.core_definitions.specs.Flights.{Flights, OfLog}
use Rattle.core_definitions.specs.LineGuards.{is_server}
use Rattle.core_definitions.specs.Logs.{log_sector}
use Rattle.core_definitions.specs.Rings.{is_all_reached, next_write}
use Rattle.core_definitions.specs.Runs.{State as RunMoment, next}
use Rattle.core_definitions.specs.Scripts.{host_party}
use Rattle.core_definitions.specs.Servers as life
use Rattle.core_definitions.specs.Servers.{Server, is_dead, is_off, is_up}
use Rattle.core_definitions.specs.Settings.{Setting, setting_of}
use Rattle.core_definitions.specs.WriteEffects.{counted, flight_of, issued_as}
use Rattle.core_definitions.specs.Writes.{Write}
use Rattle.core_facts.proofs.Reading.{server_low}
use Rattle.core_facts.proofs.WriteKinds.{NextOfLog, Places, Rescues, Wanted, next_log_write, wanted_is}
use Rattle.core_journals.specs.Journals as stands
use Rattle.core_journals.proofs.JournalSteps.{Next, issues, next_is, with_event}
use Rattle.core_laws.proofs.Kept.{setting_of_run}
use Rattle.core_laws.specs.Facts.{LogWritesKeepTheWindow}
use Rattle.sector_world.specs.Histories.{settled}
use Rattle.sector_world.specs.Steps.{stays}
use Rattle.sector_world.specs.World.{World, cover, has_version}
use Rattle.core_world.specs.Beside.{AreEnds, AreOpen, AtCached, IsEnd}
use Rattle.core_world.specs.Journals.{AreJournals, IsJournal, IsLogOf, IsSent, Journal, SectorLog, sector_log, with_event_of}
use Rattle.core_world.specs.Steps.{IsWorldOf}
use Rattle.core_world.specs.Ties.{AreLogged, AreMarked, AreTied, IsCachedAs, IsMarkedAs, is_log_sector}
use Rattle.core_world.proofs.Same.{AreAlike, lives_alike, put_as, readings_alike, rescues_alike, rescues_more}
use Rattle.core_writes.specs.Issues.{is_log_purpose, is_log_write}
use Rattle.core_writes.proofs.Flies.{flying_log}
use Rattle.core_writes.proofs.LogPlaces.{at_log}
use Rattle.core_log_writes.specs.LogWrites.{LeadsBy}
use Rattle.core_log_writes.proofs.Going.{moved, opened}
use Rattle.core_log_writes.specs.Issues.{LogIssuesGoOn}
use Rattle.core_log_writes.proofs.Arriving.{no_host}
use Rattle.core_log_writes.proofs.Keeping.{as_journal, as_log, as_sent, as_standing, standing}
use Rattle.core_log_writes.proofs.Servers.{next_of_server, of_servers}

-- ---- the log of another server

more_journal : (p : life.Phase) (ring : Ring) (now : ℕ) (flights : Flights) (more : ℕ × core.Flight) (disk : Sectors) (log : SectorLog) (b : ℕ) (j : Journal) → (more.1.server ≡ b → ⊥) →
    IsJournal p ring now flights disk log b j → IsJournal p ring now (flights ++ more ∷ []) disk log b j
more_journal p ring now flights more disk log b j apart g = record {
  good = g.good;
  ring_is = g.ring_is;
  slots = g.slots;
  counted = g.counted;
  sent = λ one number i by of early. go one number (Contains-push_cases flights more one i) by of early;
  records = g.records;
}
  where
    go : (one : ℕ × core.Flight) (number : ℕ) → Contains flights one ⊎ (more ≡ one) → one.1.server ≡ b → one.1.purpose ≡ OfLog number → now ≤ one.1.stamp → IsSent j.log.flying number one.1.block
    go one number (inl i) by of early = g.sent one number i by of early
    go one number (inr e) by of early = absurd (apart (ap (λ (o : ℕ × core.Flight). o.1.server) e ∙ by))

more_log : (p : life.Phase) (ring : Ring) (now : ℕ) (flights : Flights) (more : ℕ × core.Flight) (disk : Sectors) (log : SectorLog) (b : ℕ) (j : Journal) → (more.1.server ≡ b → ⊥) →
    IsLogOf p ring now flights disk log b j → IsLogOf p ring now (flights ++ more ∷ []) disk log b j
more_log life.Off ring now flights more disk log b j apart g = g
more_log life.Up ring now flights more disk log b j apart g = more_journal life.Up ring now flights more disk log b j apart g
more_log life.Still ring now flights more disk log b j apart g = more_journal life.Still ring now flights more disk log b j apart g
more_log (life.Doomed fate) ring now flights more disk log b j apart g = more_journal (life.Doomed fate) ring now flights more disk log b j apart g
more_log life.Dead ring now flights more disk log b j apart g = more_journal life.Dead ring now flights more disk log b j apart g

-- ---- the last number stays

issued_last : (r : Ring) (x : LogSector) (xs : List LogSector) → r.waiting ≡ x ∷ xs → last (ring_issued r) ≡ last r
issued_last r x xs waits =
    ap (λ (ys : List LogSector). r.reached + length (r.above ++ false ∷ []) + length (drop 1 ys)) waits
    ∙ ap (λ n. r.reached + n + length xs) (length-append r.above (false ∷ []))
    ∙ moved r.reached (length r.above) (length xs)
    ∙ sym (ap (λ (ys : List LogSector). r.reached + length r.above + length ys) waits)
  where
    moved : (n k m : ℕ) → n + (k + 1) + m ≡ n + k + suc m
    moved n k m = omega arith

-- a ring that has issued one isn't acknowledged to its end
not_all : (r : Ring) → is_all_reached (ring_issued r) ≡ false
not_all r = differs r.reached (length (r.above ++ false ∷ [])) (length (drop 1 r.waiting)) (longer r.above)
  where
    longer : (xs : List Bool) → 0 < length (xs ++ false ∷ [])
    longer xs = subst (λ n. 0 < n) (sym (length-append xs (false ∷ []))) (omega arith)

    differs : (n k l : ℕ) → 0 < k → (n == n + k + l) ≡ false
    differs n k l h = ne_eqb n (n + k + l) (λ e. absurd (omega (arith, h, e)))

-- ---- its own

module _ (s : RunMoment) (w : World) (journal : ℕ → Journal) (t : IsWorldOf s w journal) (a : ℕ) (who : IsTrue (is_server a)) (awake : is_off (s.core.servers a).phase ≡ false) (sector number : ℕ)
    (block : Block) (following : next_write (s.core.servers a).ring ≡ Some (number, block)) (window : number ≤ (s.core.servers a).ring.reached + 64) where
  abbrev ring : Ring
  ring = (s.core.servers a).ring

  abbrev more : ℕ × core.Flight
  more = (s.core.tickets, flight_of s.core a sector (next_log_write a number block))

  abbrev flights_then : Flights
  flights_then = s.core.flights ++ more ∷ []

  abbrev server_then : Server
  server_then = record (s.core.servers a) { ring = ring_issued ring; arming = counted (s.core.servers a).arming }

  abbrev servers_then : ℕ → Server
  servers_then = put s.core.servers a server_then

  abbrev journal_then : Journal
  journal_then = record (journal a) { log = after_log_event (journal a).log Issue }

  abbrev pub journals_then : ℕ → Journal
  journals_then = put journal a journal_then

  old : IsJournal (s.core.servers a).phase ring s.core.now s.core.flights s.disk (sector_log w a) a (journal a)
  old = as_journal ring s.core.now s.core.flights s.disk (sector_log w a) a (journal a) (s.core.servers a).phase awake (t.journals a who)

  old_standing : stands.IsJournal ring s.core.now s.core.flights a (standing (journal a))
  old_standing = as_standing (s.core.servers a).phase ring s.core.now s.core.flights s.disk (sector_log w a) a (journal a) old

  its_next : Next ring s.core.now s.core.flights a (standing (journal a)) old_standing number block
  its_next = next_is ring s.core.now s.core.flights a (standing (journal a)) old_standing number block following

  next_standing : stands.IsJournal (ring_issued ring) s.core.now flights_then a (with_event (standing (journal a)) Issue)
  next_standing =
      issues ring s.core.now s.core.flights a (standing (journal a)) old_standing number block its_next window more (λ n of. (sym (ap number_of of), refl))
    where
      number_of : core.Purpose → ℕ
      number_of (OfLog n) = n
      number_of (core.InPlace cover) = 0
      number_of core.OfRecovery = 0

  own_journal : IsJournal (s.core.servers a).phase (ring_issued ring) s.core.now flights_then s.disk (sector_log w a) a journal_then
  own_journal = record {
    good = next_standing.good;
    ring_is = next_standing.ring_is;
    slots = old.slots;
    counted = record {
      rises = old.counted.rises;
      durable = old.counted.durable;
      acked = old.counted.acked;
      newest = old.counted.newest;
      ends_at = old.counted.ends_at ∙ sym (issued_last ring its_next.sector its_next.rest its_next.waits);
    };
    sent = λ one n i by of early. as_sent journal_then.log.flying n one.1.block (next_standing.sent one n i by of early);
    records = old.records;
  }

  pub journals_of : AreJournals servers_then s.core.now flights_then s.disk w journals_then
  journals_of b server = go (cases_eq b a)
    where
      Goal : ℕ → Server → Journal → Type 0
      Goal n x j = IsLogOf x.phase x.ring s.core.now flights_then s.disk (sector_log w n) n j

      go : (b ≡ a) ⊎ (b ≡ a → ⊥) → Goal b (servers_then b) (journals_then b)
      go (inl e) =
          subst (λ n. Goal n (servers_then n) (journals_then n)) (sym e)
          (subst (λ (x : Server). Goal a x (journals_then a)) (sym (put_same s.core.servers a server_then))
          (subst (Goal a server_then) (sym (put_same journal a journal_then))
          (as_log (ring_issued ring) s.core.now flights_then s.disk (sector_log w a) a journal_then (s.core.servers a).phase awake own_journal)))
      go (inr n) =
          subst (λ (x : Server). Goal b x (journals_then b)) (sym (put_other s.core.servers a server_then b n))
          (subst (Goal b (s.core.servers b)) (sym (put_other journal a journal_then b n))
          (more_log (s.core.servers b).phase (s.core.servers b).ring s.core.now s.core.flights more s.disk (sector_log w b) b (journal b) (λ e. n (sym e)) (t.journals b server)))

  -- ---- all ties

  abbrev core_then : Core
  core_then = record s.core { flights = flights_then; tickets = s.core.tickets + 1; servers = servers_then }

  -- the servers then, but for the ring
  abbrev servers_mid : ℕ → Server
  servers_mid b = record (servers_then b) { ring = (s.core.servers b).ring }

  alike_mid : AreAlike servers_mid s.core.servers
  alike_mid = record {
    phase = put_as (λ x. x.phase) s.core.servers a server_then refl;
    failed = put_as (λ x. x.failed) s.core.servers a server_then refl;
    recovery = put_as (λ x. x.recovery) s.core.servers a server_then refl;
    ring = λ b. refl;
  }

  caches_then : (b : ℕ) → (servers_then b).cache ≡ (s.core.servers b).cache
  caches_then = put_as (λ x. x.cache) s.core.servers a server_then refl

  reached_then : (b : ℕ) → (servers_then b).ring.reached ≡ (s.core.servers b).ring.reached
  reached_then = put_as (λ x. x.ring.reached) s.core.servers a server_then refl

  marked_then : AreMarked servers_then w
  marked_then b x =
      subst (λ k. IsMarkedAs (servers_then b).ring.reached (w.acked b) (value_at k x) (w.slot b x) (w.page b x)) (sym (caches_then b))
      (subst (λ n. IsMarkedAs n (w.acked b) (value_at (s.core.servers b).cache x) (w.slot b x) (w.page b x)) (sym (reached_then b)) (t.tied.marked b x))

  logged_then : AreLogged servers_then w
  logged_then b =
      at_put (λ (y : Server). IsTrue (is_all_reached y.ring) → w.last b ≤ w.acked b) s.core.servers a server_then b (λ e all. absurd (false≢true (sym (not_all ring) ∙ all))) (λ n. t.tied.logged b)

  ends_then : AreEnds s.core.servers w journal → AreEnds servers_then w journals_then
  ends_then marks b x server =
      subst (λ k. AtCached (IsEnd (journals_then b).ends (servers_then b).ring.reached (w.acked b) b (settled w.history)) (value_at k x) (w.slot b x) (w.page b x)) (sym (caches_then b))
      (subst (λ n. AtCached (IsEnd (journals_then b).ends n (w.acked b) b (settled w.history)) (value_at (s.core.servers b).cache x) (w.slot b x) (w.page b x)) (sym (reached_then b))
      (at_put
      (λ (j : Journal). AtCached (IsEnd j.ends (s.core.servers b).ring.reached (w.acked b) b (settled w.history)) (value_at (s.core.servers b).cache x) (w.slot b x) (w.page b x)) journal a journal_then b
      (λ e. subst (λ n. AtCached (IsEnd (journal n).ends (s.core.servers b).ring.reached (w.acked b) b (settled w.history)) (value_at (s.core.servers b).cache x) (w.slot b x) (w.page b x)) e (marks b x server))
      (λ n. marks b x server)))

  open_then : AreOpen s.core.servers s.core.now s.disk journal → AreOpen servers_then s.core.now s.disk journals_then
  open_then open_ b server dead early slot low =
      at_put (λ (j : Journal). slots_of s.disk b slot ≡ j.log.slots slot) journal a journal_then b (λ e. was ∙ ap (λ n. (journal n).log.slots slot) e) (λ n. was)
    where
      was : slots_of s.disk b slot ≡ (journal b).log.slots slot
      was = open_ b server (subst (λ p. IsTrue (is_dead p)) (put_as (λ x. x.phase) s.core.servers a server_then refl b) dead)
          (subst (λ n. s.core.now ≤ n) (put_as (λ x. x.expiry) s.core.servers a server_then refl b) early) slot low

  module _ (going : IsTrue (not s.core.over)) (well : IsTrue (not (s.core.servers a).failed)) (alone : IsTrue (not (core.is_flying s.core.flights sector))) (log : is_log_sector s.core.setting.segments sector ≡ true) where
    more_of : (one : ℕ × core.Flight) → Contains flights_then one → Contains s.core.flights one ⊎ (one.1.server ≡ a)
    more_of one i = ⊎_elim (λ j. inl j) (λ e. inr (ap (λ (x : ℕ × core.Flight). x.1.server) (sym e))) (Contains-push_cases s.core.flights more one i)

    tied_then : AreTied core_then s.disk w
    tied_then = record {
      lives = lives_alike servers_mid s.core.servers alike_mid w s.core.now (put_as (λ x. x.expiry) s.core.servers a server_then refl) t.tied.lives;
      locks = t.tied.locks;
      cached = λ b x. subst (λ k. IsCachedAs (has_version w x) (cover w x) (value_at k x) (w.slot b x) (w.page b x)) (sym (caches_then b)) (t.tied.cached b x);
      marked = marked_then;
      flying = λ e. flying_log s.core.setting.segments s.core.now s.core.flights s.core.tickets (flight_of s.core a sector (next_log_write a number block)) alone w
          (t.tied.flying (not-true s.core.over going)) log;
      disk = t.tied.disk;
      rescues = λ e. rescues_alike servers_mid s.core.servers alike_mid w flights_then
          (rescues_more s.core.servers flights_then s.core.flights w a (not-true (s.core.servers a).failed well) more_of (t.tied.rescues e));
      logged = logged_then;
    }

    pub leads_by_none : AreEnds s.core.servers w journal → AreOpen s.core.servers s.core.now s.disk journal → (v : RunMoment) → core_then ≡ v.core → s.disk ≡ v.disk → LeadsBy w [] v journals_then
    leads_by_none marks open_ v core_is disk_is = record {
      quiet = record {
        leads = record {
          events = [];
          world = w;
          run = stays;
          is = moved (record s { core = core_then }) v w journals_then core_is disk_is
              (record { tied = tied_then; journals = journals_of; readings = readings_alike servers_mid s.core.servers alike_mid w s.core.setting.segments t.readings });
        };
        story = record { servers = refl; opening = refl; logged = refl; first = refl; home = refl; history = refl };
        quiet = tt;
      };
      by = refl;
      marks = subst (λ (c : Core). AreEnds c.servers w journals_then) core_is (ends_then marks);
      open_ = opened (record s { core = core_then }) v journals_then core_is disk_is (open_then open_);
    }

-- ---- the event

-- a server that works is up
awake_by : (server host : Bool) (p : life.Phase) → server ≡ true → host ≡ false → IsTrue ((server && is_up p) || host) → is_off p ≡ false
awake_by true false life.Off e f who = absurd (false≢true who)
awake_by true false life.Up e f who = refl
awake_by true false life.Still e f who = refl
awake_by true false (life.Doomed fate) e f who = refl
awake_by true false life.Dead e f who = refl
awake_by true true p e f who = absurd (false≢true (sym f))
awake_by false host p e f who = absurd (false≢true e)

pub log_issues_go_on : LogWritesKeepTheWindow → LogIssuesGoOn
log_issues_go_on windows s w journal a sector r t marks open_ m log = go (value_at (writes s.core a) sector) refl
  where
    setting_is : s.core.setting ≡ setting_of r.script r.segments r.number
    setting_is = setting_of_run (setting_of r.script r.segments r.number) r.disk s r.run

    of_log : (number : ℕ) (block : Block) → next_write (s.core.servers a).ring ≡ Some (number, block) → sector ≡ log_sector s.core.setting.logs a number →
        value_at (writes s.core a) sector ≡ Some (next_log_write a number block) → LeadsBy w [] (next s (core_events.Issue a sector) Nothing) (with_event_of journal a Issue)
    of_log number block following at e =
        leads_by_none s w journal t a who awake sector number block following window m.can.going m.can.can.issuable.well m.can.can.issuable.alone in_log marks open_ (next s (core_events.Issue a sector) Nothing)
        (sym (ap (issued_as s.core a sector) e)) refl
      where
        who : IsTrue (is_server a)
        who = next_of_server s.core.servers a number block (of_servers (setting_of r.script r.segments r.number) r.disk s r.run).none following

        awake : is_off (s.core.servers a).phase ≡ false
        awake = awake_by (is_server a) (a == host_party) (s.core.servers a).phase who (no_host a who) m.can.can.issuable.who

        window : number ≤ (s.core.servers a).ring.reached + 64
        window =
            subst (λ (setting : Setting). number ≤ (s.core.servers a).ring.reached + setting.logs.in_flight) setting_is (windows s.core a sector (next_log_write a number block) number m.can e refl)

        in_log : is_log_sector s.core.setting.segments sector ≡ true
        in_log =
            ap (is_log_sector s.core.setting.segments) (at ∙ ap (λ (setting : Setting). log_sector setting.logs a number) setting_is) ∙ at_log s.core.setting.segments a number (server_low a who)

    by_kind : (write : Write) → value_at (writes s.core a) sector ≡ Some write → Wanted s.core.setting.logs s.core.setting.segments a (s.core.servers a) sector write →
        LeadsBy w [] (next s (core_events.Issue a sector) Nothing) (with_event_of journal a Issue)
    by_kind write e (Rescues recovery block has there is) = absurd (false≢true (sym (ap (λ (x : Write). is_log_purpose x.purpose) is) ∙ sym (ap is_log_write e) ∙ log))
    by_kind write e (Places cached dirt there dirty is) = absurd (false≢true (sym (ap (λ (x : Write). is_log_purpose x.purpose) is) ∙ sym (ap is_log_write e) ∙ log))
    by_kind write e (NextOfLog number block following at is) = of_log number block following at (e ∙ ap Some is)

    go : (o : Option Write) → value_at (writes s.core a) sector ≡ o → LeadsBy w [] (next s (core_events.Issue a sector) Nothing) (with_event_of journal a Issue)
    go None e = absurd (false≢true (sym (ap is_log_write e) ∙ log))
    go (Some write) e = by_kind write e (wanted_is s.core.setting s.core.locks a (s.core.servers a) (stage s.core a) sector write e)
