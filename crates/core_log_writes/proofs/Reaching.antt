-- A sector of a server's log stands on the disk: its durable operations are those that end at the log's end then.
use Rattle.std.proofs.Common.{◌≡◌, ◌⊎◌, ℕ, ◌<◌, ◌≤◌, false, if◌then◌else◌, IsTrue, Some, sym, ap, ◌∙◌, subst, inl, inr, le_refl}
use Rattle.std.proofs.lemmas.Bool.{cases_eq, false≢true, ne_eqb}
use Rattle.std.specs.List.{Contains}
use Rattle.frang_base.specs.Functions.{put}
use Rattle.frang_base.proofs.Basics.{at_put, put_other, put_same}
use Rattle.frang_outside.specs.Disk.{written}
use Rattle.disk_definitions.proofs.SameLogs.{SameSlots}
use Rattle.disk_definitions.specs.Arriving.{with_sector}
use Rattle.disk_definitions.specs.Logs.{log_end}
use Rattle.disk_definitions.specs.Replay.{slots_of}
use Rattle.sector_bytes.specs.Blocks.{Block, version_of}
use Rattle.sector_bytes.specs.SectorMaps.{value_at, without}
use Rattle.sector_bytes.specs.Sectors.{Sectors}
use Rattle.ring_definitions.specs.RingRuns.{after_log_event}
use Rattle.ring_definitions.specs.RingRuns.LogEvent.{Arrive}
use Rattle.ring_definitions.proofs.GoodLogs.{end_of_good_goes_on}
use Rattle.core_definitions.specs.Flights as core
use Rattle.core_definitions.specs.Flights.{Flights}
use Rattle.core_definitions.specs.LineGuards.{is_server}
use Rattle.core_definitions.specs.Logs.{log_sector}
use Rattle.core_definitions.specs.Recoveries.{Recovery, redos}
use Rattle.core_definitions.specs.Runs.{State as RunMoment}
use Rattle.core_definitions.specs.Servers.{is_off}
use Rattle.core_definitions.specs.Settings.{disk_logs}
use Rattle.core_facts.proofs.Reading.{same_log, server_low}
use Rattle.core_journals.specs.Journals as stands
use Rattle.core_journals.proofs.JournalSteps.{arrive_may, arrive_slots, arrives, with_event}
use Rattle.core_journals.proofs.LogBlocks.{same_back, same_on, with_same, written_beside, written_slots}
use Rattle.sector_world.specs.Guards.{CanReach}
use Rattle.sector_world.specs.Kinds.{Good}
use Rattle.sector_world.specs.Steps.{after}
use Rattle.sector_world.specs.Steps.Event.{Reach}
use Rattle.sector_world.specs.World.{World}
use Rattle.core_world.specs.Beside.{AreEnds, AreOpen, AtCached, IsEnd}
use Rattle.core_world.specs.Journals.{AreJournals, AreReadings, IsJournal, IsLogOf, Journal, sector_log}
use Rattle.core_world.specs.Readings.{AreNamed, ReadsAs}
use Rattle.core_world.proofs.Same.{rescues_on}
use Rattle.core_world.specs.Steps.{IsWorldOf}
use Rattle.core_writes.proofs.Lists.{fewer_those}
use Rattle.core_world.specs.Ties.{AreFlying, AreTied, is_log_sector, is_working}
use Rattle.core_writes.proofs.Journaling.{AreFewer, landed_log}
use Rattle.core_writes.proofs.LogPlaces.{at_log}
use Rattle.sector_world.specs.Histories.{settled}
use Rattle.core_log_writes.proofs.Furthest.{can_reach, counted_further, durable_more, durable_then}
use Rattle.core_log_writes.proofs.Keeping.{as_journal, as_log, as_sent, as_standing, on_slot, standing}

-- the other writes of the log that may still come in time are on their way, with other numbers
abbrev pub AreOthers : stands.Journal → ℕ → ℕ → Flights → ℕ → Type 0
AreOthers j number now flights a =
    (one : ℕ × core.Flight) (n : ℕ) → Contains flights one → one.1.server ≡ a → one.1.purpose ≡ core.OfLog n → now ≤ one.1.stamp → stands.IsSent j.log.flying n one.1.block × (n ≡ number → ⊥)

-- the log stands on the disk as its journal has it
abbrev pub StandsAsLeft : RunMoment → (ℕ → Journal) → ℕ → Type 0
StandsAsLeft s journal a = (slot : ℕ) → slot < 256 → slots_of s.disk a slot ≡ (journal a).log.slots slot

-- no recovery at work is of this server
abbrev pub NoneRecovers : RunMoment → ℕ → Type 0
NoneRecovers s a = (by : ℕ) (recovery : Recovery) → IsTrue (is_working s.core.servers by) → (s.core.servers by).recovery ≡ Some recovery → recovery.dead ≡ a → ⊥

module _ (s : RunMoment) (w : World) (journal : ℕ → Journal) (t : IsWorldOf s w journal) (g : Good w) (a : ℕ) (who : IsTrue (is_server a)) (awake : is_off (s.core.servers a).phase ≡ false)
    (left : StandsAsLeft s journal a) (ticket sector number : ℕ) (block : Block) (place : sector ≡ log_sector disk_logs a number) (sent : stands.IsSent (journal a).log.flying number block)
    (others : AreOthers (standing (journal a)) number s.core.now (without s.core.flights ticket) a) (lease : w.now ≤ w.expiry a) (unread : NoneRecovers s a)
    (fewer : AreFewer (without s.core.flights ticket) s.core.flights) (flies : AreFlying s.core.setting.segments s.core.now (without s.core.flights ticket) w) where
  abbrev pub moment_then : RunMoment
  moment_then = record s { core = record s.core { flights = without s.core.flights ticket }; disk = written s.disk sector block }

  abbrev pub journal_then : Journal
  journal_then = record (journal a) { log = after_log_event (journal a).log (Arrive number) }

  pub old : IsJournal (s.core.servers a).phase (s.core.servers a).ring s.core.now s.core.flights s.disk (sector_log w a) a (journal a)
  old = as_journal (s.core.servers a).ring s.core.now s.core.flights s.disk (sector_log w a) a (journal a) (s.core.servers a).phase awake (t.journals a who)

  old_standing : stands.IsJournal (s.core.servers a).ring s.core.now s.core.flights a (standing (journal a))
  old_standing = as_standing (s.core.servers a).phase (s.core.servers a).ring s.core.now s.core.flights s.disk (sector_log w a) a (journal a) old

  next_standing : stands.IsJournal (s.core.servers a).ring s.core.now (without s.core.flights ticket) a (with_event (standing (journal a)) (Arrive number))
  next_standing =
      arrives (s.core.servers a).ring s.core.now s.core.flights a (standing (journal a)) old_standing number sent.sector sent.there sent.number_is s.core.now (without s.core.flights ticket) others

  pub raised : log_end (journal a).log.slots ≤ log_end journal_then.log.slots
  raised =
      end_of_good_goes_on (journal a).before (journal a).log number old.good
      (arrive_may (s.core.servers a).ring s.core.now s.core.flights a (standing (journal a)) old_standing number sent.sector sent.there sent.number_is)

  abbrev pub durable_now : ℕ
  durable_now = durable_then w a (s.core.servers a).ring (log_end (journal a).log.slots) (journal a).ends old.counted g (log_end journal_then.log.slots) raised

  pub reach_more : w.durable a ≤ durable_now
  reach_more = durable_more w a (s.core.servers a).ring (log_end (journal a).log.slots) (journal a).ends old.counted g (log_end journal_then.log.slots) raised

  pub may_reach : CanReach w a durable_now
  may_reach = can_reach w a (s.core.servers a).ring (log_end (journal a).log.slots) (journal a).ends old.counted g (log_end journal_then.log.slots) raised lease

  abbrev pub world_then : World
  world_then = after w (Reach a durable_now)

  abbrev pub journals_then : ℕ → Journal
  journals_then = put journal a journal_then

  abbrev pub disk_then : Sectors
  disk_then = written s.disk sector block

  -- ---- its own log

  slots_then : SameSlots (slots_of disk_then a) journal_then.log.slots
  slots_then =
      same_on (slots_of disk_then a) (with_sector (journal a).log.slots sent.sector) journal_then.log.slots
      (same_on (slots_of disk_then a) (with_sector (slots_of s.disk a) sent.sector) (with_sector (journal a).log.slots sent.sector)
      (subst (λ b. SameSlots (slots_of (written s.disk sector b) a) (with_sector (slots_of s.disk a) sent.sector)) (sym sent.block_is)
      (written_slots s.disk a sector sent.sector (place ∙ ap (log_sector disk_logs a) (sym sent.number_is))))
      (with_same (slots_of s.disk a) (journal a).log.slots sent.sector left))
      (same_back journal_then.log.slots (with_sector (journal a).log.slots sent.sector)
      (arrive_slots (s.core.servers a).ring s.core.now s.core.flights a (standing (journal a)) old_standing number sent.sector sent.there sent.number_is))

  own_journal : IsJournal (s.core.servers a).phase (s.core.servers a).ring s.core.now (without s.core.flights ticket) disk_then (sector_log world_then a) a journal_then
  own_journal = record {
    good = next_standing.good;
    ring_is = old.ring_is;
    slots = λ slot low. on_slot (s.core.servers a).phase journal_then.log.slots slot (slots_of disk_then a slot) (slots_then slot low);
    counted = counted_further w a (s.core.servers a).ring (log_end (journal a).log.slots) (journal a).ends old.counted g (log_end journal_then.log.slots) raised;
    sent = λ one n i by of early. as_sent journal_then.log.flying n one.1.block (next_standing.sent one n i by of early);
    records = old.records;
  }

  -- ---- those of the others

  apart : (b : ℕ) → (b ≡ a → ⊥) → SameSlots (slots_of disk_then b) (slots_of s.disk b)
  apart b n = written_beside s.disk b sector block (λ slot low e. n (sym (same_log a number b slot low (sym place ∙ e)).0))

  journals_of : AreJournals s.core.servers s.core.now (without s.core.flights ticket) disk_then world_then journals_then
  journals_of b server = go (cases_eq b a)
    where
      go : (b ≡ a) ⊎ (b ≡ a → ⊥) →
          IsLogOf (s.core.servers b).phase (s.core.servers b).ring s.core.now (without s.core.flights ticket) disk_then (sector_log world_then b) b (journals_then b)
      go (inl e) =
          subst (λ n. IsLogOf (s.core.servers n).phase (s.core.servers n).ring s.core.now (without s.core.flights ticket) disk_then (sector_log world_then n) n (journals_then n)) (sym e)
          (subst (IsLogOf (s.core.servers a).phase (s.core.servers a).ring s.core.now (without s.core.flights ticket) disk_then (sector_log world_then a) a) (sym (put_same journal a journal_then))
          (as_log (s.core.servers a).ring s.core.now (without s.core.flights ticket) disk_then (sector_log world_then a) a journal_then (s.core.servers a).phase awake own_journal))
      go (inr n) =
          subst (IsLogOf (s.core.servers b).phase (s.core.servers b).ring s.core.now (without s.core.flights ticket) disk_then (sector_log world_then b) b) (sym (put_other journal a journal_then b n))
          (subst (λ d. IsLogOf (s.core.servers b).phase (s.core.servers b).ring s.core.now (without s.core.flights ticket) disk_then (record (sector_log w b) { durable = d }) b (journal b))
          (sym (put_other w.durable a durable_now b n))
          (landed_log s.core.now s.core.flights (without s.core.flights ticket) s.disk disk_then (sector_log w b) (λ x. version_of (w.disk x)) b (journal b) fewer (apart b n)
          (λ x. le_refl (version_of (w.disk x))) (s.core.servers b).phase (s.core.servers b).ring (t.journals b server)))

  -- ---- what recoveries at work read

  readings_of : AreReadings s.core.setting.segments s.core.servers world_then
  readings_of by recovery works has read =
      subst (λ n. ReadsAs (record w { durable = λ x. n }) recovery.dead (redos disk_logs recovery) × AreNamed s.core.setting.segments (record w { durable = λ x. n }) recovery.dead (redos disk_logs recovery))
      (sym (put_other w.durable a durable_now recovery.dead (unread by recovery works has))) (t.readings by recovery works has read)

  -- ---- all ties

  on_disk_then : (x : ℕ) → is_log_sector s.core.setting.segments x ≡ false → disk_then x ≡ s.disk x
  on_disk_then x out =
      ap (λ b. if b then block else s.disk x)
      (ne_eqb sector x
      (λ e. false≢true (sym out ∙ ap (is_log_sector s.core.setting.segments) (sym e ∙ place) ∙ at_log s.core.setting.segments a number (server_low a who))))

  tied_then : AreTied moment_then.core disk_then world_then
  tied_then = record {
    lives = t.tied.lives;
    locks = t.tied.locks;
    cached = t.tied.cached;
    marked = t.tied.marked;
    flying = λ e. flies;
    disk = λ x out. t.tied.disk x out ∙ sym (on_disk_then x out);
    rescues = λ e. rescues_on s.core.servers (without s.core.flights ticket) s.core.flights w (fewer_those s.core.flights ticket) (t.tied.rescues e);
    logged = t.tied.logged;
  }

  pub reached_world : IsWorldOf moment_then world_then journals_then
  reached_world = record { tied = tied_then; journals = journals_of; readings = readings_of }

  -- marks lie where they did
  pub reached_ends : AreEnds s.core.servers w journal → AreEnds s.core.servers world_then journals_then
  reached_ends m b x server =
      at_put
      (λ (j : Journal). AtCached (IsEnd j.ends (s.core.servers b).ring.reached (w.acked b) b (settled w.history)) (value_at (s.core.servers b).cache x) (w.slot b x) (w.page b x)) journal a journal_then b
      (λ e. subst (λ n. AtCached (IsEnd (journal n).ends (s.core.servers b).ring.reached (w.acked b) b (settled w.history)) (value_at (s.core.servers b).cache x) (w.slot b x) (w.page b x)) e (m b x server))
      (λ n. m b x server)

  -- logs that were open are
  pub reached_open : AreOpen s.core.servers s.core.now s.disk journal → AreOpen s.core.servers s.core.now disk_then journals_then
  reached_open open_ b server dead early slot low = go (cases_eq b a)
    where
      go : (b ≡ a) ⊎ (b ≡ a → ⊥) → slots_of disk_then b slot ≡ (journals_then b).log.slots slot
      go (inl e) =
          subst (λ n. slots_of disk_then n slot ≡ (journals_then n).log.slots slot) (sym e)
          (slots_then slot low ∙ ap (λ (j : Journal). j.log.slots slot) (sym (put_same journal a journal_then)))
      go (inr n) = apart b n slot low ∙ open_ b server dead early slot low ∙ ap (λ (j : Journal). j.log.slots slot) (sym (put_other journal a journal_then b n))
