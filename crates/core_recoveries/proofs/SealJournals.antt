-- A write of a seal that comes leaves the journals as they are: it lies in the log of a dead server, and is of a number behind the end of its journal.
use Rattle.std.proofs.Common.{◌≡◌, ℕ, ◌+◌, ◌<◌, ◌≤◌, ◌==◌, ◌⊎◌, inl, inr, Bool, true, false, if◌then◌else◌, IsTrue, Option, Some, le_refl, refl, sym, ap, ◌∙◌, subst}
use Rattle.std.proofs.lemmas.Bool.{both_ways, cases_eq, false≢true}
use Rattle.frang_base.specs.Functions.{put}
use Rattle.frang_base.proofs.Basics.{at_put}
use Rattle.frang_outside.specs.Disk.{written}
use Rattle.disk_definitions.proofs.Listed.{Among}
use Rattle.disk_definitions.specs.Logs.{log_end}
use Rattle.disk_definitions.specs.Regions.{sector_of}
use Rattle.disk_definitions.specs.Replay.{slots_of}
use Rattle.disk_definitions.specs.declared.region.Region.TheVariants as region
use Rattle.sector_bytes.specs.Sectors.{Sectors}
use Rattle.sector_bytes.specs.SectorMaps.{value_at, without}
use Rattle.core_definitions.specs.Effects.{MayArrive, disk_from, disk_with}
use Rattle.core_definitions.specs.Events as core_events
use Rattle.core_definitions.specs.Events.{PutFailed, Written}
use Rattle.core_definitions.specs.Flights as core
use Rattle.core_definitions.specs.LineEffects.{failed_by}
use Rattle.core_definitions.specs.LineGuards.{is_server}
use Rattle.core_definitions.specs.Runs.{State as RunMoment, Makes}
use Rattle.core_definitions.specs.Scripts.{host_party}
use Rattle.core_definitions.specs.Servers as life
use Rattle.core_definitions.specs.Servers.{Server, is_dead}
use Rattle.core_definitions.specs.WriteEffects.{acknowledged, arrived_from, landed}
use Rattle.core_definitions.specs.Cores.{with_server}
use Rattle.core_facts.proofs.Reading.{Facts, Reads, facts_of, flight_at, reads_of_run, same_log}
use Rattle.core_journals.proofs.Changing.{written_elsewhere, written_there}
use Rattle.core_journals.proofs.Touching.{seal_range}
use Rattle.core_journals.specs.Journals.{IsSealWrite}
use Rattle.core_laws.proofs.Membership.{contains_in, in_contains}
use Rattle.core_writes.proofs.Lists.{from_without}
use Rattle.core_journals.proofs.FlightChanges.{is_rescue}
use Rattle.core_writes.proofs.Journaling.{AreFewer, fewer_journals, landed_log}
use Rattle.sector_bytes.specs.Blocks.{version_of}
use Rattle.core_laws.specs.Leases.{LeasesEnd}
use Rattle.core_world.specs.Journals.{AreJournals, IsJournal, IsLogOf, IsSlotOn, Journal, sector_log}
use Rattle.core_world.specs.Steps.{IsReached, IsWorldOf}
use Rattle.sector_world.specs.World.{World}
use Rattle.core_readings.specs.Logs.{AreLogs}
use Rattle.core_readings.proofs.Behind.{Apart, Comes, Own, Rescues, comes, rescue_dead}
use Rattle.core_recoveries.specs.Logs.{SealsArriveByLogs, SealsFailByLogs}
use Rattle.core_recoveries.specs.Seals.{AreJournalsThen, SealsArrive, SealsFail}

-- ---- log by log

module _ (ends : LeasesEnd) (s : RunMoment) (w : World) (journal : ℕ → Journal) (r : IsReached s) (t : IsWorldOf s w journal) (logs : AreLogs s journal) (ticket : ℕ) (one : ℕ × core.Flight) (there : Among one s.core.flights)
    (place : one.1.purpose ≡ core.OfRecovery) (early : s.core.now ≤ one.1.stamp) where
  facts : Facts s
  facts = facts_of ends r.script r.segments r.number r.disk s r.run

  reads : Reads s.core.servers s.core.flights s.disk
  reads = reads_of_run ends r.script r.segments r.number r.disk s r.run

  abbrev flights_then : core.Flights
  flights_then = without s.core.flights ticket

  abbrev disk_then : Sectors
  disk_then = written s.disk one.1.sector one.1.block

  fewer : AreFewer flights_then s.core.flights
  fewer other number i of = in_contains s.core.flights other (from_without s.core.flights ticket other (contains_in flights_then other i))

  module _ (a : ℕ) (who : IsTrue (is_server a)) where
    -- a slot of it: a number of the seal, or as it was
    sealed_slot : (dead : IsTrue (is_dead (s.core.servers a).phase)) → IsJournal life.Dead (s.core.servers a).ring s.core.now s.core.flights s.disk (sector_log w a) a (journal a) → (slot : ℕ) → slot < 256 →
        IsSlotOn life.Dead (journal a).log.slots slot (slots_of disk_then a slot)
    sealed_slot dead g slot below = go (cases_eq one.1.sector (sector_of (region.Log a slot)))
      where
        go : (one.1.sector ≡ sector_of (region.Log a slot)) ⊎ (one.1.sector ≡ sector_of (region.Log a slot) → ⊥) → IsSlotOn life.Dead (journal a).log.slots slot (slots_of disk_then a slot)
        go (inr ne) = subst (IsSlotOn life.Dead (journal a).log.slots slot) (sym (written_elsewhere s.disk one.1.sector (sector_of (region.Log a slot)) one.1.block ne)) (g.slots slot below)
        go (inl e) = inr (seal.number, range.0, range.1, (same_log a seal.number a slot below (sym seal.sector_is ∙ e)).1, stands ∙ seal.block_is)
          where
            seal : IsSealWrite s.core.now (s.core.servers a).expiry (log_end (journal a).log.slots) (slots_of s.disk a) a one.1
            seal = ((logs.stand a who).left dead).seals one slot (in_contains s.core.flights one there) place below e early

            range : (log_end (journal a).log.slots < seal.number) × (seal.number ≤ log_end (journal a).log.slots + 64)
            range = seal_range s.core.now (s.core.servers a).expiry (log_end (journal a).log.slots) (slots_of s.disk a) a one.1 seal

            stands : slots_of disk_then a slot ≡ one.1.block
            stands = ap disk_then (sym e) ∙ written_there s.disk one.1.sector one.1.block

    sealed_log : (dead : IsTrue (is_dead (s.core.servers a).phase)) → (p : life.Phase) → (s.core.servers a).phase ≡ p → IsLogOf p (s.core.servers a).ring s.core.now s.core.flights s.disk (sector_log w a) a (journal a) →
        IsLogOf p (s.core.servers a).ring s.core.now flights_then disk_then (sector_log w a) a (journal a)
    sealed_log dead life.Off e g = absurd (both_ways (is_dead (s.core.servers a).phase) (ap is_dead e) dead)
    sealed_log dead life.Up e g = absurd (both_ways (is_dead (s.core.servers a).phase) (ap is_dead e) dead)
    sealed_log dead life.Still e g = absurd (both_ways (is_dead (s.core.servers a).phase) (ap is_dead e) dead)
    sealed_log dead (life.Doomed fate) e g = absurd (both_ways (is_dead (s.core.servers a).phase) (ap is_dead e) dead)
    sealed_log dead life.Dead e g = record {
      good = g.good;
      ring_is = g.ring_is;
      slots = sealed_slot dead g;
      counted = g.counted;
      sent = λ other number i by of soon. g.sent other number (fewer other number i of) by of soon;
      records = g.records;
    }

    log_then : Comes s.disk a one.1 → IsLogOf (s.core.servers a).phase (s.core.servers a).ring s.core.now flights_then disk_then (sector_log w a) a (journal a)
    log_then (Apart same) = landed_log s.core.now s.core.flights flights_then s.disk disk_then (sector_log w a) (sector_log w a).versions a (journal a) fewer same (λ x. le_refl (version_of (w.disk x)))
        (s.core.servers a).phase (s.core.servers a).ring (t.journals a who)
    log_then (Own number of by) = absurd (false≢true (ap is_rescue (sym of ∙ place)))
    log_then (Rescues q slot low at) =
        sealed_log (rescue_dead s facts reads one there place early a slot who low at) (s.core.servers a).phase refl (t.journals a who)

  pub written_journals : AreJournals s.core.servers s.core.now flights_then disk_then w journal
  written_journals a who = log_then a who (comes s facts reads one there early a who)

  pub kept_journals : AreJournals s.core.servers s.core.now flights_then s.disk w journal
  kept_journals = fewer_journals s.core.servers s.core.now s.core.flights flights_then s.disk w journal fewer t.journals

-- ---- the laws

module _ (ends : LeasesEnd) (s : RunMoment) (w : World) (journal : ℕ → Journal) (ticket : ℕ) (flight : core.Flight) (r : IsReached s) (t : IsWorldOf s w journal) (at : value_at s.core.flights ticket ≡ Some flight)
    (place : flight.purpose ≡ core.OfRecovery) (logs : AreLogs s journal) where
  abbrev one_of : (one : ℕ × core.Flight) × Among one s.core.flights × (one.1 ≡ flight)
  one_of = flight_at s.core.flights ticket flight at

  arrived_journals : s.core.now ≤ flight.stamp → AreJournals s.core.servers s.core.now (without s.core.flights ticket) (written s.disk flight.sector flight.block) w journal
  arrived_journals early =
      subst (λ (f : core.Flight). AreJournals s.core.servers s.core.now (without s.core.flights ticket) (written s.disk f.sector f.block) w journal) one_of.2
      (written_journals ends s w journal r t logs ticket one_of.0 one_of.1 (ap (λ (f : core.Flight). f.purpose) one_of.2 ∙ place) (subst (λ (f : core.Flight). s.core.now ≤ f.stamp) (sym one_of.2) early))

  -- whoever its server is, and whatever becomes of it but in phase and ring
  servers_so : (servers : ℕ → Server) → ((b : ℕ) → (servers b).phase ≡ (s.core.servers b).phase) → ((b : ℕ) → (servers b).ring ≡ (s.core.servers b).ring) → (disk : Sectors) →
      AreJournals s.core.servers s.core.now (without s.core.flights ticket) disk w journal → AreJournals servers s.core.now (without s.core.flights ticket) disk w journal
  servers_so servers phase ring disk g b who =
      subst (λ p. IsLogOf p (servers b).ring s.core.now (without s.core.flights ticket) disk (sector_log w b) b (journal b)) (sym (phase b))
      (subst (λ x. IsLogOf (s.core.servers b).phase x s.core.now (without s.core.flights ticket) disk (sector_log w b) b (journal b)) (sym (ring b)) (g b who))

  taken_same : {X : Type 0} (f : Server → X) → ((x : Server) → f (acknowledged flight.sector flight.block core.OfRecovery x) ≡ f x) → (b : ℕ) →
      f (put s.core.servers flight.server (acknowledged flight.sector flight.block flight.purpose (s.core.servers flight.server)) b) ≡ f (s.core.servers b)
  taken_same f same b = at_put (λ x. f x ≡ f (s.core.servers b)) s.core.servers flight.server _ b
      (λ e. ap (λ p. f (acknowledged flight.sector flight.block p (s.core.servers flight.server))) place ∙ same (s.core.servers flight.server) ∙ ap (λ n. f (s.core.servers n)) (sym e)) (λ n. refl)

  failed_same : {X : Type 0} (f : Server → X) → ((x : Server) → f (failed_by x) ≡ f x) → (b : ℕ) → f (put s.core.servers flight.server (failed_by (s.core.servers flight.server)) b) ≡ f (s.core.servers b)
  failed_same f same b = at_put (λ x. f x ≡ f (s.core.servers b)) s.core.servers flight.server _ b (λ e. same (s.core.servers flight.server) ∙ ap (λ n. f (s.core.servers n)) (sym e)) (λ n. refl)

  pub seals_written : Makes s (core_events.Arrive ticket) Written → AreJournalsThen s w Written ticket journal
  seals_written m = subst (λ (o : Option core.Flight). AreJournals (arrived_from s.core ticket Written o).servers (arrived_from s.core ticket Written o).now (arrived_from s.core ticket Written o).flights (disk_from s.disk Written o) w journal)
      (sym at) (go flight.present)
    where
      early : s.core.now ≤ flight.stamp
      early = subst (λ o. MayArrive s.core.now o Written) at m.hears

      go : (b : Bool) → AreJournals (if b then with_server (landed s.core ticket) flight.server (acknowledged flight.sector flight.block flight.purpose (s.core.servers flight.server)) else landed s.core ticket).servers
          (if b then with_server (landed s.core ticket) flight.server (acknowledged flight.sector flight.block flight.purpose (s.core.servers flight.server)) else landed s.core ticket).now
          (if b then with_server (landed s.core ticket) flight.server (acknowledged flight.sector flight.block flight.purpose (s.core.servers flight.server)) else landed s.core ticket).flights
          (written s.disk flight.sector flight.block) w journal
      go true = servers_so (put s.core.servers flight.server (acknowledged flight.sector flight.block flight.purpose (s.core.servers flight.server))) (taken_same (λ x. x.phase) (λ x. refl)) (taken_same (λ x. x.ring) (λ x. refl))
          (written s.disk flight.sector flight.block) (arrived_journals early)
      go false = arrived_journals early

  pub seals_broken : (new : Bool) → Makes s (core_events.Arrive ticket) (PutFailed new) → AreJournalsThen s w (PutFailed new) ticket journal
  seals_broken new m = subst (λ (o : Option core.Flight). AreJournals (arrived_from s.core ticket (PutFailed new) o).servers (arrived_from s.core ticket (PutFailed new) o).now (arrived_from s.core ticket (PutFailed new) o).flights
      (disk_from s.disk (PutFailed new) o) w journal) (sym at) (go (flight.server == host_party))
    where
      early : s.core.now ≤ flight.stamp
      early = subst (λ o. MayArrive s.core.now o (PutFailed new)) at m.hears

      disk_so : (b : Bool) → AreJournals s.core.servers s.core.now (without s.core.flights ticket) (disk_with s.disk flight (PutFailed b)) w journal
      disk_so true = arrived_journals early
      disk_so false = kept_journals ends s w journal r t logs ticket one_of.0 one_of.1 (ap (λ (f : core.Flight). f.purpose) one_of.2 ∙ place) (subst (λ (f : core.Flight). s.core.now ≤ f.stamp) (sym one_of.2) early)

      go : (b : Bool) → AreJournals (if b then record (landed s.core ticket) { over = true } else with_server (landed s.core ticket) flight.server (failed_by (s.core.servers flight.server))).servers
          (if b then record (landed s.core ticket) { over = true } else with_server (landed s.core ticket) flight.server (failed_by (s.core.servers flight.server))).now
          (if b then record (landed s.core ticket) { over = true } else with_server (landed s.core ticket) flight.server (failed_by (s.core.servers flight.server))).flights
          (disk_with s.disk flight (PutFailed new)) w journal
      go true = disk_so new
      go false = servers_so (put s.core.servers flight.server (failed_by (s.core.servers flight.server))) (failed_same (λ x. x.phase) (λ x. refl)) (failed_same (λ x. x.ring) (λ x. refl))
          (disk_with s.disk flight (PutFailed new)) (disk_so new)

pub seals_arrive_by_logs : LeasesEnd → SealsArrive → SealsArriveByLogs
seals_arrive_by_logs ends arrives s w journal ticket flight r t at place log none logs m =
    arrives s w journal journal ticket flight r t at place log none m (seals_written ends s w journal ticket flight r t at place logs m)

pub seals_fail_by_logs : LeasesEnd → SealsFail → SealsFailByLogs
seals_fail_by_logs ends fails s w journal ticket flight new r t at place log none logs m =
    fails s w journal journal ticket flight new r t at place log none m (seals_broken ends s w journal ticket flight r t at place logs new m)
