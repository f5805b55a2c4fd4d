-- A write of a server's own log that arrives or fails in time, step by step: its sector stands on the disk, its number is acknowledged, or its server has failed.
use Rattle.std.proofs.Common.{◌≡◌, ℕ, ◌+◌, ◌<◌, ◌≤◌, ◌==◌, Bool, true, false, not, if◌then◌else◌, IsTrue, [], ◌∷◌, Some, refl, sym, ap, ◌∙◌, subst, le_trans, arith}
use Rattle.std.proofs.lemmas.Bool.{eq-eqb, false≢true, ltb-true, ne_eqb}
use Rattle.frang_base.specs.declared.limits.TheConstants.{LEASE_TICKS}
use Rattle.frang_base.proofs.Basics.{put_same}
use Rattle.disk_definitions.proofs.Listed.{Among}
use Rattle.sector_bytes.specs.SectorMaps.{value_at, without}
use Rattle.disk_definitions.specs.Replay.{slots_of}
use Rattle.ring_definitions.specs.RingRuns.{may_happen}
use Rattle.ring_definitions.specs.RingRuns.LogEvent.{Acknowledge}
use Rattle.core_definitions.specs.Cores.{Core, with_server}
use Rattle.core_definitions.specs.Effects.{MayArrive, disk_from}
use Rattle.core_definitions.specs.Events as core_events
use Rattle.core_definitions.specs.Events.{PutFailed, Written}
use Rattle.core_definitions.specs.Flights as core
use Rattle.core_definitions.specs.Flights.{Flights}
use Rattle.core_definitions.specs.LineEffects.{failed_by}
use Rattle.core_definitions.specs.LineGuards.{is_server}
use Rattle.core_definitions.specs.Logs.{log_sector}
use Rattle.core_definitions.specs.Runs.{State as RunMoment, next}
use Rattle.core_definitions.specs.Scripts.{host_party}
use Rattle.core_definitions.specs.Servers.{is_dead, is_off}
use Rattle.core_definitions.specs.Settings.{disk_logs, setting_of}
use Rattle.core_definitions.specs.WriteEffects.{acknowledged, arrived_from, landed}
use Rattle.core_facts.specs.Stamps.{StampsAreWithinLeases}
use Rattle.core_facts.proofs.Reading.{Arriving, Placed, facts_of, reads_of_run}
use Rattle.core_journals.specs.Journals as stands
use Rattle.core_journals.proofs.JournalSteps.{ack_may}
use Rattle.core_laws.proofs.FlightLists.{in_flights}
use Rattle.core_laws.proofs.Flying.{Once, sectors_in}
use Rattle.core_laws.proofs.Membership.{contains_in, in_contains}
use Rattle.core_laws.specs.Laws.{SectorsStandOnce}
use Rattle.core_laws.specs.Leases.{LeasesEnd}
use Rattle.sector_world.specs.Guards.{CanReach}
use Rattle.sector_world.specs.Steps.{stays, goes}
use Rattle.sector_world.specs.Steps.Event.{Ack, Fail, Reach}
use Rattle.sector_world.specs.World.{World}
use Rattle.core_world.specs.Beside.{AreEnds, AreOpen}
use Rattle.core_world.specs.Journals.{IsJournal, Journal, sector_log}
use Rattle.core_world.specs.Steps.{IsReached, IsWorldOf}
use Rattle.core_world.specs.Ties.{AreFlying}
use Rattle.core_writes.proofs.Journaling.{AreFewer}
use Rattle.core_writes.proofs.Landing.{arriving_there, once_there}
use Rattle.core_writes.proofs.Lists.{from_without, gone_at, other_without}
use Rattle.core_log_writes.specs.Arrivals.{Acknowledges, LeftLogsGrow, LiveLogsGrow, Reaches}
use Rattle.core_log_writes.specs.LogWrites.{IsLogFlight, LeadsBy}
use Rattle.core_log_writes.specs.Failures.{NewLogsFail, OldLogsFail, ReachesAndFails}
use Rattle.core_log_writes.proofs.Acknowledging as known
use Rattle.core_log_writes.proofs.Failing as failed
use Rattle.core_log_writes.proofs.Going.{fewer_still, flies_still, left_world, moment_left, moved, opened}
use Rattle.core_log_writes.proofs.Keeping.{as_journal, as_standing, on_disk, standing}
use Rattle.core_log_writes.proofs.Reaching as reached
use Rattle.core_log_writes.proofs.Reaching.{AreOthers, NoneRecovers, StandsAsLeft}
use Rattle.core_log_writes.proofs.Servers.{logs_server}

-- a server isn't the host
pub no_host : (a : ℕ) → IsTrue (is_server a) → (a == host_party) ≡ false
no_host a who = ne_eqb a host_party (λ e. absurd (apart a (ltb-true a 16 who) e))
  where
    apart : (n : ℕ) → n < 16 → n ≡ 255 → ⊥
    apart n h e = absurd (omega (arith, h, e))

module _ (ends : LeasesEnd) (once : SectorsStandOnce) (within : StampsAreWithinLeases) (s : RunMoment) (w : World) (journal : ℕ → Journal) (ticket : ℕ) (flight : core.Flight)
    (is : IsLogFlight s w journal ticket flight) (going : IsTrue (not s.core.over)) (early : s.core.now ≤ flight.stamp) where
  abbrev a : ℕ
  a = flight.server

  abbrev rest : Flights
  rest = without s.core.flights ticket

  one : (one : ℕ × core.Flight) × Among one s.core.flights × (one.1 ≡ flight)
  one = gone_at s.core.flights ticket flight is.at

  its_server : IsTrue (is_server flight.server)
  its_server = logs_server s is.reached ticket flight is.at is.number is.of_log

  arriving : Arriving s flight
  arriving = arriving_there ends once s is.reached ticket flight is.at early

  once_now : Once (sectors_in s.core.flights)
  once_now = once_there ends once s is.reached ticket flight is.at early

  place : flight.sector ≡ log_sector disk_logs a is.number
  place = arriving.of_log is.number is.of_log

  awake : is_off (s.core.servers a).phase ≡ false
  awake = go (is_off (s.core.servers a).phase) refl
    where
      go : (b : Bool) → is_off (s.core.servers a).phase ≡ b → b ≡ false
      go true e = absurd (arriving.not_off a its_server e refl)
      go false e = refl

  -- ---- its journal

  old : IsJournal (s.core.servers a).phase (s.core.servers a).ring s.core.now s.core.flights s.disk (sector_log w a) a (journal a)
  old = as_journal (s.core.servers a).ring s.core.now s.core.flights s.disk (sector_log w a) a (journal a) (s.core.servers a).phase awake (is.tied.journals a its_server)

  old_standing : stands.IsJournal (s.core.servers a).ring s.core.now s.core.flights a (standing (journal a))
  old_standing = as_standing (s.core.servers a).phase (s.core.servers a).ring s.core.now s.core.flights s.disk (sector_log w a) a (journal a) old

  sent : stands.IsSent (journal a).log.flying is.number flight.block
  sent =
      subst (λ (f : core.Flight). stands.IsSent (journal a).log.flying is.number f.block) one.2
      (old_standing.sent one.0 is.number (in_contains s.core.flights one.0 one.1) (ap (λ (f : core.Flight). f.server) one.2) (ap (λ (f : core.Flight). f.purpose) one.2 ∙ is.of_log)
      (subst (λ (f : core.Flight). s.core.now ≤ f.stamp) (sym one.2) early))

  fewer : AreFewer rest s.core.flights
  fewer = fewer_still once s w journal ticket flight is going

  -- of another number, since it is of another sector
  others : AreOthers (standing (journal a)) is.number s.core.now rest a
  others other n i by of soon = (old_standing.sent other n (in_contains s.core.flights other was) by of soon, λ e. other_without s.core.flights ticket flight other once_now is.at (contains_in rest other i) (same e))
    where
      was : Among other s.core.flights
      was = from_without s.core.flights ticket other (contains_in rest other i)

      at_slot : other.1.sector ≡ log_sector disk_logs other.1.server n
      at_slot =
          ((facts_of ends is.reached.script is.reached.segments is.reached.number is.reached.disk s is.reached.run).arriving other was soon
          (in_flights Placed s.core.flights other was (reads_of_run ends is.reached.script is.reached.segments is.reached.number is.reached.disk s is.reached.run).placed)).of_log n of

      same : n ≡ is.number → other.1.sector ≡ flight.sector
      same e = at_slot ∙ ap (λ d. log_sector disk_logs d n) by ∙ ap (log_sector disk_logs a) e ∙ sym place

  -- ---- its lease, and what else is known

  under : s.core.now ≤ (s.core.servers a).expiry
  under =
      le_trans early
      (subst (λ (f : core.Flight). f.stamp ≤ (s.core.servers f.server).expiry) one.2
      (within (setting_of is.reached.script is.reached.segments is.reached.number) is.reached.disk s is.reached.run one.0 (in_contains s.core.flights one.0 one.1)
      (λ e. no_server one.0.1.server (subst (λ (f : core.Flight). IsTrue (is_server f.server)) (sym one.2) its_server) e)))
    where
      no_server : (n : ℕ) → IsTrue (is_server n) → n ≡ host_party → ⊥
      no_server n who e = false≢true (sym (no_host n who) ∙ eq-eqb n host_party e)

  lease : w.now ≤ w.expiry a
  lease =
      subst (λ n. n ≤ w.expiry a) (sym is.tied.tied.lives.now)
      (subst (λ n. s.core.now ≤ n) (sym (is.tied.tied.lives.expiry a ∙ ap (λ b. if b then s.core.now + LEASE_TICKS else (s.core.servers a).expiry) (no_host a its_server))) under)

  unread : NoneRecovers s a
  unread by recovery works has e = arriving.not_dead by recovery works has (sym e)

  flies : AreFlying s.core.setting.segments s.core.now rest w
  flies = flies_still once s w journal ticket flight is going

  -- the log stands as its journal has it: its server lives, or its lease isn't over
  left : StandsAsLeft s journal a
  left slot low = go (is_dead (s.core.servers a).phase) refl
    where
      go : (b : Bool) → is_dead (s.core.servers a).phase ≡ b → slots_of s.disk a slot ≡ (journal a).log.slots slot
      go true e = is.open_ a its_server e under slot low
      go false e = on_disk (s.core.servers a).phase (journal a).log.slots slot (slots_of s.disk a slot) e (old.slots slot low)

  -- ---- its sector stands on the disk

  abbrev moment_one : RunMoment
  moment_one = reached.moment_then s w journal is.tied is.good a its_server awake left ticket flight.sector is.number flight.block place sent others lease unread fewer flies

  abbrev world_one : World
  world_one = reached.world_then s w journal is.tied is.good a its_server awake left ticket flight.sector is.number flight.block place sent others lease unread fewer flies

  abbrev journals_one : ℕ → Journal
  journals_one = reached.journals_then s w journal is.tied is.good a its_server awake left ticket flight.sector is.number flight.block place sent others lease unread fewer flies

  abbrev journal_one : Journal
  journal_one = reached.journal_then s w journal is.tied is.good a its_server awake left ticket flight.sector is.number flight.block place sent others lease unread fewer flies

  abbrev durable_one : ℕ
  durable_one = reached.durable_now s w journal is.tied is.good a its_server awake left ticket flight.sector is.number flight.block place sent others lease unread fewer flies

  can_one : CanReach w a durable_one
  can_one = reached.may_reach s w journal is.tied is.good a its_server awake left ticket flight.sector is.number flight.block place sent others lease unread fewer flies

  more_one : w.durable a ≤ durable_one
  more_one = reached.reach_more s w journal is.tied is.good a its_server awake left ticket flight.sector is.number flight.block place sent others lease unread fewer flies

  is_one : IsWorldOf moment_one world_one journals_one
  is_one = reached.reached_world s w journal is.tied is.good a its_server awake left ticket flight.sector is.number flight.block place sent others lease unread fewer flies

  ends_one : AreEnds s.core.servers world_one journals_one
  ends_one = reached.reached_ends s w journal is.tied is.good a its_server awake left ticket flight.sector is.number flight.block place sent others lease unread fewer flies is.marks

  open_one : AreOpen s.core.servers s.core.now moment_one.disk journals_one
  open_one = reached.reached_open s w journal is.tied is.good a its_server awake left ticket flight.sector is.number flight.block place sent others lease unread fewer flies is.open_

  reaches : (v : RunMoment) → moment_one.core ≡ v.core → moment_one.disk ≡ v.disk → Reaches w a v journals_one
  reaches v core_is disk_is = record {
    durable = durable_one;
    more = more_one;
    leads = record {
      quiet = record {
        leads = record {
          events = Reach a durable_one ∷ [];
          world = world_one;
          run = goes can_one stays;
          is = moved moment_one v world_one journals_one core_is disk_is is_one;
        };
        story = record { servers = refl; opening = refl; logged = refl; first = refl; home = refl; history = refl };
        quiet = (tt, tt);
      };
      by = refl;
      marks = subst (λ (c : Core). AreEnds c.servers world_one journals_one) core_is ends_one;
      open_ = opened moment_one v journals_one core_is disk_is open_one;
    };
  }

  -- ---- and its number is acknowledged

  may_one : may_happen (journals_one a).log (Acknowledge is.number) ≡ true
  may_one =
      subst (λ (j : Journal). may_happen j.log (Acknowledge is.number) ≡ true) (sym (put_same journal a journal_one))
      (ack_may (s.core.servers a).ring s.core.now s.core.flights a (standing (journal a)) old_standing is.number sent.sector sent.there sent.number_is)

  acks_one : world_one.acked a ≤ world_one.durable a
  acks_one = subst (λ n. w.acked a ≤ n) (sym (put_same w.durable a durable_one)) (le_trans (is.good.logged.acks a) more_one)

  abbrev moment_two : RunMoment
  moment_two = known.moment_then moment_one world_one journals_one is_one is.good.logged.ops a acks_one its_server awake is.number may_one ends_one

  abbrev world_two : World
  world_two = known.world_then moment_one world_one journals_one is_one is.good.logged.ops a acks_one its_server awake is.number may_one ends_one

  abbrev journals_two : ℕ → Journal
  journals_two = known.journals_then moment_one world_one journals_one is_one is.good.logged.ops a acks_one its_server awake is.number may_one ends_one

  abbrev acked_two : ℕ
  acked_two = known.acked_now moment_one world_one journals_one is_one is.good.logged.ops a acks_one its_server awake is.number may_one ends_one

  known_two : w.acked a ≤ acked_two
  known_two = known.known_more moment_one world_one journals_one is_one is.good.logged.ops a acks_one its_server awake is.number may_one ends_one

  acknowledges : (v : RunMoment) → moment_two.core ≡ v.core → moment_two.disk ≡ v.disk → Acknowledges w a v journals_two
  acknowledges v core_is disk_is = record {
    durable = durable_one;
    acked = acked_two;
    more = more_one;
    known = known_two;
    leads = record {
      quiet = record {
        leads = record {
          events = Reach a durable_one ∷ Ack a acked_two ∷ [];
          world = world_two;
          run = goes can_one (goes (known.may_ack moment_one world_one journals_one is_one is.good.logged.ops a acks_one its_server awake is.number may_one ends_one) stays);
          is = moved moment_two v world_two journals_two core_is disk_is
              (known.known_world moment_one world_one journals_one is_one is.good.logged.ops a acks_one its_server awake is.number may_one ends_one);
        };
        story = record { servers = refl; opening = refl; logged = refl; first = refl; home = refl; history = refl };
        quiet = (tt, (known_two, tt));
      };
      by = refl;
      marks = subst (λ (c : Core). AreEnds c.servers world_two journals_two) core_is
          (known.known_ends moment_one world_one journals_one is_one is.good.logged.ops a acks_one its_server awake is.number may_one ends_one);
      open_ = opened moment_two v journals_two core_is disk_is
          (known.known_open moment_one world_one journals_one is_one is.good.logged.ops a acks_one its_server awake is.number may_one ends_one open_one);
    };
  }

  -- ---- or its server has failed

  abbrev moment_three : RunMoment
  moment_three = failed.moment_then moment_one world_one journals_one is_one a

  abbrev world_three : World
  world_three = failed.world_then moment_one world_one journals_one is_one a

  reaches_and_fails : (v : RunMoment) → moment_three.core ≡ v.core → moment_three.disk ≡ v.disk → ReachesAndFails w a v journals_one
  reaches_and_fails v core_is disk_is = record {
    durable = durable_one;
    more = more_one;
    leads = record {
      quiet = record {
        leads = record {
          events = Reach a durable_one ∷ Fail a ∷ [];
          world = world_three;
          run = goes can_one (goes tt stays);
          is = moved moment_three v world_three journals_one core_is disk_is (failed.failed_world moment_one world_one journals_one is_one a);
        };
        story = record { servers = refl; opening = refl; logged = refl; first = refl; home = refl; history = refl };
        quiet = (tt, (tt, tt));
      };
      by = refl;
      marks = subst (λ (c : Core). AreEnds c.servers world_three journals_one) core_is (failed.failed_ends moment_one world_one journals_one is_one a ends_one);
      open_ = opened moment_three v journals_one core_is disk_is (failed.failed_open moment_one world_one journals_one is_one a open_one);
    };
  }

  -- ---- its sector doesn't stand on the disk, and its server has failed

  abbrev moment_gone : RunMoment
  moment_gone = moment_left once s w journal ticket flight is going

  is_gone : IsWorldOf moment_gone w journal
  is_gone = left_world once s w journal ticket flight is going

  abbrev moment_failed : RunMoment
  moment_failed = failed.moment_then moment_gone w journal is_gone a

  abbrev world_failed : World
  world_failed = failed.world_then moment_gone w journal is_gone a

  fails : (v : RunMoment) → moment_failed.core ≡ v.core → moment_failed.disk ≡ v.disk → LeadsBy w (Fail a ∷ []) v journal
  fails v core_is disk_is = record {
    quiet = record {
      leads = record {
        events = Fail a ∷ [];
        world = world_failed;
        run = goes tt stays;
        is = moved moment_failed v world_failed journal core_is disk_is (failed.failed_world moment_gone w journal is_gone a);
      };
      story = record { servers = refl; opening = refl; logged = refl; first = refl; home = refl; history = refl };
      quiet = (tt, tt);
    };
    by = refl;
    marks = subst (λ (c : Core). AreEnds c.servers world_failed journal) core_is (failed.failed_ends moment_gone w journal is_gone a is.marks);
    open_ = opened moment_failed v journal core_is disk_is (failed.failed_open moment_gone w journal is_gone a is.open_);
  }

-- ---- what the core makes of it

module _ (s : RunMoment) (ticket : ℕ) (flight : core.Flight) (at : value_at s.core.flights ticket ≡ Some flight) where
  abbrev taken : Bool → core.Purpose → Core
  taken present purpose =
      if present then with_server (landed s.core ticket) flight.server (acknowledged flight.sector flight.block purpose (s.core.servers flight.server)) else landed s.core ticket

  taken_is : (number : ℕ) (present : Bool) → flight.purpose ≡ core.OfLog number → flight.present ≡ present → taken present (core.OfLog number) ≡ (next s (core_events.Arrive ticket) Written).core
  taken_is number present of is = sym (ap (arrived_from s.core ticket Written) at ∙ ap (λ b. taken b flight.purpose) is ∙ ap (taken present) of)

  failed_is : (new : Bool) → IsTrue (is_server flight.server) →
      with_server (landed s.core ticket) flight.server (failed_by (s.core.servers flight.server)) ≡ (next s (core_events.Arrive ticket) (PutFailed new)).core
  failed_is new who =
      sym (ap (arrived_from s.core ticket (PutFailed new)) at
      ∙ ap (λ b. if b then record (landed s.core ticket) { over = true } else with_server (landed s.core ticket) flight.server (failed_by (s.core.servers flight.server))) (no_host flight.server who))

pub live_logs_grow : LeasesEnd → SectorsStandOnce → StampsAreWithinLeases → LiveLogsGrow
live_logs_grow ends once within s w journal ticket flight is present m =
    acknowledges ends once within s w journal ticket flight is m.can.going early
    (next s (core_events.Arrive ticket) Written) (taken_is s ticket flight is.at is.number true is.of_log present) (sym (ap (disk_from s.disk Written) is.at))
  where
    early : s.core.now ≤ flight.stamp
    early = subst (λ o. MayArrive s.core.now o Written) is.at m.hears

pub left_logs_grow : LeasesEnd → SectorsStandOnce → StampsAreWithinLeases → LeftLogsGrow
left_logs_grow ends once within s w journal ticket flight is stays_ m =
    reaches ends once within s w journal ticket flight is m.can.going early
    (next s (core_events.Arrive ticket) Written) (taken_is s ticket flight is.at is.number false is.of_log stays_) (sym (ap (disk_from s.disk Written) is.at))
  where
    early : s.core.now ≤ flight.stamp
    early = subst (λ o. MayArrive s.core.now o Written) is.at m.hears

pub new_logs_fail : LeasesEnd → SectorsStandOnce → StampsAreWithinLeases → NewLogsFail
new_logs_fail ends once within s w journal ticket flight is m =
    reaches_and_fails ends once within s w journal ticket flight is m.can.going early
    (next s (core_events.Arrive ticket) (PutFailed true)) (failed_is s ticket flight is.at true (logs_server s is.reached ticket flight is.at is.number is.of_log)) (sym (ap (disk_from s.disk (PutFailed true)) is.at))
  where
    early : s.core.now ≤ flight.stamp
    early = subst (λ o. MayArrive s.core.now o (PutFailed true)) is.at m.hears

pub old_logs_fail : LeasesEnd → SectorsStandOnce → StampsAreWithinLeases → OldLogsFail
old_logs_fail ends once within s w journal ticket flight is m =
    fails ends once within s w journal ticket flight is m.can.going early
    (next s (core_events.Arrive ticket) (PutFailed false)) (failed_is s ticket flight is.at false (logs_server s is.reached ticket flight is.at is.number is.of_log)) (sym (ap (disk_from s.disk (PutFailed false)) is.at))
  where
    early : s.core.now ≤ flight.stamp
    early = subst (λ o. MayArrive s.core.now o (PutFailed false)) is.at m.hears
