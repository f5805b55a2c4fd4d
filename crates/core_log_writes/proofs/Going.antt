-- A write of a server's own log that goes without a trace: the world has nothing of it, so this is none.
use Rattle.std.proofs.Common.{◌≡◌, ℕ, not, IsTrue, [], None, refl, sym, ap, subst}
use Rattle.std.proofs.lemmas.Bool.{false≢true, not-true}
use Rattle.frang_base.specs.Functions.{put}
use Rattle.sector_bytes.specs.SectorMaps.{without}
use Rattle.core_definitions.specs.Cores.{Core}
use Rattle.core_definitions.specs.Effects.{disk_from}
use Rattle.core_definitions.specs.Events as core_events
use Rattle.core_definitions.specs.Events.{Late, Nothing}
use Rattle.core_definitions.specs.Flights as core
use Rattle.core_definitions.specs.Runs.{State as RunMoment, next}
use Rattle.core_definitions.specs.Settings.{setting_of}
use Rattle.core_definitions.specs.WriteEffects.{arrived_from, landed}
use Rattle.core_laws.proofs.Flying.{once_of, sectors_in}
use Rattle.core_laws.proofs.Membership.{contains_in, in_contains}
use Rattle.core_laws.specs.Laws.{SectorsStandOnce}
use Rattle.sector_world.specs.Steps.{stays}
use Rattle.sector_world.specs.World.{World}
use Rattle.core_world.specs.Beside.{AreEnds, AreOpen, NoneFlies}
use Rattle.core_world.specs.Journals.{Journal}
use Rattle.core_world.proofs.Same.{rescues_on}
use Rattle.core_world.specs.Steps.{IsWorldOf}
use Rattle.core_world.specs.Ties.{AreFlying}
use Rattle.core_writes.proofs.Going.{flying_on, put_none}
use Rattle.core_writes.proofs.Journaling.{AreFewer, fewer_journals}
use Rattle.core_writes.proofs.Lists.{fewer_those, from_without}
use Rattle.core_log_writes.proofs.Servers.{logs_place}
use Rattle.core_log_writes.specs.LogWrites.{IsLogFlight, LeadsBy, LogsBeginOpen}
use Rattle.core_log_writes.specs.Gone.{LateLogsAreNone, LostLogsAreNone}

-- a world of a moment is one of each with the same core and disk
pub moved : (m v : RunMoment) (w : World) (journal : ℕ → Journal) → m.core ≡ v.core → m.disk ≡ v.disk → IsWorldOf m w journal → IsWorldOf v w journal
moved m v w journal core_is disk_is t =
    subst (λ d. IsWorldOf (record v { disk = d }) w journal) disk_is (subst (λ c. IsWorldOf (record v { core = c; disk = m.disk }) w journal) core_is (record { tied = t.tied; journals = t.journals; readings = t.readings }))

-- and its logs are open
pub opened : (m v : RunMoment) (journal : ℕ → Journal) → m.core ≡ v.core → m.disk ≡ v.disk → AreOpen m.core.servers m.core.now m.disk journal → AreOpen v.core.servers v.core.now v.disk journal
opened m v journal core_is disk_is o =
    subst (λ d. AreOpen v.core.servers v.core.now d journal) disk_is (subst (λ (c : Core). AreOpen c.servers c.now m.disk journal) core_is o)

module _ (once : SectorsStandOnce) (s : RunMoment) (w : World) (journal : ℕ → Journal) (ticket : ℕ) (flight : core.Flight) (is : IsLogFlight s w journal ticket flight)
    (going : IsTrue (not s.core.over)) where
  abbrev pub moment_left : RunMoment
  moment_left = record s { core = landed s.core ticket }

  none_there : NoneFlies w flight.sector
  none_there = is.none flight.sector (logs_place s is.reached ticket flight is.at is.number is.of_log)

  pub flies_still : AreFlying s.core.setting.segments s.core.now (without s.core.flights ticket) w
  flies_still =
      subst (λ x. AreFlying s.core.setting.segments s.core.now (without s.core.flights ticket) (record w { flight = x })) (put_none w.flight flight.sector none_there.0)
      (subst (λ x. AreFlying s.core.setting.segments s.core.now (without s.core.flights ticket) (record w { flight = put w.flight flight.sector None; byte_flight = x }))
      (put_none w.byte_flight flight.sector none_there.1)
      (flying_on s.core.setting.segments s.core.now s.core.flights ticket flight is.at
      (once_of (sectors_in s.core.flights) (once (setting_of is.reached.script is.reached.segments is.reached.number) is.reached.disk s is.reached.run)) w
      (is.tied.tied.flying (not-true s.core.over going))))

  pub fewer_still : AreFewer (without s.core.flights ticket) s.core.flights
  fewer_still other number i of = in_contains s.core.flights other (from_without s.core.flights ticket other (contains_in (without s.core.flights ticket) other i))

  pub left_world : IsWorldOf moment_left w journal
  left_world = record {
    tied = record {
      lives = is.tied.tied.lives;
      locks = is.tied.tied.locks;
      cached = is.tied.tied.cached;
      marked = is.tied.tied.marked;
      flying = λ e. flies_still;
      disk = is.tied.tied.disk;
      rescues = λ e. rescues_on s.core.servers (without s.core.flights ticket) s.core.flights w (fewer_those s.core.flights ticket) (is.tied.tied.rescues e);
      logged = is.tied.tied.logged;
    };
    journals = fewer_journals s.core.servers s.core.now s.core.flights (without s.core.flights ticket) s.disk w journal fewer_still is.tied.journals;
    readings = is.tied.readings;
  }

  goes_by_none : (v : RunMoment) → moment_left.core ≡ v.core → moment_left.disk ≡ v.disk → LeadsBy w [] v journal
  goes_by_none v core_is disk_is = record {
    quiet = record {
      leads = record { events = []; world = w; run = stays; is = moved moment_left v w journal core_is disk_is left_world };
      story = record { servers = refl; opening = refl; logged = refl; first = refl; home = refl; history = refl };
      quiet = tt;
    };
    by = refl;
    marks = subst (λ (c : Core). AreEnds c.servers w journal) core_is is.marks;
    open_ = opened moment_left v journal core_is disk_is is.open_;
  }

pub late_logs : SectorsStandOnce → LateLogsAreNone
late_logs once s w journal ticket flight is m =
    goes_by_none once s w journal ticket flight is m.can.going (next s (core_events.Arrive ticket) Late) (sym (ap (arrived_from s.core ticket Late) is.at)) (sym (ap (disk_from s.disk Late) is.at))

pub lost_logs : SectorsStandOnce → LostLogsAreNone
lost_logs once s w journal ticket flight is m = goes_by_none once s w journal ticket flight is m.can.going (next s (core_events.Lose ticket) Nothing) refl refl

pub logs_open_first : LogsBeginOpen
logs_open_first setting disk journal a server dead early slot low = absurd (false≢true dead)
