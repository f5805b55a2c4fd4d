-- Nothing has happened at the first moment, no server is mounted, and all logs are zero.
use Rattle.std.proofs.Common.{ℕ, ◌≡◌, ◌≤◌, ◌<◌, ◌+◌, inl, IsTrue, refl, sym, subst, arith}
use Rattle.std.proofs.lemmas.Bool.{false≢true}
use Rattle.std.proofs.lemmas.Bool.Decides.{nat_tests}
use Rattle.std.proofs.lemmas.Option.{none-some}
use Rattle.disk_definitions.proofs.SameLogs.{zero_log_end, zero_log_records}
use Rattle.disk_definitions.specs.Logs.{log_end}
use Rattle.disk_definitions.specs.Replay.{slots_of}
use Rattle.sector_bytes.specs.Bytes.{zeros}
use Rattle.sector_world.specs.World.{World}
use Rattle.sector_world.specs.World.Phase.{Dead, Off}
use Rattle.stop_laws.specs.Events.{IsInSight, StartsAreInSight}
use Rattle.core_definitions.specs.LineGuards.{is_server}
use Rattle.core_definitions.specs.Opening.{moment_of}
use Rattle.core_definitions.specs.Runs.{Stays}
use Rattle.core_definitions.specs.Settings.{Setting, setting_of}
use Rattle.core_journals.specs.Logs.{LogsRestBehindTheOpening}
use Rattle.core_world.proofs.First.{first_tied}
use Rattle.core_world.specs.Events.{FirstMomentsAreGood, first_world}
use Rattle.core_world.specs.Journals.{IsAtRest, Journal, journal_at, sector_log}
use Rattle.core_world.specs.Readings.{AllInPlace}
use Rattle.core_world.specs.Steps.{IsWorldOf}
use Rattle.core_histories.specs.Tellings.{FirstMomentsAreTold}
use Rattle.core_readings.specs.Logs.{LogsBeginBeside, SealsBeginBehind}
use Rattle.headline_definitions.specs.Beginning.{IsOpening}
use Rattle.opening_laws.specs.FirstDisks.{IsFirstDisk, OpeningsAreFirstDisks, opened_files, opened_home, opened_logged, opened_world}
use Rattle.opening_laws.specs.Starts.{StartsAreOpenings}
use Rattle.headline_histories.specs.First.{FirstMomentsMeetWhatIsAsked, beginning_of}
use Rattle.headline_histories.specs.Moments.{IsMomentOf}

pub record FirstLaws : Type 0 where
  pub openings : StartsAreOpenings
  pub disks : OpeningsAreFirstDisks
  pub good : FirstMomentsAreGood
  pub sight : StartsAreInSight
  pub told : FirstMomentsAreTold
  pub rests : LogsRestBehindTheOpening
  pub logs : LogsBeginBeside
  pub seals : SealsBeginBehind

pub first_meet : FirstLaws → FirstMomentsMeetWhatIsAsked
first_meet laws start bytes when numbers is_start read of_bytes times few = record {
  world = w;
  journal = journal;
  moment = moment;
  is = is_world;
  logs = laws.logs start is_start journal;
  sealed = laws.seals setting start.disk w journal;
  regions = λ d x. inl tt;
  keep = record { logs = λ server on. absurd (on refl); closed = λ server is off mounted none. absurd (false≢true mounted) };
  off = λ server is off mounted. absurd (false≢true mounted);
  quiet = record { alive = λ a e. absurd (let z : Off ≡ Dead = e in cc); clean = λ a x. tt; clean_bytes = λ a x. tt };
}
  where
    setting : Setting
    setting = setting_of start.script start.opening.tree.segments start.opening.run

    is : IsOpening start.opening start.disk
    is = laws.openings start is_start of_bytes

    w : World
    w = first_world start.disk (opened_logged start.opening.tree.segments start.disk) (opened_files start.opening.tree.segments start.disk) (opened_home start.opening.tree.segments is.stands.naming)

    journal : ℕ → Journal
    journal a = journal_at (slots_of start.disk a)

    first : IsFirstDisk start.opening.tree.segments numbers start.opening.tree (opened_world 16 start.opening.tree.segments is.stands.naming start.disk)
    first = laws.disks start.opening start.disk is 16 numbers few

    at_start : IsInSight (opened_world 16 start.opening.tree.segments is.stands.naming start.disk)
    at_start = laws.sight 16 start.disk (opened_logged start.opening.tree.segments start.disk) (opened_files start.opening.tree.segments start.disk) (opened_home start.opening.tree.segments is.stands.naming)

    zero_log : (a : ℕ) → IsTrue (is_server a) → (slot : ℕ) → slot < 256 → slots_of start.disk a slot ≡ zeros 512
    zero_log a server slot low = is.logs a slot (below a server) low
      where
        below : (a : ℕ) → IsTrue (is_server a) → a < 256
        below a h = grind (arith, nat_tests, h)

    rests : (a : ℕ) → IsTrue (is_server a) → IsAtRest (slots_of start.disk a) (sector_log w a)
    rests a server = record {
      low = low (log_end (slots_of start.disk a)) (zero_log_end (slots_of start.disk a) (zero_log a server));
      sealed = (laws.rests start is_start a server).sealed;
      old = λ x. subst (λ records. AllInPlace records x ((sector_log w a).versions x)) (sym (zero_log_records (slots_of start.disk a) (zero_log a server))) tt;
    }
      where
        low : (m : ℕ) → m ≡ 255 → 256 ≤ m + 1
        low m e = omega (arith, e)

    is_world : IsWorldOf (moment_of start) w journal
    is_world = record {
      tied = first_tied setting start.disk (opened_logged start.opening.tree.segments start.disk) (opened_files start.opening.tree.segments start.disk) (opened_home start.opening.tree.segments is.stands.naming);
      journals = λ a server. rests a server;
      readings = λ by recovery who has. absurd (none-some recovery has);
    }

    moment : IsMomentOf (beginning_of start) (moment_of start) w when numbers
    moment = record {
      begins = record { bytes = bytes; script = read; opening = is; logs = refl };
      run = Stays;
      lives = is_world.tied.lives;
      sixteen = refl;
      began = record { servers = refl; opening = refl; logged = refl; first = refl; home = refl };
      lines = record {
        times = times;
        stands = first.stands;
        legal = record { live = tt; left = tt };
        distinct = tt;
        follows = first.follows;
        parameters = first.parameters;
      };
      good = laws.good start.disk (opened_logged start.opening.tree.segments start.disk) (opened_files start.opening.tree.segments start.disk) (opened_home start.opening.tree.segments is.stands.naming);
      sight = record {
        saw = at_start.saw;
        showed = at_start.showed;
        rise = at_start.rise;
        below = at_start.below;
        syncs = at_start.syncs;
        mounted = at_start.mounted;
        active = at_start.active;
      };
      told = laws.told setting start.disk (opened_logged start.opening.tree.segments start.disk) (opened_files start.opening.tree.segments start.disk) (opened_home start.opening.tree.segments is.stands.naming)
          when start.opening.tree numbers;
    }
