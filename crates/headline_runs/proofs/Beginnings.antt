-- All of it stands beside the first moment: nothing has happened, nobody is mounted, and the logs of the disk of an opening are zero.
use Rattle.std.proofs.Common.{◌≡◌, ℕ, ◌≤◌, ◌<◌, inl, IsTrue, List, [], refl, sym, subst, arith}
use Rattle.std.proofs.lemmas.Bool.{false≢true}
use Rattle.std.proofs.lemmas.Bool.Decides.{nat_tests}
use Rattle.std.specs.List.{Contains}
use Rattle.frang_base.specs.declared.change.Redo.{Redo}
use Rattle.frang_base.specs.declared.limits.TheConstants.{LOG_SECTORS, SECTOR_BYTES, SERVERS}
use Rattle.tree_definitions.specs.Tree.{FileTree}
use Rattle.sector_bytes.specs.Bytes.{zeros}
use Rattle.disk_definitions.specs.Logs.{log_records}
use Rattle.disk_definitions.specs.Naming.{Naming}
use Rattle.disk_definitions.specs.Replay.{slots_of}
use Rattle.disk_definitions.proofs.SameLogs.{zero_log_records}
use Rattle.core_definitions.specs.LineGuards.{is_server}
use Rattle.core_definitions.specs.Runs.{State as RunMoment}
use Rattle.core_laws.proofs.Membership.{contains_in}
use Rattle.sector_world.specs.World.{World}
use Rattle.core_world.specs.Journals.{Journal, journal_at}
use Rattle.core_commit_steps.specs.First.{FirstMomentsStand as CommitsBegin}
use Rattle.core_commit_steps.specs.Moments as commits
use Rattle.core_histories.specs.Tellings.{FirstMomentsAreTold}
use Rattle.core_log_marks.specs.Accounts.{AreUpTo}
use Rattle.core_log_marks.specs.Keeping.{ReportsBegin}
use Rattle.core_log_steps.specs.Steps.{FirstMomentsHaveLogRoom}
use Rattle.core_order.specs.Starting.{FirstMomentsStand as OrderBegins}
use Rattle.core_order.specs.Versions.{VersionsBegin}
use Rattle.core_order.specs.Worlds as order
use Rattle.core_runs.specs.Kept.{LogsStand, StandsBeside}
use Rattle.stop_laws.specs.Events.{IsInSight, StartsAreInSight}
use Rattle.opening_laws.specs.FirstDisks.{IsFirstDisk, OpeningsAreFirstDisks, opened_files, opened_home, opened_logged, opened_world}
use Rattle.headline_definitions.specs.Beginning.{Beginning}
use Rattle.headline_definitions.specs.Laws.{Begins, setting_by}
use Rattle.headline_runs.specs.Along.{BeginningsAreKept, IsKeptFirst}
use Rattle.headline_runs.specs.Asked.{MayBeAsked, ReadScriptsMayBeAsked}
use Rattle.headline_runs.specs.Moments.{first_moment, first_world_of}
use Rattle.headline_runs.proofs.Asked.{from_one}

pub record FirstLaws : Type 0 where
  pub asked : ReadScriptsMayBeAsked
  pub commits : CommitsBegin
  pub order : OrderBegins
  pub disks : OpeningsAreFirstDisks
  pub sight : StartsAreInSight
  pub told : FirstMomentsAreTold
  pub room : FirstMomentsHaveLogRoom
  pub reports : ReportsBegin
  pub versions : VersionsBegin

server_low : (a : ℕ) → IsTrue (is_server a) → a < 256
server_low a h = grind (arith, nat_tests, h)

some : (n : ℕ) → 1 ≤ n → 0 < n
some n h = omega (arith, h)

none_above : (k : ℕ) (records : List Redo) → records ≡ [] → AreUpTo k records
none_above k records e r there = absurd (contains_in [] r (subst (λ (rs : List Redo). Contains rs r) e there))

module _ (laws : FirstLaws) (b : Beginning) (begins : Begins b) where
  abbrev segments : ℕ
  segments = b.opening.tree.segments

  abbrev tree : FileTree
  tree = b.opening.tree

  abbrev naming : Naming
  naming = begins.opening.stands.naming

  x : MayBeAsked b
  x = laws.asked b begins

  abbrev s : RunMoment
  s = first_moment b

  abbrev w : World
  w = first_world_of b begins

  -- no journal counts yet
  abbrev journal : ℕ → Journal
  journal a = journal_at (slots_of b.disk a)

  first : IsFirstDisk segments x.numbers tree (opened_world SERVERS segments naming b.disk)
  first = laws.disks b.opening b.disk begins.opening SERVERS x.numbers x.few

  zero_log : (a : ℕ) → IsTrue (is_server a) → (slot : ℕ) → slot < LOG_SECTORS → slots_of b.disk a slot ≡ zeros SECTOR_BYTES
  zero_log a server slot low = begins.opening.logs a slot (server_low a server) low

  stood : commits.StandsBeside s w journal x.when tree x.numbers
  stood =
      laws.commits begins.bytes b.script segments b.opening.run b.disk (opened_logged segments b.disk) (opened_files segments b.disk) (opened_home segments naming) journal x.when tree x.numbers
      begins.script (λ sector low. begins.opening.whole sector) (λ a slot server low. zero_log a server slot low) x.times first.stands first.follows first.parameters (some (b.opening.run) (from_one b begins)) x.asked

  ordered : order.StandsBeside s w journal
  ordered = laws.order b (opened_logged segments b.disk) (opened_files segments b.disk) (opened_home segments naming) journal begins.opening

  at_start : IsInSight (opened_world SERVERS segments naming b.disk)
  at_start = laws.sight SERVERS b.disk (opened_logged segments b.disk) (opened_files segments b.disk) (opened_home segments naming)

  stands : StandsBeside s w journal x.when tree x.numbers
  stands = record {
    run = stood.run;
    sixteen = refl;
    sight = record {
      saw = at_start.saw;
      showed = at_start.showed;
      rise = at_start.rise;
      below = at_start.below;
      syncs = at_start.syncs;
      mounted = at_start.mounted;
      active = at_start.active;
    };
    known = first.known;
    asked = x.asked;
    numbered = stood.numbered;
    dirt = record { cleared = stood.cleared; ends = stood.ends; reached = λ a server mount. absurd (false≢true mount) };
    held = stood.held;
    none = stood.none;
    acknowledged = stood.acknowledged;
    regions = λ d y. inl tt;
  }

  logs_stand : LogsStand s w journal
  logs_stand = record { logs = ordered.logs; open_ = stood.open_; sealed = ordered.sealed; room = stood.room }

  pub kept_first : IsKeptFirst b begins
  kept_first = record {
    when = x.when;
    numbers = x.numbers;
    journal = journal;
    kept = record {
      beside = stands;
      logs = logs_stand;
      told = laws.told (setting_by b) b.disk (opened_logged segments b.disk) (opened_files segments b.disk) (opened_home segments naming) x.when tree x.numbers;
      further = record {
        room = λ a server. laws.room begins.bytes b.script segments b.opening.run b.disk a begins.script (zero_log a server);
        lasts = stood.lasts;
        accounts = λ a server. record {
          rest = λ off. none_above (w.durable a) (log_records (slots_of b.disk a)) (zero_log_records (slots_of b.disk a) (zero_log a server));
          journal = λ on. absurd (false≢true (sym on));
        };
        reports = laws.reports (setting_by b) b.disk journal;
        versions = laws.versions b journal begins.opening;
        began = record { servers = refl; opening = refl; logged = refl; first = refl; home = refl };
      };
    };
  }

pub beginnings_kept : FirstLaws → BeginningsAreKept
beginnings_kept laws b begins = kept_first laws b begins
