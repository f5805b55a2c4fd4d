-- The first moment of each start: nothing has happened, nobody is mounted, and the disk is that of an opening.
use Rattle.std.proofs.Common.{◌≡◌, ℕ, zero, suc, ◌≤◌, ◌<◌, ◌+◌, ◌*◌, ◌^◌, inl, IsTrue, List, [], None, refl, sym, ap, ◌∙◌, subst, arith}
use Rattle.std.proofs.lemmas.Bool.{false≢true}
use Rattle.std.proofs.lemmas.Bool.Decides.{nat_tests}
use Rattle.std.proofs.lemmas.Option.{none-some}
use Rattle.frang_base.specs.declared.limits.TheConstants.{LOG_SECTORS, SECTOR_BYTES, SERVERS}
use Rattle.tree_definitions.specs.Apply.{is_dir}
use Rattle.tree_definitions.specs.Tree.{FileTree, node_at}
use Rattle.tree_definitions.specs.WellFormed.{IsRooted}
use Rattle.disk_definitions.specs.Logs.{log_end}
use Rattle.disk_definitions.specs.Naming.{Naming}
use Rattle.disk_definitions.specs.Replay.{slots_of}
use Rattle.disk_definitions.proofs.SameLogs.{zero_log_end, zero_log_records}
use Rattle.sector_bytes.specs.Bytes.{zeros}
use Rattle.core_definitions.specs.Cores.{first_core}
use Rattle.core_definitions.specs.LineGuards.{is_server}
use Rattle.core_definitions.specs.Opening.{Start, moment_of}
use Rattle.core_definitions.specs.Runs.{State as RunMoment}
use Rattle.core_definitions.specs.Runs.Run.{Stays}
use Rattle.core_definitions.specs.Settings.{Setting, setting_of}
use Rattle.headline_definitions.specs.Beginning.{IsOpening}
use Rattle.opening_laws.specs.FirstDisks.{IsFirstDisk, OpeningsAreFirstDisks, opened_files, opened_home, opened_logged, opened_world}
use Rattle.opening_laws.specs.Starts.{StartsAreOpenings}
use Rattle.sector_world.specs.World.{World}
use Rattle.core_world.specs.Events.{FirstMomentsAreGood, first_world}
use Rattle.core_world.specs.Journals.{IsAtRest, Journal, journal_at, sector_log}
use Rattle.core_world.specs.Readings.{AllInPlace}
use Rattle.core_world.specs.Steps.{IsWorldOf}
use Rattle.core_world.proofs.First.{first_tied}
use Rattle.core_lives.specs.Room.{FirstMomentsHaveRoom, HasRoom, lines_left}
use Rattle.core_commits.specs.Finished.{number_in}
use Rattle.core_commits.specs.Moments.{IsOfARun}
use Rattle.core_journals.specs.Logs.{LogsRestBehindTheOpening}
use Rattle.core_line_steps.specs.Numbers.{AreNumbered, FirstAreNumbered}
use Rattle.core_laws.proofs.Membership.{contains_in}
use Rattle.core_log_writes.specs.LogWrites.{LogsBeginOpen}
use Rattle.core_log_writes.specs.Marks.{EndsBegin}
use Rattle.core_readings.specs.Logs.{LogsBeginBeside, SealsBeginBehind}
use Rattle.core_recoveries.specs.Seals.{NoneInLogsFirst}
use Rattle.core_writes.specs.Acknowledged.{AcknowledgedFirst}
use Rattle.core_histories.specs.Tellings.{FirstMomentsAreTold}
use Rattle.stop_laws.specs.Events.{IsInSight, StartsAreInSight}
use Rattle.core_runs.specs.Kept.{Further, LogsStand, StandsBeside}
use Rattle.core_runs.specs.Starts.{FirstMomentsAreKept, FurtherBegins, MayBegin, RunsFromStartsAreKept}
use Rattle.core_runs.specs.Steps.{IsKeptAt, RunsAreKept}

pub record FirstLaws : Type 0 where
  pub openings : StartsAreOpenings
  pub disks : OpeningsAreFirstDisks
  pub good : FirstMomentsAreGood
  pub sight : StartsAreInSight
  pub rests : LogsRestBehindTheOpening
  pub logs : LogsBeginBeside
  pub open_ : LogsBeginOpen
  pub sealed : SealsBeginBehind
  pub room : FirstMomentsHaveRoom
  pub numbers : FirstAreNumbered
  pub ends : EndsBegin
  pub none : NoneInLogsFirst
  pub acknowledged : AcknowledgedFirst
  pub told : FirstMomentsAreTold

-- a number that is new to a tree with a root isn't 0
some_number : (n : ℕ) (tree : FileTree) → IsRooted tree → node_at tree n ≡ None → 0 < n
some_number zero tree rooted new = absurd (false≢true (sym (ap is_dir new) ∙ rooted))
some_number (suc n) tree rooted new = omega arith

module _ (laws : FirstLaws) (Else : Further) (start : Start) (when : ℕ → ℕ) (numbers : List ℕ) (begins : MayBegin start when numbers) where
  abbrev setting : Setting
  setting = setting_of start.script start.opening.tree.segments start.opening.run

  abbrev tree : FileTree
  tree = start.opening.tree

  is : IsOpening start.opening start.disk
  is = laws.openings start begins.is begins.sectors

  abbrev naming : Naming
  naming = is.stands.naming

  -- a world over the disk, by the naming under which it stands for the tree
  abbrev w : World
  w = first_world start.disk (opened_logged tree.segments start.disk) (opened_files tree.segments start.disk) (opened_home tree.segments naming)

  abbrev s : RunMoment
  s = moment_of start

  -- no journal counts yet
  abbrev journal : ℕ → Journal
  journal a = journal_at (slots_of start.disk a)

  first : IsFirstDisk tree.segments numbers tree (opened_world SERVERS tree.segments naming start.disk)
  first = laws.disks start.opening start.disk is SERVERS numbers begins.few

  zero_log : (a : ℕ) → IsTrue (is_server a) → (slot : ℕ) → slot < LOG_SECTORS → slots_of start.disk a slot ≡ zeros SECTOR_BYTES
  zero_log a server slot low = is.logs a slot (few a server) low
    where
      few : (a : ℕ) → IsTrue (is_server a) → a < 256
      few a h = grind (arith, nat_tests, h)

  rests : (a : ℕ) → IsTrue (is_server a) → IsAtRest (slots_of start.disk a) (sector_log w a)
  rests a server = record {
    low = low (log_end (slots_of start.disk a)) (zero_log_end (slots_of start.disk a) (zero_log a server));
    sealed = (laws.rests start begins.is a server).sealed;
    old = λ x. subst (λ records. AllInPlace records x ((sector_log w a).versions x)) (sym (zero_log_records (slots_of start.disk a) (zero_log a server))) tt;
  }
    where
      low : (m : ℕ) → m ≡ 255 → LOG_SECTORS ≤ m + 1
      low m e = omega (arith, e)

  is_world : IsWorldOf s w journal
  is_world = record {
    tied = first_tied setting start.disk (opened_logged tree.segments start.disk) (opened_files tree.segments start.disk) (opened_home tree.segments naming);
    journals = λ a server. rests a server;
    readings = λ by recovery who has. absurd (none-some recovery has);
  }

  of_a_run : IsOfARun s w journal when tree numbers
  of_a_run = record {
    reached = record { bytes = begins.bytes; script = start.script; read = begins.read; segments = tree.segments; number = start.opening.run; disk = start.disk; run = Stays };
    whole = λ sector low. is.whole sector;
    world = is_world;
    good = laws.good start.disk (opened_logged tree.segments start.disk) (opened_files tree.segments start.disk) (opened_home tree.segments naming);
    zeros = λ a x free. tt;
    lines = record {
      times = begins.times;
      stands = first.stands;
      legal = record { live = tt; left = tt };
      distinct = tt;
      follows = first.follows;
      parameters = first.parameters;
    };
    sets = λ a under e. absurd (none-some under e);
  }

  numbered : AreNumbered setting (first_core setting).answered w
  numbered =
      laws.numbers setting (first_core setting).answered w refl (λ a. refl)
      (λ line there. some_number (number_in setting line.number) tree is.stands.well_formed.rooted (begins.asked.new line there).new)

  at_start : IsInSight (opened_world SERVERS tree.segments naming start.disk)
  at_start = laws.sight SERVERS start.disk (opened_logged tree.segments start.disk) (opened_files tree.segments start.disk) (opened_home tree.segments naming)

  stands : StandsBeside s w journal when tree numbers
  stands = record {
    run = of_a_run;
    sixteen = refl;
    sight = record {
      saw = at_start.saw;
      showed = at_start.showed;
      rise = at_start.rise;
      below = at_start.below;
      syncs = at_start.syncs;
      mounted = at_start.mounted;
      active = at_start.active;
    };
    known = first.known;
    asked = begins.asked;
    numbered = numbered;
    dirt = record {
      cleared = record { pending = λ a x block m e free. absurd (cc); free = λ a x cached e. absurd (none-some cached e) };
      ends = laws.ends setting start.disk (opened_logged tree.segments start.disk) (opened_files tree.segments start.disk) (opened_home tree.segments naming) journal;
      reached = λ a server mount. absurd (false≢true mount);
    };
    held = λ one lock i. absurd (contains_in [] one i);
    none = laws.none tree.segments start.disk (opened_logged tree.segments start.disk) (opened_files tree.segments start.disk) (opened_home tree.segments naming);
    acknowledged = laws.acknowledged start.disk (opened_logged tree.segments start.disk) (opened_files tree.segments start.disk) (opened_home tree.segments naming);
    regions = λ d x. inl tt;
  }

  has_room : (a : ℕ) → IsTrue (is_server a) → HasRoom s a
  has_room a server = laws.room begins.bytes start.script tree.segments start.opening.run start.disk a begins.read (λ x slot who low. zero_log x who slot low) server

  logs_stand : LogsStand s w journal
  logs_stand = record {
    logs = laws.logs start begins.is journal;
    open_ = laws.open_ setting start.disk journal;
    sealed = laws.sealed setting start.disk w journal;
    room = has_room;
  }

  pub first_kept : FurtherBegins Else → IsKeptAt Else when tree numbers s
  first_kept further =
      let told = laws.told setting start.disk (opened_logged tree.segments start.disk) (opened_files tree.segments start.disk) (opened_home tree.segments naming) when tree numbers in
      record {
        world = w;
        journal = journal;
        kept = record { beside = stands; logs = logs_stand; told = told; further = further start when numbers w journal begins stands logs_stand told };
      }

pub firsts_kept : FirstLaws → (Else : Further) → FirstMomentsAreKept Else
firsts_kept laws Else start when numbers further begins = first_kept laws Else start when numbers begins further

pub starts_kept : (Else : Further) → FirstMomentsAreKept Else → RunsAreKept Else → RunsFromStartsAreKept Else
starts_kept Else first along start when numbers s steps further begins run = along steps when start.opening.tree numbers (moment_of start) s run (first start when numbers further begins)
