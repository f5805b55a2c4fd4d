-- A write of a replay that fails in time is Break or BreakNew: its recovery can't end then, or it is over where it is the host's.
use Rattle.std.proofs.Common.{◌≡◌, ◌⊎◌, ℕ, ◌<◌, ◌≤◌, ◌==◌, Bool, true, false, not, ◌&&◌, ◌||◌, if◌then◌else◌, IsTrue, List, [], ◌∷◌, Option, Some, None, nat_eq, le_refl, refl, sym, ap, ◌∙◌, subst, inl, inr, ⊎_elim, arith}
use Rattle.std.proofs.lemmas.Bool.{eqb-true, false≢true, ne_eqb}
use Rattle.std.proofs.lemmas.Option.{none-some}
use Rattle.frang_base.specs.Functions.{put}
use Rattle.frang_base.proofs.Basics.{at_put}
use Rattle.frang_outside.specs.Disk.{written}
use Rattle.disk_definitions.specs.Replay.{slots_of}
use Rattle.sector_bytes.specs.Blocks.{Block, version_of}
use Rattle.sector_bytes.specs.Replays.{redo_all}
use Rattle.sector_bytes.specs.SectorMaps.{value_at, without}
use Rattle.sector_bytes.specs.Sectors.{Sectors}
use Rattle.core_definitions.specs.Cores.{Core, with_server}
use Rattle.core_definitions.specs.Effects.{MayArrive, disk_from}
use Rattle.core_definitions.specs.Events as core_events
use Rattle.core_definitions.specs.Events.{PutFailed}
use Rattle.core_definitions.specs.Flights as core
use Rattle.core_definitions.specs.Flights.{Flights}
use Rattle.core_definitions.specs.LineEffects.{failed_by}
use Rattle.core_definitions.specs.LineGuards.{is_server}
use Rattle.core_definitions.specs.Recoveries.{Recovery}
use Rattle.core_definitions.specs.Runs.{State as RunMoment, next}
use Rattle.core_definitions.specs.Scripts.{host_party}
use Rattle.core_definitions.specs.Servers.{Server, is_in_mount, is_up}
use Rattle.core_definitions.specs.WriteEffects.{arrived_from, landed as landed_core}
use Rattle.core_facts.specs.Holds.{WhoRecoversHolds}
use Rattle.core_facts.specs.Rescues.{RescuesAreByHolders}
use Rattle.core_laws.proofs.Membership.{contains_in, in_contains}
use Rattle.core_laws.specs.Laws.{SectorsStandOnce}
use Rattle.core_laws.specs.Leases.{LeasesEnd}
use Rattle.sector_world.specs.Claims.{or_else}
use Rattle.sector_world.specs.Guards.{to_replay}
use Rattle.sector_world.specs.Kinds.{Good}
use Rattle.sector_world.specs.Steps.{Event, Run, rescue_broken, stays, goes}
use Rattle.sector_world.specs.Steps.Event.{Break, BreakNew}
use Rattle.sector_world.specs.World.{World, Flight, Off, Up, Rescue, block_at, has_version}
use Rattle.sector_world.proofs.OneDisk.{one_disk_good}
use Rattle.core_world.specs.Events.{HostsAreOff, LeadsQuietly}
use Rattle.core_world.specs.Journals.{AreJournals, AreReadings, Journal, sector_log}
use Rattle.core_world.specs.Quiet.{AllQuiet}
use Rattle.core_world.specs.Steps.{IsReached, IsWorldOf}
use Rattle.core_world.specs.Ties.{AreFlying, AreRescues, AreTied, IsRescueOf, IsStuck, is_log_sector, is_working, phase_of}
use Rattle.core_writes.proofs.Journaling.{AreFewer, fewer_journals, landed_log}
use Rattle.core_writes.proofs.Landing.{disk_same, once_there}
use Rattle.core_writes.proofs.Lists.{from_without, other_without}
use Rattle.core_recoveries.proofs.But.{IsBut, cached_but, journals_but, lives_but, logged_but, marked_but, same_but}
use Rattle.core_recoveries.proofs.Failed.{broken_but, broken_readings, broken_recovery, broken_well, mounted_up, or_right, servers_broken}
use Rattle.core_recoveries.proofs.RescueLanding.{IsOwed, fewer_known, flies, high, known_now, owed, rescuer, rises, still_new, there, versioned, world_early}
use Rattle.core_recoveries.specs.Failures.{HostRescuesFail, HostWritesFail, RescuesFail}

-- ---- in the world, whatever becomes of its server

module _ (hosts : HostsAreOff) (ends : LeasesEnd) (once : SectorsStandOnce) (holders : RescuesAreByHolders) (held : WhoRecoversHolds) (s : RunMoment) (w : World) (journal : ℕ → Journal) (ticket : ℕ) (flight : core.Flight)
    (r : IsReached s) (t : IsWorldOf s w journal) (g : Good w) (going : IsTrue (not s.core.over)) (at : value_at s.core.flights ticket ≡ Some flight) (place : flight.purpose ≡ core.OfRecovery)
    (out : is_log_sector s.core.setting.segments flight.sector ≡ false) (early : s.core.now ≤ flight.stamp) where
  abbrev a : ℕ
  a = flight.server

  abbrev d : ℕ
  d = flight.behalf

  abbrev sector : ℕ
  sector = flight.sector

  abbrev rest : Flights
  rest = without s.core.flights ticket

  v : has_version w sector ≡ true
  v = versioned hosts ends once holders held s w journal ticket flight r t g going at place out early

  early_here : w.now ≤ flight.stamp
  early_here = world_early hosts ends once holders held s w journal ticket flight r t g going at place out early

  high_here : 4294967296 ≤ sector
  high_here = high hosts ends once holders held s w journal ticket flight r t g going at place out early

  abbrev f : Flight
  f = record { by = a; behalf = d; stamp = flight.stamp; block = flight.block }

  f_there : w.flight sector ≡ Some f
  f_there = there hosts ends once holders held s w journal ticket flight r t g going at place out early v

  flies_here : AreFlying s.core.setting.segments s.core.now rest (record w { flight = put w.flight sector None })
  flies_here = flies hosts ends once holders held s w journal ticket flight r t g going at place out early v

  others_on : (b : ℕ) (x : Recovery) → (b ≡ a → ⊥) → IsRescueOf b x w.rescue → IsRescueOf b x (rescue_broken d w.rescue)
  others_on b x n q = record {
    r = q.r;
    is = ap (rescue_broken d) q.is ∙ ap (λ c. if c then None else Some q.r)
        (ne_eqb q.r.dead d (λ e. n (sym q.who ∙ rescuer hosts ends once holders held s w journal ticket flight r t g going at place out early v q.r q.is e)));
    dead = q.dead;
    who = q.who;
    told = q.told;
  }

  known_on : (p : Rescue) → rescue_broken d w.rescue ≡ Some p → w.rescue ≡ Some p
  known_on p = go w.rescue
    where
      go : (o : Option Rescue) → rescue_broken d o ≡ Some p → o ≡ Some p
      go None e = e
      go (Some q) e = by (nat_eq q.dead d) e
        where
          by : (c : Bool) → (if c then None else Some q) ≡ Some p → Some q ≡ Some p
          by true i = absurd (none-some p i)
          by false i = i

  fewer : AreFewer rest s.core.flights
  fewer one number i of = in_contains s.core.flights one (from_without s.core.flights ticket one (contains_in rest one i))

  le_le : (x y z : ℕ) → x ≤ y → y ≤ z → x ≤ z
  le_le x y z i j = omega (arith, i, j)

  -- with these servers then, and over or not
  module _ (later : ℕ → Server) (but : IsBut later s.core.servers) (over : Bool) (well : (b : ℕ) → (later b).failed ≡ false → w.phase b ≡ Up → put w.sick a true b ≡ false)
      (rescued : over ≡ false → AreRescues later rest (record w { rescue = rescue_broken d w.rescue }))
      (read : (u : World) → AreReadings s.core.setting.segments s.core.servers u → AreReadings s.core.setting.segments later u) where
    abbrev core_then : Core
    core_then = record s.core { flights = rest; servers = later; over = over }

    module _ (dk : ℕ → Block) (disk : Sectors) (events : List Event) (quiet : AllQuiet s.core.setting.segments w events)
        (run : Run w events (record w { flight = put w.flight sector None; sick = put w.sick a true; rescue = rescue_broken d w.rescue; disk = dk }))
        (disk_is : (x : ℕ) → is_log_sector s.core.setting.segments x ≡ false → (if has_version w x then dk x else w.bytes x) ≡ disk x) (rising : (x : ℕ) → version_of (w.disk x) ≤ version_of (dk x))
        (slots : (b : ℕ) → IsTrue (is_server b) → (slot : ℕ) → slot < 256 → slots_of disk b slot ≡ slots_of s.disk b slot)
        (still : (n x : ℕ) → redo_all (to_replay w n) x (w.disk x) ≡ w.disk x → redo_all (to_replay w n) x (dk x) ≡ dk x) where
      abbrev u : World
      u = record w { flight = put w.flight sector None; sick = put w.sick a true; rescue = rescue_broken d w.rescue; disk = dk }

      journals : AreJournals later s.core.now rest disk u journal
      journals = journals_but later s.core.servers but u s.core.now rest disk journal
          (λ b who. landed_log s.core.now s.core.flights rest s.disk disk (sector_log w b) (λ x. version_of (dk x)) b (journal b) fewer
          (λ slot below. slots b who slot below) rising (s.core.servers b).phase (s.core.servers b).ring (t.journals b who))

      readings : AreReadings s.core.setting.segments s.core.servers u
      readings b x works has all =
          let old = t.readings b x works has all in (
            (λ i y le. old.0 i y (le_le (version_of (w.disk i)) (version_of (dk i)) (version_of y) (rising i) le)),
            (λ i. ⊎_elim (λ n. inl n) (λ m. inr (⊎_elim (λ j. inl j) (λ j. inr (still x.dead i j)) m)) (old.1 i)),
          )

      tied : AreTied core_then disk u
      tied = record {
        lives = lives_but later s.core.servers but w s.core.now u refl refl refl well t.tied.lives;
        locks = t.tied.locks;
        cached = cached_but later s.core.servers but w t.tied.cached;
        marked = marked_but later s.core.servers but w t.tied.marked;
        flying = λ e. flies_here;
        disk = disk_is;
        rescues = rescued;
        logged = logged_but later s.core.servers but w t.tied.logged;
      }

      fails_so : (moment : RunMoment) → core_then ≡ moment.core → disk ≡ moment.disk → LeadsQuietly w moment journal
      fails_so moment core_is at_disk = record {
        leads = record {
          events = events;
          world = u;
          run = run;
          is = record {
            tied = subst (λ x. AreTied moment.core x u) at_disk (subst (λ c. AreTied c disk u) core_is tied);
            journals = subst (λ x. AreJournals moment.core.servers moment.core.now moment.core.flights x u journal) at_disk
                (subst (λ (c : Core). AreJournals c.servers c.now c.flights disk u journal) core_is journals);
            readings = subst (λ (c : Core). AreReadings c.setting.segments c.servers u) core_is (read u readings);
          };
        };
        story = record { servers = refl; opening = refl; logged = refl; first = refl; home = refl; history = refl };
        quiet = subst (λ (c : Core). AllQuiet c.setting.segments w events) core_is quiet;
      }

    pub leaves_old : (moment : RunMoment) → core_then ≡ moment.core → s.disk ≡ moment.disk → LeadsQuietly w moment journal
    leaves_old = fails_so w.disk s.disk (Break sector f ∷ []) (tt, tt) (goes (record { there = f_there; early = early_here }) stays) t.tied.disk (λ x. le_refl (version_of (w.disk x)))
        (λ b who slot below. refl) (λ n x e. e)

    pub leaves_new : (moment : RunMoment) → core_then ≡ moment.core → written s.disk sector flight.block ≡ moment.disk → LeadsQuietly w moment journal
    leaves_new = fails_so (put w.disk sector flight.block) (written s.disk sector flight.block) (BreakNew sector f ∷ []) (tt, tt) (goes (record { there = f_there; early = early_here }) stays) on_disk
        (rises hosts ends once holders held s w journal ticket flight r t g going at place out early v)
        (λ b who slot below. disk_same s.disk sector flight.block high_here b who slot below)
        (still_new hosts ends once holders held s w journal ticket flight r t g going at place out early v)
      where
        on_disk : (x : ℕ) → is_log_sector s.core.setting.segments x ≡ false → (if has_version w x then put w.disk sector flight.block x else w.bytes x) ≡ written s.disk sector flight.block x
        on_disk x plain = one_disk_good w g (BreakNew sector f) (record { there = f_there; early = early_here }) x ∙ go (nat_eq sector x)
          where
            go : (b : Bool) → or_else (if b then Some flight.block else None) (block_at w x) ≡ (if b then flight.block else s.disk x)
            go true = refl
            go false = t.tied.disk x plain

  -- ---- its server then, where it isn't the host

  abbrev broken : ℕ → Server
  broken = servers_broken s.core.servers a w

  module _ (apart : (flight.server == host_party) ≡ false) where
    -- its recovery can't end
    stuck : (b : ℕ) (x : Recovery) → b ≡ a → IsTrue ((is_server b && is_up (s.core.servers a).phase) || b == host_party) → (s.core.servers a).recovery ≡ Some x →
        IsStuck b rest (failed_by (s.core.servers a)).failed x
    stuck b x i works has = record {
      has_failed = or_right (s.core.servers a).failed (is_in_mount (s.core.servers a).phase) (mounted_up (s.core.servers a).phase (up (is_server a) (is_up (s.core.servers a).phase) (a == host_party) apart worked));
      sector = sector;
      block = flight.block;
      looked = o.looked;
      unwritten = o.unwritten;
      unsent = λ one j of same. other_without s.core.flights ticket flight one (once_there ends once s r ticket flight at early) at (contains_in rest one j) same;
    }
      where
        worked : IsTrue (is_working s.core.servers a)
        worked = subst (λ n. IsTrue ((is_server n && is_up (s.core.servers a).phase) || n == host_party)) i works

        o : IsOwed hosts ends once holders held s w journal ticket flight r t g going at place out early x
        o = owed hosts ends once holders held s w journal ticket flight r t g going at place out early worked x has

        up : (x y z : Bool) → z ≡ false → IsTrue ((x && y) || z) → IsTrue y
        up true true z e k = refl
        up true false z e k = absurd (false≢true (sym e ∙ k))
        up false y z e k = absurd (false≢true (sym e ∙ k))

    pub broken_rescued : AreRescues broken rest (record w { rescue = rescue_broken d w.rescue })
    broken_rescued = record {
      under_way = λ b x. at_put (λ (y : Server). IsTrue ((is_server b && is_up y.phase) || b == host_party) → y.recovery ≡ Some x →
          IsRescueOf b x (rescue_broken d w.rescue) ⊎ IsStuck b rest y.failed x) s.core.servers a (failed_by (s.core.servers a)) b
          (λ i works e. inr (stuck b x i works e))
          (λ n works e. ⊎_elim (λ q. inl (others_on b x n q)) (λ z. inr z)
          ((fewer_known hosts ends once holders held s w journal ticket flight r t g going at place out early v).under_way b x works e));
      known = λ p e. let k = (known_now hosts ends once holders held s w journal ticket flight r t g going at place out early v).known p (known_on p e) in
          (k.0, broken_recovery s.core.servers a w p.by ∙ k.1, k.2);
    }

  -- the host is never mounted, so it isn't asked to be well
  pub host_well : (flight.server == host_party) ≡ true → (b : ℕ) → (s.core.servers b).failed ≡ false → w.phase b ≡ Up → put w.sick a true b ≡ false
  host_well host b e up = at_put (λ y. y ≡ false) w.sick a true b
      (λ i. absurd (off_up (sym (t.tied.lives.phase host_party ∙ ap phase_of (hosts s r)) ∙ ap w.phase (sym (i ∙ eqb-true flight.server host_party host)) ∙ up))) (λ n. t.tied.lives.well b e up)
    where
      off_up : Off ≡ Up → ⊥
      off_up i = cc

-- ---- the events

pub rescues_fail : HostsAreOff → LeasesEnd → SectorsStandOnce → RescuesAreByHolders → WhoRecoversHolds → RescuesFail
rescues_fail hosts ends once holders held s w journal ticket flight new r t g at place out apart m = go new (subst (λ o. MayArrive s.core.now o (PutFailed new)) at m.hears)
  where
    core_is : (b : Bool) → record s.core { flights = without s.core.flights ticket; servers = put s.core.servers flight.server (failed_by (s.core.servers flight.server)) } ≡
        arrived_from s.core ticket (PutFailed b) (value_at s.core.flights ticket)
    core_is b = sym (ap (arrived_from s.core ticket (PutFailed b)) at
        ∙ ap (λ h. if h then record (landed_core s.core ticket) { over = true } else with_server (landed_core s.core ticket) flight.server (failed_by (s.core.servers flight.server))) apart)

    go : (b : Bool) → s.core.now ≤ flight.stamp → LeadsQuietly w (next s (core_events.Arrive ticket) (PutFailed b)) journal
    go true early = leaves_new hosts ends once holders held s w journal ticket flight r t g m.can.going at place out early (servers_broken s.core.servers flight.server w)
        (broken_but s.core.servers flight.server w) s.core.over (broken_well s.core.servers flight.server w s.core.now t.tied.lives)
        (λ e. broken_rescued hosts ends once holders held s w journal ticket flight r t g m.can.going at place out early apart)
        (λ u. broken_readings s.core.servers flight.server u s.core.setting.segments)
        (next s (core_events.Arrive ticket) (PutFailed true)) (core_is true) (sym (ap (disk_from s.disk (PutFailed true)) at))
    go false early = leaves_old hosts ends once holders held s w journal ticket flight r t g m.can.going at place out early (servers_broken s.core.servers flight.server w)
        (broken_but s.core.servers flight.server w) s.core.over (broken_well s.core.servers flight.server w s.core.now t.tied.lives)
        (λ e. broken_rescued hosts ends once holders held s w journal ticket flight r t g m.can.going at place out early apart)
        (λ u. broken_readings s.core.servers flight.server u s.core.setting.segments)
        (next s (core_events.Arrive ticket) (PutFailed false)) (core_is false) (sym (ap (disk_from s.disk (PutFailed false)) at))

-- of the host, which leaves the new sector: it is over
pub host_rescues_fail : HostsAreOff → LeasesEnd → SectorsStandOnce → RescuesAreByHolders → WhoRecoversHolds → HostRescuesFail
host_rescues_fail hosts ends once holders held s w journal ticket flight r t g at place out host m =
    leaves_new hosts ends once holders held s w journal ticket flight r t g m.can.going at place out early s.core.servers (same_but s.core.servers) true
    (host_well hosts ends once holders held s w journal ticket flight r t g m.can.going at place out early host) (λ e. absurd (false≢true (sym e))) (λ u read. read)
    (next s (core_events.Arrive ticket) (PutFailed true)) core_is (sym (ap (disk_from s.disk (PutFailed true)) at))
  where
    early : s.core.now ≤ flight.stamp
    early = subst (λ o. MayArrive s.core.now o (PutFailed true)) at m.hears

    core_is : record s.core { flights = without s.core.flights ticket; over = true } ≡ (next s (core_events.Arrive ticket) (PutFailed true)).core
    core_is = sym (ap (arrived_from s.core ticket (PutFailed true)) at
        ∙ ap (λ h. if h then record (landed_core s.core ticket) { over = true } else with_server (landed_core s.core ticket) flight.server (failed_by (s.core.servers flight.server))) host)

-- of the host: it is over, and the disk is as it was
pub host_writes_fail : HostWritesFail
host_writes_fail s w journal ticket flight r t at host m = record {
  leads = record {
    events = [];
    world = w;
    run = stays;
    is = record {
      tied = subst (λ x. AreTied moment.core x w) disk_is (subst (λ c. AreTied c s.disk w) core_is tied);
      journals = subst (λ x. AreJournals moment.core.servers moment.core.now moment.core.flights x w journal) disk_is
          (subst (λ (c : Core). AreJournals c.servers c.now c.flights s.disk w journal) core_is
          (fewer_journals s.core.servers s.core.now s.core.flights (without s.core.flights ticket) s.disk w journal
          (λ one number i of. in_contains s.core.flights one (from_without s.core.flights ticket one (contains_in (without s.core.flights ticket) one i))) t.journals));
      readings = subst (λ (c : Core). AreReadings c.setting.segments c.servers w) core_is t.readings;
    };
  };
  story = record { servers = refl; opening = refl; logged = refl; first = refl; home = refl; history = refl };
  quiet = tt;
}
  where
    moment : RunMoment
    moment = next s (core_events.Arrive ticket) (PutFailed false)

    disk_is : s.disk ≡ moment.disk
    disk_is = sym (ap (disk_from s.disk (PutFailed false)) at)

    core_is : record s.core { flights = without s.core.flights ticket; over = true } ≡ moment.core
    core_is = sym (ap (arrived_from s.core ticket (PutFailed false)) at
        ∙ ap (λ h. if h then record (landed_core s.core ticket) { over = true } else with_server (landed_core s.core ticket) flight.server (failed_by (s.core.servers flight.server))) host)

    tied : AreTied (record s.core { flights = without s.core.flights ticket; over = true }) s.disk w
    tied = record {
      lives = t.tied.lives;
      locks = t.tied.locks;
      cached = t.tied.cached;
      marked = t.tied.marked;
      flying = λ e. absurd (false≢true (sym e));
      disk = t.tied.disk;
      rescues = λ e. absurd (false≢true (sym e));
      logged = t.tied.logged;
    }
