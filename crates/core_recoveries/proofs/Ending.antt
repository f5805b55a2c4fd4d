-- A recovery that ends is Fade of what is late, Look of each sector that its records name, and Finish.
use Rattle.std.proofs.Common.{◌≡◌, ◌≢◌, ◌⊎◌, ℕ, ◌≤◌, ◌==◌, Bool, true, false, ◌&&◌, ◌||◌, IsTrue, List, [], ◌∷◌, ◌++◌, map, Some, None, le_refl, refl, sym, ap, ◌∙◌, subst, inl, inr, ⊎_elim}
use Rattle.std.proofs.lemmas.Bool.{cases_eq, not-true, or_right}
use Rattle.std.proofs.lemmas.Option.{none-some}
use Rattle.frang_base.specs.Functions.{put}
use Rattle.frang_base.proofs.Basics.{at_put, put_other}
use Rattle.disk_definitions.specs.Replay.{slots_of}
use Rattle.lock_definitions.specs.Calls.{cleared}
use Rattle.sector_bytes.specs.Blocks.{version_of}
use Rattle.sector_bytes.specs.Replays.{redo_all}
use Rattle.sector_bytes.specs.SectorMaps.{value_at}
use Rattle.core_definitions.specs.Cores.{Core}
use Rattle.core_definitions.specs.EndEffects.{finished_from, recovered}
use Rattle.core_definitions.specs.EndGuards.{is_recovery, is_through}
use Rattle.core_definitions.specs.Events as core_events
use Rattle.core_definitions.specs.Events.{Nothing}
use Rattle.core_definitions.specs.Flights as core
use Rattle.core_definitions.specs.LineGuards.{is_server}
use Rattle.core_definitions.specs.Recoveries.{Recovery}
use Rattle.core_definitions.specs.Rings.{is_all_reached}
use Rattle.core_definitions.specs.Runs.{State as RunMoment, Makes, next}
use Rattle.core_definitions.specs.Scripts.{host_party}
use Rattle.core_definitions.specs.Servers.{Server, is_dead, is_off, is_up}
use Rattle.core_definitions.specs.Settings.{disk_logs, setting_of}
use Rattle.core_definitions.specs.WriteGuards.{is_worker}
use Rattle.core_laws.proofs.Keeping.{locks_of_run}
use Rattle.core_laws.proofs.Kept.{setting_of_run}
use Rattle.core_laws.specs.Facts.{HasNothing, OffHasNothing, OneRecoveryAtMost, RecoveriesAreOfTheDead}
use Rattle.core_laws.specs.Waits.{IsDone, RecoveriesEndDone}
use Rattle.sector_world.specs.Guards.{CanFinish, to_replay}
use Rattle.sector_world.specs.Histories.{recovered as removed_from, settled, synced_of}
use Rattle.sector_world.specs.Histories.Entry.{Recovered}
use Rattle.sector_world.specs.Kinds.{Good}
use Rattle.sector_world.specs.Steps.{Run, after, stays, goes}
use Rattle.sector_world.specs.Steps.Event.{Finish}
use Rattle.sector_world.specs.World.{World, Off, Up, Told, Rescue, has_version}
use Rattle.sector_world.proofs.Every.{good_run}
use Rattle.sector_world.proofs.OneDisk.{one_disk_good}
use Rattle.core_lives.proofs.Emptying.{joined}
use Rattle.core_lives.specs.Lives.{LeadsWith}
use Rattle.core_world.specs.Journals.{AreJournals, AreReadings, IsAtRest, IsLogOf, Journal, sector_log}
use Rattle.core_world.proofs.Quiet.{quiet_both}
use Rattle.core_world.specs.Quiet.{AllQuiet}
use Rattle.core_world.specs.Steps.{IsReached, IsWorldOf}
use Rattle.core_world.specs.Ties.{AreFlying, AreLives, AreLogged, AreMarked, AreRescues, AreTied, IsMarkedAs, IsRescueOf, IsShown, expiry_at, phase_of}
use Rattle.core_recoveries.proofs.Handing.{handed_back}
use Rattle.core_recoveries.proofs.LeftLogs.{left_log, removed}
use Rattle.core_recoveries.proofs.Parties.{ended, ended_by, ended_dead, ended_other, ended_same, idle, rid, worker_not_dead, works_before}
use Rattle.core_recoveries.proofs.Passing.{cached_on, flying_on}
use Rattle.core_recoveries.proofs.Shedding.{Sheds, sheds}
use Rattle.core_recoveries.proofs.Sweeping.{Sweeps, named_or, redo_sectors, rescue_of, rescued_by, sweeps}
use Rattle.core_recoveries.proofs.Through.{not_stuck, replayed_same, through_read}
use Rattle.core_recoveries.specs.Ends.{FinishesLeadOn}

off_up : Off ≢ Up
off_up e = cc

-- what is known of the end of a recovery
pub record IsEnding (s : RunMoment) (w : World) (by : ℕ) (recovery : Recovery) : Type 0 where
  pub server : IsTrue (is_server recovery.dead)
  pub fallen : IsTrue (is_dead (s.core.servers recovery.dead).phase)
  pub apart : by ≢ recovery.dead
  pub bare : HasNothing (s.core.servers recovery.dead)
  pub alone : (b : ℕ) (x : Recovery) → IsTrue ((is_server b && is_up (s.core.servers b).phase) || b == host_party) → (s.core.servers b).recovery ≡ Some x → b ≡ by
  pub rescue : IsRescueOf by recovery w.rescue
  pub same : (i : ℕ) → redo_all (to_replay w recovery.dead) i (w.disk i) ≡ w.disk i

pub ending : OneRecoveryAtMost → RecoveriesAreOfTheDead → OffHasNothing → RecoveriesEndDone → (s : RunMoment) (w : World) (journal : ℕ → Journal) (by : ℕ) (recovery : Recovery) → IsReached s →
    IsWorldOf s w journal → Good w → Makes s (core_events.Finish by) Nothing → (s.core.servers by).recovery ≡ Some recovery → IsEnding s w by recovery
ending one of_dead nothing ends s w journal by recovery r t g m has = record {
  server = dead.0;
  fallen = dead.1;
  apart = worker_not_dead s.core.servers by recovery.dead dead.0 dead.1 who;
  bare = nothing (setting_of r.script r.segments r.number) r.disk s r.run recovery.dead dead.0 (or_right (is_off (s.core.servers recovery.dead).phase) (is_dead (s.core.servers recovery.dead).phase) dead.1);
  alone = λ b x works e. one (setting_of r.script r.segments r.number) r.disk s r.run b by x recovery works who e has;
  rescue = rescue;
  same = replayed_same s.core recovery done rules w g by rescue (t.readings by recovery who has (through_read s.core recovery rules through)).1;
}
  where
    who : IsTrue (is_worker s.core by)
    who = m.can.can.who

    dead : IsTrue (is_server recovery.dead) × IsTrue (is_dead (s.core.servers recovery.dead).phase)
    dead = of_dead (setting_of r.script r.segments r.number) r.disk s r.run by recovery who has

    done : IsDone s.core recovery
    done = ends s.core by recovery m.can has

    rules : s.core.setting.logs ≡ disk_logs
    rules = ap (λ setting. setting.logs) (setting_of_run (setting_of r.script r.segments r.number) r.disk s r.run)

    through : IsTrue (is_through s.core recovery)
    through = subst (λ o. IsTrue (is_recovery (is_through s.core) o)) has m.can.can.ended

    rescue : IsRescueOf by recovery w.rescue
    rescue = ⊎_elim (λ q. q) (λ z. absurd (not_stuck s.core recovery done by s.core.flights (s.core.servers by).failed z)) ((t.tied.rescues (not-true s.core.over m.can.going)).under_way by recovery who has)

-- ---- the ties, from a world with fewer late writes in flight, where all is found in place

module _ (s : RunMoment) (w : World) (journal : ℕ → Journal) (by : ℕ) (recovery : Recovery) (r : IsReached s) (t : IsWorldOf s w journal) (q : IsEnding s w by recovery)
    (x : Sheds (map (λ one. one.1.sector) s.core.flights) w) (b0 : ℕ) (told : ℕ → Told) where
  abbrev c : Core
  c = s.core

  abbrev d : ℕ
  d = recovery.dead

  abbrev k : ℕ
  k = w.durable d

  abbrev rescue : Rescue
  rescue = rescue_of d b0 told

  abbrev found_all : World
  found_all = rescued_by (record w { flight = x.flight; byte_flight = x.byte_flight }) rescue

  abbrev finished : World
  finished = after found_all (Finish rescue)

  abbrev servers_then : ℕ → Server
  servers_then = ended c.servers by d

  abbrev core_then : Core
  core_then = record c { servers = servers_then; locks = cleared c.locks d }

  lives : AreLives c.now servers_then finished
  lives = record {
    now = t.tied.lives.now;
    phase = λ b. at_put (λ y. y ≡ phase_of (servers_then b).phase) w.phase d Off b (λ e. sym (ap phase_of (ended_dead c.servers by d (λ z. z.phase) b e)))
        (λ n. t.tied.lives.phase b ∙ ap phase_of (sym (ended_other c.servers by d (λ z. z.phase) refl b n)));
    expiry = λ b. t.tied.lives.expiry b ∙ ap (expiry_at c.now b) (sym (ended_same c.servers by d (λ z. z.expiry) refl refl b));
    well = λ b e. at_put (λ y. y ≡ Up → w.sick b ≡ false) w.phase d Off b (λ i up. absurd (off_up up))
        (λ n up. t.tied.lives.well b (sym (ended_same c.servers by d (λ z. z.failed) refl refl b) ∙ e) up);
  }

  marked : AreMarked servers_then finished
  marked b i = at_put (λ y. IsMarkedAs y.ring.reached (put w.acked d k b) (value_at y.cache i) (w.slot b i) (w.page b i)) (rid c.servers by d) d (recovered (c.servers d)) b
      (λ e. subst (λ y. IsMarkedAs (recovered (c.servers d)).ring.reached (put w.acked d k b) (value_at y i) (w.slot b i) (w.page b i)) (sym q.bare.cache) tt)
      (λ n. at_put (λ y. IsMarkedAs (rid c.servers by d b).ring.reached y (value_at (rid c.servers by d b).cache i) (w.slot b i) (w.page b i)) w.acked d k b (λ e. absurd (n e))
      (λ o. at_put (λ y. IsMarkedAs y.ring.reached (w.acked b) (value_at y.cache i) (w.slot b i) (w.page b i)) c.servers by (idle c.servers by d) b
      (λ e. subst (λ j. IsMarkedAs (c.servers j).ring.reached (w.acked b) (value_at (c.servers j).cache i) (w.slot b i) (w.page b i)) e (t.tied.marked b i)) (λ p. t.tied.marked b i)))

  logged : AreLogged servers_then finished
  logged b = at_put (λ y. IsTrue (is_all_reached y.ring) → put w.last d k b ≤ put w.acked d k b) (rid c.servers by d) d (recovered (c.servers d)) b
      (λ e all. at_put (λ y. y ≤ put w.acked d k b) w.last d k b (λ i. at_put (λ y. k ≤ y) w.acked d k b (λ j. le_refl k) (λ n. absurd (n e))) (λ n. absurd (n e)))
      (λ n. at_put (λ y. IsTrue (is_all_reached (rid c.servers by d b).ring) → y ≤ put w.acked d k b) w.last d k b (λ e. absurd (n e))
      (λ o. at_put (λ y. IsTrue (is_all_reached (rid c.servers by d b).ring) → w.last b ≤ y) w.acked d k b (λ e. absurd (n e))
      (λ p. at_put (λ y. IsTrue (is_all_reached y.ring) → w.last b ≤ w.acked b) c.servers by (idle c.servers by d) b
      (λ e all. t.tied.logged b (subst (λ j. IsTrue (is_all_reached (c.servers j).ring)) (sym e) all)) (λ z. t.tied.logged b))))

  -- nobody who is at work recovers then
  none_works : (b : ℕ) (y : Recovery) → IsTrue ((is_server b && is_up (servers_then b).phase) || b == host_party) → (servers_then b).recovery ≡ Some y → ⊥
  none_works b y works e = none-some y (sym (ended_by c.servers by d q.apart) ∙ ap (λ n. (servers_then n).recovery) (sym is_by) ∙ e)
    where
      before : (b ≢ d) × IsTrue ((is_server b && is_up (c.servers b).phase) || b == host_party)
      before = works_before c.servers by d q.server b works

      is_by : b ≡ by
      is_by = at_put (λ (z : Server). z.recovery ≡ Some y → b ≡ by) (rid c.servers by d) d (recovered (c.servers d)) b (λ i. absurd (before.0 i))
          (λ n. at_put (λ (z : Server). z.recovery ≡ Some y → b ≡ by) c.servers by (idle c.servers by d) b (λ i f. i) (λ o f. q.alone b y before.1 f)) e

  rescues : AreRescues servers_then c.flights finished
  rescues = record { under_way = λ b y works e. absurd (none_works b y works e); known = λ y e. absurd (none-some y e) }

  readings : AreReadings c.setting.segments servers_then finished
  readings b y works e all = absurd (none_works b y works e)

  flying : AreFlying c.setting.segments c.now c.flights w → AreFlying c.setting.segments c.now c.flights found_all
  flying f = record {
    flight = λ i y e. f.flight i y (x.shed.was i y e);
    bytes = λ i y e. f.bytes i y (x.shed_bytes.was i y e);
    shown = λ one i early out. shows one (subst (λ n. n ≤ one.1.stamp) (sym t.tied.lives.now) early) (has_version w one.1.sector) (f.shown one i early out);
  }
    where
      shows : (one : ℕ × core.Flight) → w.now ≤ one.1.stamp → (v : Bool) → IsShown v one.1 (w.flight one.1.sector) (w.byte_flight one.1.sector) →
          IsShown v one.1 (x.flight one.1.sector) (x.byte_flight one.1.sector)
      shows one l true e = x.shed.stays_on one.1.sector _ e l
      shows one l false e = x.shed_bytes.stays_on one.1.sector _ e l

  -- ---- the logs

  other_log : (b : ℕ) → b ≢ d → sector_log finished b ≡ removed d k (synced_of d w.history) (sector_log w b)
  other_log b n i = record {
    durable = w.durable b;
    acked = put_other w.acked d k b n i;
    floor = put_other w.floor d k b n i;
    last = put_other w.last d k b n i;
    records = put_other w.log d [] b n i;
    history = removed_from d k (synced_of d w.history) (settled w.history);
    versions = λ y. version_of (w.disk y);
  }

  journals : IsAtRest (slots_of s.disk d) (sector_log w d) → AreJournals servers_then c.now c.flights s.disk finished journal
  journals rest b who = go (cases_eq b d)
    where
      go : (b ≡ d) ⊎ (b ≡ d → ⊥) → IsLogOf (servers_then b).phase (servers_then b).ring c.now c.flights s.disk (sector_log finished b) b (journal b)
      go (inl e) = subst (λ p. IsLogOf p (servers_then b).ring c.now c.flights s.disk (sector_log finished b) b (journal b)) (sym (ended_dead c.servers by d (λ z. z.phase) b e)) (off_log b e)
        where
          off_log : (a : ℕ) → a ≡ d → IsAtRest (slots_of s.disk a) (sector_log finished a)
          off_log a i = subst (λ n. IsAtRest (slots_of s.disk n) (sector_log w n)) (sym i) rest
      go (inr n) = subst (λ p. IsLogOf p (servers_then b).ring c.now c.flights s.disk (sector_log finished b) b (journal b)) (sym (ended_other c.servers by d (λ z. z.phase) refl b n))
          (subst (λ y. IsLogOf (c.servers b).phase y c.now c.flights s.disk (sector_log finished b) b (journal b)) (sym (ended_other c.servers by d (λ z. z.ring) refl b n))
          (subst (λ l. IsLogOf (c.servers b).phase (c.servers b).ring c.now c.flights s.disk l b (journal b)) (sym (other_log b n))
          (left_log (c.servers b).phase (c.servers b).ring c.now c.flights s.disk (sector_log w b) b (journal b) d k (synced_of d w.history) n (t.journals b who))))

  -- ---- all of these

  bare_sector : (i : ℕ) → value_at (c.servers d).cache i ≡ None
  bare_sector i = ap (λ y. value_at y i) q.bare.cache

  module _ (g : Good found_all) (can : CanFinish found_all rescue) where
    tied : AreTied core_then s.disk finished
    tied = record {
      lives = lives;
      locks = handed_back c.locks (locks_of_run (setting_of r.script r.segments r.number) r.disk s r.run) w d t.tied.locks finished refl refl refl;
      cached = cached_on found_all rescue g can c.servers servers_then (ended_same c.servers by d (λ z. z.cache) refl refl) bare_sector t.tied.cached;
      marked = marked;
      flying = λ e. flying_on found_all rescue g can c.setting.segments c.now c.flights t.tied.lives.now (λ i f j. x.shed.early i f j) (λ i f j. x.shed_bytes.early i f j) (flying (t.tied.flying e));
      disk = λ i out. one_disk_good found_all g (Finish rescue) can i ∙ t.tied.disk i out;
      rescues = λ e. rescues;
      logged = logged;
    }

    pub ends_on : IsAtRest (slots_of s.disk d) (sector_log w d) → IsWorldOf (record (next s (core_events.Finish by) Nothing) { core = core_then }) finished journal
    ends_on rest = record { tied = tied; journals = journals rest; readings = readings }

-- ---- the events

module _ (s : RunMoment) (w : World) (journal : ℕ → Journal) (by : ℕ) (recovery : Recovery) (r : IsReached s) (t : IsWorldOf s w journal) (q : IsEnding s w by recovery) (g : Good w) where
  abbrev dead : ℕ
  dead = recovery.dead

  abbrev looker : ℕ
  looker = q.rescue.r.by

  abbrev sectors : List ℕ
  sectors = map (λ one. one.1.sector) s.core.flights

  x : Sheds sectors w
  x = sheds sectors w

  abbrev fewer : World
  fewer = record w { flight = x.flight; byte_flight = x.byte_flight }

  y : Sweeps (redo_sectors (to_replay w dead)) fewer dead looker q.rescue.r.told
  y = sweeps (redo_sectors (to_replay w dead)) fewer dead looker q.rescue.r.told q.same

  abbrev found_all_now : World
  found_all_now = rescued_by fewer (rescue_of dead looker y.told)

  rescue_is : w.rescue ≡ Some (rescue_of dead looker q.rescue.r.told)
  rescue_is = q.rescue.is ∙ ap (λ n. Some (rescue_of n looker q.rescue.r.told)) q.rescue.dead

  shed_run : Run w x.events (rescued_by fewer (rescue_of dead looker q.rescue.r.told))
  shed_run = subst (λ o. Run w x.events (record fewer { rescue = o })) rescue_is x.run

  to_found : Run w (x.events ++ y.events) found_all_now
  to_found = joined w (rescued_by fewer (rescue_of dead looker q.rescue.r.told)) found_all_now x.events y.events shed_run y.run

  can : CanFinish found_all_now (rescue_of dead looker y.told)
  can = record { going = refl; all = λ i. ⊎_elim (λ j. inl (y.all i j)) (λ n. inr n) (named_or (to_replay w dead) i) }

  good : Good found_all_now
  good = good_run w (x.events ++ y.events) found_all_now to_found g

  all_quiet : (segments : ℕ) → AllQuiet segments w ((x.events ++ y.events) ++ Finish (rescue_of dead looker y.told) ∷ [])
  all_quiet segments = quiet_both segments w found_all_now (x.events ++ y.events) (Finish (rescue_of dead looker y.told) ∷ []) to_found
      (quiet_both segments w (rescued_by fewer (rescue_of dead looker q.rescue.r.told)) x.events y.events shed_run (x.quiet segments) (y.quiet segments)) (tt, tt)

  pub finish_leads : (s.core.servers by).recovery ≡ Some recovery → IsAtRest (slots_of s.disk dead) (sector_log w dead) →
      LeadsWith w (next s (core_events.Finish by) Nothing) journal (Recovered dead (w.durable dead))
  finish_leads has rest = record {
    leads = record {
      events = (x.events ++ y.events) ++ Finish (rescue_of dead looker y.told) ∷ [];
      world = after found_all_now (Finish (rescue_of dead looker y.told));
      run = joined w found_all_now (after found_all_now (Finish (rescue_of dead looker y.told))) (x.events ++ y.events) (Finish (rescue_of dead looker y.told) ∷ []) to_found (goes can stays);
      is = subst (λ o. IsWorldOf (record (next s (core_events.Finish by) Nothing) { core = finished_from s.core by o }) (after found_all_now (Finish (rescue_of dead looker y.told))) journal) (sym has)
          (ends_on s w journal by recovery r t q x looker y.told good can rest);
    };
    story = record { servers = refl; opening = refl; logged = refl; first = refl; home = refl; history = refl };
    quiet = all_quiet (next s (core_events.Finish by) Nothing).core.setting.segments;
  }

pub finishes : OneRecoveryAtMost → RecoveriesAreOfTheDead → OffHasNothing → RecoveriesEndDone → FinishesLeadOn
finishes one of_dead nothing ends s w journal by recovery r t g m has rest =
    finish_leads s w journal by recovery r t (ending one of_dead nothing ends s w journal by recovery r t g m has) g has rest
