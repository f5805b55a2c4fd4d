-- A recovery that begins is Begin: the log is taken over no hold, or over one that is over, and nothing is looked at yet.
use Rattle.std.proofs.Common.{◌≡◌, ◌≢◌, ℕ, ◌+◌, ◌<◌, ◌==◌, Bool, true, false, ◌&&◌, ◌||◌, if◌then◌else◌, IsTrue, is_some, length, set, [], ◌∷◌, Option, Some, None, nat_lt, refl, sym, ap, ◌∙◌, subst, inl, ◌⊎◌, arith}
use Rattle.std.proofs.lemmas.Bool.{eqb-true, false≢true, ltb-true}
use Rattle.std.proofs.lemmas.Option.{same_Some}
use Rattle.frang_base.specs.Functions.{put}
use Rattle.frang_base.specs.declared.limits.TheConstants.{LEASE_TICKS}
use Rattle.frang_base.specs.declared.lock.LockId.{LockId}
use Rattle.frang_base.proofs.Basics.{at_put, put_same}
use Rattle.disk_definitions.proofs.Listed.{all_at, among_below}
use Rattle.tree_definitions.specs.Numbers.{below}
use Rattle.lock_definitions.specs.declared.claim.LogHold.{LogHold}
use Rattle.lock_definitions.specs.Calls.{hold_of, log_taken_by, taken}
use Rattle.lock_definitions.specs.Locks.{AreLocks, Locks, held, log_hold}
use Rattle.core_definitions.specs.Cores.{expiry_of}
use Rattle.core_definitions.specs.EndGuards.{CanRecover, is_hold_over}
use Rattle.core_definitions.specs.Events as core_events
use Rattle.core_definitions.specs.Events.{Nothing}
use Rattle.core_definitions.specs.LineGuards.{is_server}
use Rattle.core_definitions.specs.Logs.{is_read, is_slot_read}
use Rattle.core_definitions.specs.Recoveries.{Recovery, recovery_of, redos}
use Rattle.core_definitions.specs.Runs.{State as RunMoment, Makes, next}
use Rattle.core_definitions.specs.Scripts.{host_party}
use Rattle.core_definitions.specs.Servers as life
use Rattle.core_definitions.specs.Servers.{Server, is_dead, is_up}
use Rattle.core_definitions.specs.Settings.{disk_logs, setting_of}
use Rattle.core_recoveries.proofs.LogHolds.{hold_elsewhere, hold_taken}
use Rattle.core_facts.proofs.Phases.{none_recovers, recover_waits, taker_works}
use Rattle.core_laws.proofs.Guarding.{Of4}
use Rattle.core_laws.proofs.Keeping.{locks_of_run}
use Rattle.core_laws.proofs.Memory.{dead_of}
use Rattle.core_laws.proofs.Resting.{server_no_host}
use Rattle.sector_world.specs.Guards.{CanBegin}
use Rattle.sector_world.specs.Steps.{after, stays, goes}
use Rattle.sector_world.specs.Steps.Event.{Begin}
use Rattle.sector_world.specs.World.{World, Off, Up, Dead, Unread, Rescue}
use Rattle.core_world.specs.Events.{HostsAreOff, LeadsQuietly}
use Rattle.core_world.specs.Journals.{AreReadings, Journal}
use Rattle.core_world.specs.Readings.{AreNamed, ReadsAs}
use Rattle.core_world.specs.Steps.{IsReached, IsWorldOf}
use Rattle.core_world.specs.Ties.{AreRescues, AreTied, IsRescueOf, IsStuck, phase_of, taker_of, until_of}
use Rattle.core_world.proofs.Living.{alive_up, lasts}
use Rattle.core_world.proofs.Same.{put_as}
use Rattle.core_recoveries.proofs.But.{IsBut, cached_but, journals_but, lives_but, logged_but, marked_but, put_but}
use Rattle.core_recoveries.specs.Begins.{BeginsAreEvents}

-- ---- small

pub dead_phase : (p : life.Phase) → IsTrue (is_dead p) → phase_of p ≡ Dead
dead_phase life.Off e = absurd (false≢true e)
dead_phase life.Up e = absurd (false≢true e)
dead_phase life.Still e = absurd (false≢true e)
dead_phase (life.Doomed fate) e = absurd (false≢true e)
dead_phase life.Dead e = refl

-- a log that is taken leaves who holds which lock
held_taken : (locks : Locks) (dead by now expiry a : ℕ) (l : LockId) → held (taken locks dead by now expiry) a l ≡ held locks a l
held_taken locks dead by now expiry a l = go (is_some (log_taken_by locks dead by now))
  where
    go : (b : Bool) → held (if b then locks else record locks { logs = set locks.logs dead (Some (hold_of by expiry)) }) a l ≡ held locks a l
    go true = refl
    go false = refl

-- nothing is read at first
none_read : is_read disk_logs [] ≡ true → ⊥
none_read e = false≢true (all_at (is_slot_read []) (below 256) e 0 (among_below 256 0 (omega arith)))

-- who is at work isn't dead in the world
pub works_alive : (s : RunMoment) (w : World) → IsReached s → HostsAreOff → ((b : ℕ) → w.phase b ≡ phase_of (s.core.servers b).phase) → (b : ℕ) →
    IsTrue ((is_server b && is_up (s.core.servers b).phase) || b == host_party) → w.phase b ≢ Dead
works_alive s w r hosts phases b works =
    go (is_server b) (is_up (s.core.servers b).phase) (b == host_party) (λ up e. alive_up (s.core.servers b).phase up (sym (phases b) ∙ e))
    (λ host e. off_dead (sym (ap phase_of (hosts s r)) ∙ sym (phases host_party) ∙ ap w.phase (sym (eqb-true b host_party host)) ∙ e)) works
  where
    off_dead : Off ≢ Dead
    off_dead e = cc

    go : (n u h : Bool) → (IsTrue u → w.phase b ≢ Dead) → (h ≡ true → w.phase b ≢ Dead) → IsTrue ((n && u) || h) → w.phase b ≢ Dead
    go true true h f g e = f refl
    go true false true f g e = g refl
    go true false false f g e = absurd (false≢true e)
    go false u true f g e = g refl
    go false u false f g e = absurd (false≢true e)

-- ---- the event

module _ (s : RunMoment) (w : World) (journal : ℕ → Journal) (dead by : ℕ) (r : IsReached s) (t : IsWorldOf s w journal) (hosts : HostsAreOff) (m : Makes s (core_events.Recover dead by) Nothing) where
  can : CanRecover s.core dead by
  can = m.can.can

  waits : Of4 (is_server dead) (is_dead (s.core.servers dead).phase) (nat_lt (s.core.servers dead).expiry s.core.now) (is_hold_over s.core.now (log_hold s.core.locks dead))
  waits = recover_waits s.core dead by can

  -- ---- the guard

  ended : (s.core.servers dead).expiry < s.core.now
  ended = ltb-true (s.core.servers dead).expiry s.core.now waits.p2

  given_up : (o : Option LogHold) → IsTrue (is_hold_over s.core.now o) → until_of o < s.core.now
  given_up None over = positive (s.core.servers dead).expiry s.core.now ended
    where
      positive : (x n : ℕ) → x < n → 0 < n
      positive x n h = omega (arith, h)
  given_up (Some hold) over = ltb-true hold.expiry s.core.now over

  alive : w.phase by ≢ Dead
  alive = works_alive s w r hosts t.tied.lives.phase by (taker_works s.core dead by can)

  guard : CanBegin w dead by
  guard = record {
    dead = t.tied.lives.phase dead ∙ dead_phase (s.core.servers dead).phase waits.p1;
    ended = subst (λ n. n < w.now) (sym (t.tied.lives.expiry dead ∙ ap (λ x. if x then s.core.now + LEASE_TICKS else (s.core.servers dead).expiry) (server_no_host dead waits.p0)))
        (subst (λ n. (s.core.servers dead).expiry < n) (sym t.tied.lives.now) ended);
    given_up = subst (λ n. n < w.now) (sym (t.tied.locks.until dead)) (subst (λ n. until_of (log_hold s.core.locks dead) < n) (sym t.tied.lives.now) (given_up (log_hold s.core.locks dead) waits.p3));
    alive = alive;
  }

  -- ---- the ties

  abbrev new : Server
  new = record (s.core.servers by) { recovery = Some (recovery_of dead) }

  abbrev servers_then : ℕ → Server
  servers_then = put s.core.servers by new

  abbrev table : Locks
  table = taken s.core.locks dead by s.core.now (expiry_of s.core by)

  abbrev begun : World
  begun = after w (Begin dead by)

  abbrev rescue : Rescue
  rescue = record { dead = dead; by = by; told = λ x. Unread }

  but : IsBut servers_then s.core.servers
  but = put_but s.core.servers by new refl refl refl refl

  well : (b : ℕ) → (servers_then b).failed ≡ false → w.phase b ≡ Up → w.sick b ≡ false
  well b e = t.tied.lives.well b (sym (put_as (λ x. x.failed) s.core.servers by new refl b) ∙ e)

  are : AreLocks s.core.locks
  are = locks_of_run (setting_of r.script r.segments r.number) r.disk s r.run

  inside : dead < length s.core.locks.logs
  inside = subst (λ n. dead < n) (sym are.logs) (low dead (ltb-true dead 16 waits.p0))
    where
      low : (n : ℕ) → n < 16 → n < 256
      low n h = omega (arith, h)

  held_now : log_hold table dead ≡ Some (hold_of by (expiry_of s.core by))
  held_now = hold_taken s.core.locks dead by s.core.now (expiry_of s.core by) waits.p3 inside

  lease : w.expiry by ≡ expiry_of s.core by
  lease = t.tied.lives.expiry by ∙ ap (λ n. if by == host_party then n else (s.core.servers by).expiry) (sym (lasts s r s.core.now))

  rescues : AreRescues servers_then s.core.flights begun
  rescues = record {
    under_way = λ b recovery. at_put (λ x. IsTrue ((is_server b && is_up x.phase) || b == host_party) → x.recovery ≡ Some recovery → IsRescueOf b recovery begun.rescue ⊎ IsStuck b s.core.flights x.failed recovery)
        s.core.servers by new b
        (λ i who e. inl (subst (λ q. IsRescueOf b q begun.rescue) (same_Some (recovery_of dead) recovery e) (record { r = rescue; is = refl; dead = refl; who = sym i; told = λ x. refl })))
        (λ n who e. absurd (none_recovers s.core dead by can b recovery.dead who (ap dead_of e)));
    known = λ q e. subst (λ (x : Rescue). (recovery : Recovery) × ((servers_then x.by).recovery ≡ Some recovery) × (recovery.dead ≡ x.dead)) (same_Some rescue q e)
        (recovery_of dead, ap (λ x. x.recovery) (put_same s.core.servers by new), refl);
  }

  tied : AreTied (record s.core { servers = servers_then; locks = table }) s.disk begun
  tied = record {
    lives = lives_but servers_then s.core.servers but w s.core.now begun refl refl refl well t.tied.lives;
    locks = record {
      holds = λ a l. t.tied.locks.holds a l ∙ sym (held_taken s.core.locks dead by s.core.now (expiry_of s.core by) a l);
      taker = λ d. at_put (λ x. x ≡ taker_of (log_hold table d)) w.taker dead (Some by) d (λ e. sym (ap taker_of (ap (log_hold table) e ∙ held_now)))
          (λ n. t.tied.locks.taker d ∙ sym (ap taker_of (hold_elsewhere s.core.locks dead by s.core.now (expiry_of s.core by) waits.p3 d n)));
      until = λ d. at_put (λ x. x ≡ until_of (log_hold table d)) w.until dead (w.expiry by) d (λ e. lease ∙ sym (ap until_of (ap (log_hold table) e ∙ held_now)))
          (λ n. t.tied.locks.until d ∙ sym (ap until_of (hold_elsewhere s.core.locks dead by s.core.now (expiry_of s.core by) waits.p3 d n)));
    };
    cached = cached_but servers_then s.core.servers but w t.tied.cached;
    marked = marked_but servers_then s.core.servers but w t.tied.marked;
    flying = t.tied.flying;
    disk = t.tied.disk;
    rescues = λ e. rescues;
    logged = logged_but servers_then s.core.servers but w t.tied.logged;
  }

  readings : AreReadings s.core.setting.segments servers_then begun
  readings b recovery =
      at_put (λ x. IsTrue ((is_server b && is_up x.phase) || b == host_party) → x.recovery ≡ Some recovery → IsTrue (is_read disk_logs recovery.slots) →
      ReadsAs w recovery.dead (redos disk_logs recovery) × AreNamed s.core.setting.segments w recovery.dead (redos disk_logs recovery)) s.core.servers by new b
      (λ i who e all. absurd (none_read (ap (λ (x : Recovery). is_read disk_logs x.slots) (same_Some (recovery_of dead) recovery e) ∙ all))) (λ n. t.readings b recovery)

  pub begins_so : LeadsQuietly w (next s (core_events.Recover dead by) Nothing) journal
  begins_so = record {
    leads = record {
      events = Begin dead by ∷ [];
      world = begun;
      run = goes guard stays;
      is = record {
        tied = tied;
        journals = journals_but servers_then s.core.servers but begun s.core.now s.core.flights s.disk journal t.journals;
        readings = readings;
      };
    };
    story = record { servers = refl; opening = refl; logged = refl; first = refl; home = refl; history = refl };
    quiet = (tt, tt);
  }

pub begins : HostsAreOff → BeginsAreEvents
begins hosts s w journal dead by r t m = begins_so s w journal dead by r t hosts m
