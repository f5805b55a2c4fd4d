-- Renew is Renew; Tick is Tick, and Renew of the host.
use Rattle.std.proofs.Common.{◌≡◌, ◌≢◌, ℕ, ◌+◌, ◌%◌, ◌<◌, ◌≤◌, ◌==◌, Bool, true, false, if◌then◌else◌, IsTrue, [], ◌∷◌, refl, sym, ap, ◌∙◌, subst, arith}
use Rattle.std.proofs.lemmas.Bool.{ltb-true}
use Rattle.std.proofs.lemmas.Bool.Decides.{nat_tests}
use Rattle.frang_base.specs.Functions.{put}
use Rattle.frang_base.specs.declared.limits.TheConstants.{LEASE_TICKS}
use Rattle.frang_base.proofs.Basics.{at_put}
use Rattle.sector_bytes.specs.SectorMaps.{value_at}
use Rattle.sector_bytes.specs.Sectors.{Sectors}
use Rattle.core_definitions.specs.Cores.{Core}
use Rattle.core_definitions.specs.Flights as core
use Rattle.core_definitions.specs.LineGuards.{is_server}
use Rattle.core_definitions.specs.Runs.{State as RunMoment}
use Rattle.core_definitions.specs.Scripts.{host_party}
use Rattle.core_definitions.specs.Servers as life
use Rattle.core_definitions.specs.Servers.{Server, wanting_all}
use Rattle.core_definitions.specs.Settings.{lease_to, setting_of}
use Rattle.core_definitions.specs.WriteEffects.{flushed_at, renewed, ticked}
use Rattle.core_definitions.specs.WriteGuards.{CanRenew}
use Rattle.core_laws.proofs.Kept.{setting_of_run}
use Rattle.core_laws.proofs.Resting.{server_no_host}
use Rattle.ring_definitions.specs.Rings.{Ring}
use Rattle.sector_world.specs.World.{World, Off, Up, Dead, cover, has_version}
use Rattle.sector_world.specs.Guards as guards
use Rattle.sector_world.specs.Steps.{after, stays, goes}
use Rattle.sector_world.specs.Steps.Event.{Renew, Tick}
use Rattle.core_world.specs.Events.{HostsAreOff, RenewsAreEvents, TicksAreEvents}
use Rattle.core_world.specs.Journals.{IsJournal, IsLogOf, Journal, SectorLog, sector_log}
use Rattle.core_world.specs.Steps.{IsReached}
use Rattle.core_world.specs.Ties.{AreTied, AreFlying, IsCachedAs, expiry_at, phase_of}
use Rattle.core_world.proofs.Giving.{up_is}
use Rattle.core_world.proofs.Same.{AreAlike, journals_alike, logged_alike, marked_alike, put_alike, put_as, readings_alike, rescues_alike}
use Rattle.core_world.proofs.Tables.{locks_renewed}

-- who is up isn't dead, and who is off isn't
pub alive_up : (p : life.Phase) → IsTrue (life.is_up p) → phase_of p ≢ Dead
alive_up p up e = absurd (up_dead (sym (up_is p up) ∙ e))
  where
    up_dead : Up ≢ Dead
    up_dead e = cc

-- over the logs of a disk a lease lasts as long as there
pub lasts : (s : RunMoment) → IsReached s → (now : ℕ) → lease_to s.core.setting now ≡ now + LEASE_TICKS
lasts s r now = ap (λ setting. lease_to setting now) (setting_of_run (setting_of r.script r.segments r.number) r.disk s r.run)

-- a server's lease, and not the host's
own_lease : (now b expiry : ℕ) → (b == host_party) ≡ false → expiry_at now b expiry ≡ expiry
own_lease now b expiry e = ap (λ x. if x then now + LEASE_TICKS else expiry) e

-- ---- Renew

abbrev renewing : Core → ℕ → Server
renewing c a = record (c.servers a) { expiry = lease_to c.setting c.now }

renewing_alike : (c : Core) (a : ℕ) → AreAlike (put c.servers a (renewing c a)) c.servers
renewing_alike c a = put_alike c.servers a (renewing c a) (record { phase = refl; failed = refl; recovery = refl; ring = refl })

module _ (c : Core) (disk : Sectors) (w : World) (a : ℕ) (t : AreTied c disk w) (server : IsTrue (is_server a)) (m : lease_to c.setting c.now ≡ w.now + LEASE_TICKS) where
  abbrev new : Server
  new = renewing c a

  alike : AreAlike (put c.servers a new) c.servers
  alike = renewing_alike c a

  expires : (b : ℕ) → put w.expiry a (w.now + LEASE_TICKS) b ≡ expiry_at c.now b (put c.servers a new b).expiry
  expires b =
      at_put (λ x. x ≡ expiry_at c.now b (put c.servers a new b).expiry) w.expiry a (w.now + LEASE_TICKS) b
      (λ e. at_put (λ x. w.now + LEASE_TICKS ≡ expiry_at c.now b x.expiry) c.servers a new b (λ i. sym m ∙ sym (own_lease c.now b (lease_to c.setting c.now) (ap (λ n. n == host_party) e ∙ server_no_host a server)))
      (λ n. absurd (n e)))
      (λ n. at_put (λ x. w.expiry b ≡ expiry_at c.now b x.expiry) c.servers a new b (λ e. absurd (n e)) (λ o. t.lives.expiry b))

  pub renew_keeps : AreTied (renewed c a) disk (after w (Renew a))
  renew_keeps = record {
    lives = record {
      now = t.lives.now;
      phase = λ b. t.lives.phase b ∙ ap phase_of (sym (alike.phase b));
      expiry = expires;
      well = λ b e. t.lives.well b (sym (alike.failed b) ∙ e);
    };
    locks = locks_renewed c.locks w a (lease_to c.setting c.now) (w.now + LEASE_TICKS) m t.locks (after w (Renew a)) refl refl refl;
    cached = λ b s. subst (λ k. IsCachedAs (has_version w s) (cover w s) (value_at k s) (w.slot b s) (w.page b s)) (sym (put_as (λ x. x.cache) c.servers a new refl b)) (t.cached b s);
    marked = marked_alike (put c.servers a new) c.servers alike (after w (Renew a)) (put_as (λ x. x.cache) c.servers a new refl) t.marked;
    flying = t.flying;
    disk = t.disk;
    rescues = λ e. rescues_alike (put c.servers a new) c.servers alike (after w (Renew a)) c.flights (t.rescues e);
    logged = logged_alike (put c.servers a new) c.servers alike (after w (Renew a)) t.logged;
  }

  pub renew_guard : CanRenew c a → guards.CanRenew w a
  renew_guard can = record {
    alive = λ e. alive_up (c.servers a).phase can.up (sym (t.lives.phase a) ∙ e);
    later = later (c.servers a).expiry (lease_to c.setting c.now) (ltb-true (c.servers a).expiry (lease_to c.setting c.now) can.less)
        (t.lives.expiry a ∙ own_lease c.now a (c.servers a).expiry (server_no_host a server)) m;
  }
    where
      later : (x y : ℕ) → x < y → w.expiry a ≡ x → y ≡ w.now + LEASE_TICKS → w.expiry a < w.now + LEASE_TICKS
      later x y l e i = subst (λ n. n < w.now + LEASE_TICKS) (sym e) (subst (λ n. x < n) i l)

pub renews : RenewsAreEvents
renews s w journal a r t makes = record {
  leads = record {
    events = Renew a ∷ [];
    world = after w (Renew a);
    run = goes (renew_guard s.core s.disk w a t.tied server m can) stays;
    is = record {
      tied = renew_keeps s.core s.disk w a t.tied server m;
      journals = journals_alike (put s.core.servers a (renewing s.core a)) s.core.servers (renewing_alike s.core a) (after w (Renew a)) s.core.now s.core.flights s.disk journal t.journals;
      readings = readings_alike (put s.core.servers a (renewing s.core a)) s.core.servers (renewing_alike s.core a) (after w (Renew a)) s.core.setting.segments t.readings;
    };
  };
  story = record { servers = refl; opening = refl; logged = refl; first = refl; home = refl; history = refl };
  quiet = (tt, tt);
}
  where
    can : CanRenew s.core a
    can = makes.can.can

    server : IsTrue (is_server a)
    server = can.server

    m : lease_to s.core.setting s.core.now ≡ w.now + LEASE_TICKS
    m = lasts s r s.core.now ∙ ap (λ n. n + LEASE_TICKS) (sym t.tied.lives.now)

-- ---- Tick

-- what is to stay wanted is all that a tick changes of a server
wanting_as : {X : Type 0} (f : Server → X) (server : Server) → f (wanting_all server) ≡ f server → (b up : Bool) → f (if b then (if up then wanting_all server else server) else server) ≡ f server
wanting_as f server same true true = same
wanting_as f server same true false = refl
wanting_as f server same false up = refl

flushed_as : {X : Type 0} (c : Core) (now : ℕ) (f : Server → X) → ((x : Server) → f (wanting_all x) ≡ f x) → (b : ℕ) → f (flushed_at c now b) ≡ f (c.servers b)
flushed_as c now f same b = wanting_as f (c.servers b) (same (c.servers b)) (now % c.setting.flush_ticks == 0) (life.is_up (c.servers b).phase)

flushed_alike : (c : Core) (now : ℕ) → AreAlike (flushed_at c now) c.servers
flushed_alike c now = record {
  phase = flushed_as c now (λ x. x.phase) (λ x. refl);
  failed = flushed_as c now (λ x. x.failed) (λ x. refl);
  recovery = flushed_as c now (λ x. x.recovery) (λ x. refl);
  ring = flushed_as c now (λ x. x.ring) (λ x. refl);
}

-- what may come in time a tick later may now
sooner : (now stamp : ℕ) → now + 1 ≤ stamp → now ≤ stamp
sooner now stamp l = omega arith

-- a journal goes on as time passes
later_journal : (phase : life.Phase) (ring : Ring) (now : ℕ) (flights : core.Flights) (disk : Sectors) (log : SectorLog) (a : ℕ) (j : Journal) → IsJournal phase ring now flights disk log a j →
    IsJournal phase ring (now + 1) flights disk log a j
later_journal phase ring now flights disk log a j g = record {
  good = g.good;
  ring_is = g.ring_is;
  slots = g.slots;
  counted = g.counted;
  sent = λ one number i e p l. g.sent one number i e p (sooner now one.1.stamp l);
  records = g.records;
}

later_log : (phase : life.Phase) (ring : Ring) (now : ℕ) (flights : core.Flights) (disk : Sectors) (log : SectorLog) (a : ℕ) (j : Journal) → IsLogOf phase ring now flights disk log a j →
    IsLogOf phase ring (now + 1) flights disk log a j
later_log life.Off ring now flights disk log a j g = g
later_log life.Up ring now flights disk log a j g = later_journal life.Up ring now flights disk log a j g
later_log life.Still ring now flights disk log a j g = later_journal life.Still ring now flights disk log a j g
later_log (life.Doomed fate) ring now flights disk log a j g = later_journal (life.Doomed fate) ring now flights disk log a j g
later_log life.Dead ring now flights disk log a j g = later_journal life.Dead ring now flights disk log a j g

module _ (c : Core) (disk : Sectors) (w : World) (t : AreTied c disk w) (off : (c.servers host_party).phase ≡ life.Off) (m : lease_to c.setting (c.now + 1) ≡ c.now + 1 + LEASE_TICKS) where
  abbrev ticking : World
  ticking = after w Tick

  abbrev ticked_world : World
  ticked_world = after ticking (Renew host_party)

  abbrev flushed : ℕ → Server
  flushed = flushed_at c (c.now + 1)

  so : AreAlike flushed c.servers
  so = flushed_alike c (c.now + 1)

  moment : c.now + 1 + LEASE_TICKS ≡ w.now + 1 + LEASE_TICKS
  moment = ap (λ n. n + 1 + LEASE_TICKS) (sym t.lives.now)

  expires_next : (b : ℕ) → put w.expiry host_party (w.now + 1 + LEASE_TICKS) b ≡ expiry_at (c.now + 1) b (flushed b).expiry
  expires_next b =
      at_put (λ x. x ≡ expiry_at (c.now + 1) b (flushed b).expiry) w.expiry host_party (w.now + 1 + LEASE_TICKS) b
      (λ e. sym moment ∙ sym (ap (λ x. if x then c.now + 1 + LEASE_TICKS else (flushed b).expiry) (ap (λ n. n == host_party) e)))
      (λ n. t.lives.expiry b ∙ own_lease c.now b (c.servers b).expiry (apart n) ∙ sym (flushed_as c (c.now + 1) (λ x. x.expiry) (λ x. refl) b)
      ∙ sym (own_lease (c.now + 1) b (flushed b).expiry (apart n)))
    where
      apart : b ≢ host_party → (b == host_party) ≡ false
      apart n = grind (arith, nat_tests, n)

  flies : AreFlying c.setting.segments c.now c.flights w → AreFlying c.setting.segments (c.now + 1) c.flights ticked_world
  flies f = record {
    flight = f.flight;
    bytes = f.bytes;
    shown = λ one i l e. f.shown one i (sooner c.now one.1.stamp l) e;
  }

  pub tick_keeps : AreTied (ticked c) disk ticked_world
  tick_keeps = record {
    lives = record {
      now = ap (λ n. n + 1) t.lives.now;
      phase = λ b. t.lives.phase b ∙ ap phase_of (sym (so.phase b));
      expiry = expires_next;
      well = λ b e. t.lives.well b (sym (so.failed b) ∙ e);
    };
    locks = locks_renewed c.locks ticking host_party (lease_to c.setting (c.now + 1)) (w.now + 1 + LEASE_TICKS) (m ∙ moment) t.locks ticked_world refl refl refl;
    cached = λ b s. subst (λ k. IsCachedAs (has_version w s) (cover w s) (value_at k s) (w.slot b s) (w.page b s)) (sym (flushed_as c (c.now + 1) (λ x. x.cache) (λ x. refl) b)) (t.cached b s);
    marked = marked_alike flushed c.servers so ticked_world (flushed_as c (c.now + 1) (λ x. x.cache) (λ x. refl)) t.marked;
    flying = λ e. flies (t.flying e);
    disk = t.disk;
    rescues = λ e. rescues_alike flushed c.servers so ticked_world c.flights (t.rescues e);
    logged = logged_alike flushed c.servers so ticked_world t.logged;
  }

  pub tick_guard : guards.CanRenew ticking host_party
  tick_guard = record {
    alive = λ e. off_dead (sym (t.lives.phase host_party ∙ ap phase_of off) ∙ e);
    later = subst (λ n. n < w.now + 1 + LEASE_TICKS) (sym (t.lives.expiry host_party)) (subst (λ n. n + LEASE_TICKS < w.now + 1 + LEASE_TICKS) t.lives.now (next w.now LEASE_TICKS));
  }
    where
      off_dead : Off ≢ Dead
      off_dead e = cc

      next : (n l : ℕ) → n + l < n + 1 + l
      next n l = omega arith

pub ticks : HostsAreOff → TicksAreEvents
ticks hosts s w journal r t makes = record {
  leads = record {
    events = Tick ∷ Renew host_party ∷ [];
    world = after (after w Tick) (Renew host_party);
    run = goes tt (goes (tick_guard s.core s.disk w t.tied off m) stays);
    is = record {
      tied = tick_keeps s.core s.disk w t.tied off m;
      journals = journals_alike (flushed_at s.core (s.core.now + 1)) s.core.servers same (after (after w Tick) (Renew host_party)) (s.core.now + 1) s.core.flights s.disk journal
          (λ b who. later_log (s.core.servers b).phase (s.core.servers b).ring s.core.now s.core.flights s.disk (sector_log w b) b (journal b) (t.journals b who));
      readings = readings_alike (flushed_at s.core (s.core.now + 1)) s.core.servers same (after (after w Tick) (Renew host_party)) s.core.setting.segments t.readings;
    };
  };
  story = record { servers = refl; opening = refl; logged = refl; first = refl; home = refl; history = refl };
  quiet = (tt, (tt, tt));
}
  where
    m : lease_to s.core.setting (s.core.now + 1) ≡ s.core.now + 1 + LEASE_TICKS
    m = lasts s r (s.core.now + 1)

    off : (s.core.servers host_party).phase ≡ life.Off
    off = hosts s r

    same : AreAlike (flushed_at s.core (s.core.now + 1)) s.core.servers
    same = flushed_alike s.core (s.core.now + 1)
