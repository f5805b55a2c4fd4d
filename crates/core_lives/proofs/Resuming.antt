-- A Resume is a Give of each lock, and Renew.
use Rattle.std.proofs.Common.{◌≡◌, ◌≢◌, ℕ, ◌+◌, ◌<◌, ◌==◌, Bool, true, false, if◌then◌else◌, IsTrue, [], ◌∷◌, ◌++◌, Option, Some, None, nat_lt, refl, sym, ap, ◌∙◌, subst, arith}
use Rattle.std.proofs.lemmas.Bool.{and_parts, eqb-true, ltb-true, not-true}
use Rattle.frang_base.specs.Functions.{put}
use Rattle.frang_base.specs.declared.limits.TheConstants.{LEASE_TICKS}
use Rattle.frang_base.proofs.Basics.{at_put}
use Rattle.lock_definitions.specs.declared.claim.LogHold.{LogHold}
use Rattle.lock_definitions.specs.Calls.{cleared}
use Rattle.lock_definitions.specs.Locks.{AreLocks, log_hold}
use Rattle.core_definitions.specs.Cores.{Core}
use Rattle.core_definitions.specs.Events.{Resume, Nothing}
use Rattle.core_definitions.specs.LineGuards.{is_server}
use Rattle.core_definitions.specs.Runs.{State as RunMoment, Makes, next}
use Rattle.core_definitions.specs.Servers as life
use Rattle.core_definitions.specs.Servers.{Server, is_still}
use Rattle.core_definitions.specs.Settings.{lease_to, setting_of}
use Rattle.core_definitions.specs.WriteEffects.{up_again}
use Rattle.core_definitions.specs.WriteGuards.{CanResume}
use Rattle.core_facts.specs.Holds.{HoldsAreOfRecoveries, HoldsAreOnTheDead}
use Rattle.core_facts.specs.Stamps.{WhoLivesHasFreshWrites}
use Rattle.core_laws.proofs.Keeping.{locks_of_run}
use Rattle.core_laws.proofs.Resting.{server_no_host}
use Rattle.sector_world.specs.Guards as guards
use Rattle.sector_world.specs.Kinds.{Good}
use Rattle.sector_world.specs.Steps as sectors
use Rattle.sector_world.specs.Steps.{after, stays, goes}
use Rattle.sector_world.specs.Steps.Event.{Renew}
use Rattle.sector_world.specs.World.{World, Up, Dead}
use Rattle.core_world.specs.Events.{LeadsQuietly}
use Rattle.core_world.specs.Journals.{AreJournals, AreReadings, IsLogOf, Journal, sector_log}
use Rattle.core_world.proofs.Quiet.{quiet_both}
use Rattle.core_world.specs.Steps.{IsReached, IsWorldOf}
use Rattle.core_world.specs.Ties.{AreTied, phase_of, taker_of, until_of}
use Rattle.core_world.proofs.Living.{lasts}
use Rattle.core_lives.proofs.Alike.{mounted_journal, mounted_up}
use Rattle.core_lives.proofs.Emptying.{joined}
use Rattle.core_lives.proofs.Leases.{lease_begun, own_lease}
use Rattle.core_lives.proofs.Leaving.{Empties, IsEmptied, IsLeaving, emptied_cached, emptied_holds, emptied_logged, emptied_marked, emptied_readings, emptied_rescues, empties, hold_stays, leaving}
use Rattle.core_lives.proofs.Phases.{still_mounted}

-- a hold of none of its own isn't extended
not_extended : (a moment old : ℕ) (hold : Option LogHold) → ((x : LogHold) → hold ≡ Some x → x.by.0 ≡ a → ⊥) → (if sectors.is_taker a (taker_of hold) then moment else old) ≡ old
not_extended a moment old None apart = refl
not_extended a moment old (Some hold) apart = go (hold.by.0 == a) refl
  where
    go : (b : Bool) → (hold.by.0 == a) ≡ b → (if b then moment else old) ≡ old
    go true e = absurd (apart hold refl (eqb-true hold.by.0 a e))
    go false e = refl

module _ (s : RunMoment) (w u : World) (a : ℕ) (t : AreTied s.core s.disk w) (l : IsLeaving s a) (x : IsEmptied a w u) (are : AreLocks s.core.locks) (server : IsTrue (is_server a))
    (m : lease_to s.core.setting s.core.now ≡ w.now + LEASE_TICKS) where
  abbrev c : Core
  c = s.core

  abbrev new : Server
  new = up_again c.setting c.now (c.servers a)

  abbrev left : World
  left = record w { holds = u.holds; slot = u.slot; page = u.page }

  abbrev later : World
  later = after left (Renew a)

  up : w.phase a ≡ Up
  up = t.lives.phase a ∙ mounted_up (c.servers a).phase l.mounted

  resumed_tied : AreTied (record c { servers = put c.servers a new; locks = cleared c.locks a }) s.disk later
  resumed_tied = record {
    lives = record {
      now = t.lives.now;
      phase = λ b. at_put (λ y. w.phase b ≡ phase_of y.phase) c.servers a new b (λ e. ap w.phase e ∙ up) (λ n. t.lives.phase b);
      expiry = lease_begun c.servers w c.now a new server m t.lives.expiry;
      well = λ b. at_put (λ y. y.failed ≡ false → w.phase b ≡ Up → w.sick b ≡ false) c.servers a new b (λ e i. t.lives.well b (ap (λ n. (c.servers n).failed) e ∙ i))
          (λ n. t.lives.well b);
    };
    locks = record {
      holds = emptied_holds c s.disk w t a new refl refl l.alone are u x;
      taker = λ d. t.locks.taker d ∙ ap taker_of (sym (hold_stays c.locks a l.taken l.own d));
      until = λ d. ap (λ o. if sectors.is_taker a o then w.now + LEASE_TICKS else w.until d) (t.locks.taker d)
          ∙ not_extended a (w.now + LEASE_TICKS) (w.until d) (log_hold c.locks d) (l.taken d)
          ∙ t.locks.until d ∙ ap until_of (sym (hold_stays c.locks a l.taken l.own d));
    };
    cached = emptied_cached c s.disk w t a new refl refl l.alone u x;
    marked = emptied_marked c s.disk w t a new refl refl l.alone u x;
    flying = t.flying;
    disk = t.disk;
    rescues = emptied_rescues c s.disk w t a new refl refl l.alone;
    logged = emptied_logged c s.disk w t a new refl refl l.alone refl;
  }

  -- a stalled server's log goes on
  resumed_journals : (journal : ℕ → Journal) → AreJournals c.servers c.now c.flights s.disk w journal → AreJournals (put c.servers a new) c.now c.flights s.disk later journal
  resumed_journals journal g b who = at_put (λ y. IsLogOf y.phase y.ring c.now c.flights s.disk (sector_log w b) b (journal b)) c.servers a new b own (λ n. g b who)
    where
      own : b ≡ a → IsLogOf life.Up (c.servers a).ring c.now c.flights s.disk (sector_log w b) b (journal b)
      own e = mounted_journal (c.servers a).phase l.mounted (c.servers a).ring c.now c.flights s.disk (sector_log w b) b (journal b)
          (subst (λ n. IsLogOf (c.servers n).phase (c.servers n).ring c.now c.flights s.disk (sector_log w b) b (journal b)) e (g b who))

  renew_can : (c.servers a).expiry < c.now → guards.CanRenew left a
  renew_can past = record {
    alive = λ e. up_dead (sym up ∙ e);
    later = later_than (c.servers a).expiry past (t.lives.expiry a ∙ own_lease c.now a (c.servers a).expiry (server_no_host a server));
  }
    where
      up_dead : Up ≢ Dead
      up_dead e = cc

      later_than : (n : ℕ) → n < c.now → w.expiry a ≡ n → w.expiry a < w.now + LEASE_TICKS
      later_than n p e = subst (λ k. k < w.now + LEASE_TICKS) (sym e) (further n c.now w.now p t.lives.now)
        where
          further : (n now time : ℕ) → n < now → time ≡ now → n < time + LEASE_TICKS
          further n now time p e = omega arith

pub resumes : WhoLivesHasFreshWrites → HoldsAreOfRecoveries → HoldsAreOnTheDead → (s : RunMoment) (w : World) (journal : ℕ → Journal) (a : ℕ) → IsReached s →
    IsWorldOf s w journal → Good w →
    Makes s (Resume a) Nothing → LeadsQuietly w (next s (Resume a) Nothing) journal
resumes fresh recover dead s w journal a r t g makes = record {
  leads = record {
    events = x.events ++ Renew a ∷ [];
    world = after x.world (Renew a);
    run = joined w x.world (after x.world (Renew a)) x.events (Renew a ∷ []) x.run
        (goes (subst (λ v. guards.CanRenew v a) (sym x.is.same) (renew_can s w x.world a t.tied l x.is are can.server m past.1)) stays);
    is = record {
      tied = subst (λ v. AreTied (next s (Resume a) Nothing).core s.disk (after v (Renew a))) (sym x.is.same) (resumed_tied s w x.world a t.tied l x.is are can.server m);
      journals = subst (λ v. AreJournals (next s (Resume a) Nothing).core.servers s.core.now s.core.flights s.disk (after v (Renew a)) journal) (sym x.is.same)
          (resumed_journals s w x.world a t.tied l x.is are can.server m journal t.journals);
      readings = subst (λ v. AreReadings s.core.setting.segments (next s (Resume a) Nothing).core.servers (after v (Renew a))) (sym x.is.same)
          (emptied_readings s.core s.disk w t.tied a (up_again s.core.setting s.core.now (s.core.servers a)) refl refl l.alone t.readings);
    };
  };
  story = record {
    servers = ap (λ v. v.servers) x.is.same;
    opening = ap (λ v. v.opening) x.is.same;
    logged = ap (λ v. v.logged) x.is.same;
    first = ap (λ v. v.first) x.is.same;
    home = ap (λ v. v.home) x.is.same;
    history = ap (λ v. v.history) x.is.same;
  };
  quiet = quiet_both s.core.setting.segments w x.world x.events (Renew a ∷ []) x.run (x.quiet s.core.setting.segments) (tt, tt);
}
  where
    can : CanResume s.core a
    can = makes.can.can

    past : IsTrue (is_still (s.core.servers a).phase) × ((s.core.servers a).expiry < s.core.now)
    past = let p = and_parts (is_still (s.core.servers a).phase) (nat_lt (s.core.servers a).expiry s.core.now) can.past in (p.0, ltb-true (s.core.servers a).expiry s.core.now p.1)

    l : IsLeaving s a
    l = leaving fresh recover dead s r a (still_mounted (s.core.servers a).phase past.0) can.clean

    are : AreLocks s.core.locks
    are = locks_of_run (setting_of r.script r.segments r.number) r.disk s r.run

    x : Empties a w
    x = empties s w a t.tied (not-true _ makes.can.going) g l

    m : lease_to s.core.setting s.core.now ≡ w.now + LEASE_TICKS
    m = lasts s r s.core.now ∙ ap (λ n. n + LEASE_TICKS) (sym t.tied.lives.now)
