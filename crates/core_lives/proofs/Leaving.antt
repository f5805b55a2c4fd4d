-- A clean server whose locks are given back: what the table, the caches, recoveries and logs are then.
use Rattle.std.proofs.Common.{◌≡◌, ◌≢◌, ◌⊎◌, ℕ, ◌≤◌, ◌==◌, Bool, true, false, ◌&&◌, ◌||◌, if◌then◌else◌, IsTrue, List, [], map, Option, Some, None, refl, sym, ap, ◌∙◌, subst, inl, inr, ⊎_elim}
use Rattle.std.proofs.Math.ListN.{get_or-map}
use Rattle.std.proofs.lemmas.Bool.{cases_eq, eqb-true, false≢true, or_left}
use Rattle.std.proofs.lemmas.List.{get_or-set_other}
use Rattle.std.proofs.lemmas.Option.{none-some}
use Rattle.std.specs.Map.{keys_of}
use Rattle.std.specs.Option.{is_some}
use Rattle.frang_base.specs.Functions.{put}
use Rattle.frang_base.specs.declared.lock.LockId.{LockId}
use Rattle.frang_base.proofs.Basics.{at_put}
use Rattle.lock_definitions.specs.declared.claim.LogHold.{LogHold}
use Rattle.lock_definitions.specs.Calls.{cleared, hold_not_by}
use Rattle.lock_definitions.specs.Locks.{AreLocks, Locks, claim_in, claims_of, held, log_hold}
use Rattle.lock_definitions.proofs.Wants.{no_claims_left, no_logs_left}
use Rattle.sector_bytes.specs.SectorMaps.{value_at}
use Rattle.sector_bytes.specs.Sectors.{Sectors}
use Rattle.core_definitions.specs.Cores.{Core, clean_at}
use Rattle.core_definitions.specs.LineGuards.{is_server}
use Rattle.core_definitions.specs.Recoveries.{redos}
use Rattle.core_definitions.specs.Logs.{is_read}
use Rattle.core_definitions.specs.Rings.{is_all_reached}
use Rattle.core_definitions.specs.Runs.{State as RunMoment}
use Rattle.core_definitions.specs.Scripts.{host_party}
use Rattle.core_definitions.specs.Servers as life
use Rattle.core_definitions.specs.Servers.{Server, is_dead, is_in_mount, is_up}
use Rattle.core_definitions.specs.Settings.{disk_logs, setting_of}
use Rattle.core_facts.specs.Holds.{HoldsAreOfRecoveries, HoldsAreOnTheDead}
use Rattle.core_facts.specs.Stamps.{InTimeAreFresh, WhoLivesHasFreshWrites}
use Rattle.sector_world.proofs.Every.{good_run}
use Rattle.sector_world.specs.Kinds.{Good}
use Rattle.sector_world.specs.Steps.{Event, Run}
use Rattle.sector_world.specs.World.{World, Absent, NoPage, cover, has_version}
use Rattle.core_world.specs.Journals.{AreReadings}
use Rattle.core_world.specs.Readings.{AreNamed, ReadsAs}
use Rattle.core_world.specs.Steps.{IsReached}
use Rattle.core_world.specs.Quiet.{AllQuiet}
use Rattle.core_world.specs.Ties.{AreLogged, AreRescues, AreTied, IsCachedAs, IsMarkedAs, IsRescueOf, IsStuck}
use Rattle.core_lives.proofs.Alike.{mounted_up}
use Rattle.core_lives.proofs.Emptying.{GivesAll, HasNothing, HasNothingToWrite, IsClean, all_given, clean_parts, emptied, listed, nothing_to_write}

-- ---- the table

pub held_cleared : (locks : Locks) → AreLocks locks → (a : ℕ) (lock : LockId) → held (cleared locks a) a lock ≡ None
held_cleared locks are a lock = ap (λ claims. (claim_in claims lock).held) (no_claims_left locks are a)

pub held_elsewhere : (locks : Locks) (a b : ℕ) (lock : LockId) → b ≢ a → held (cleared locks a) b lock ≡ held locks b lock
held_elsewhere locks a b lock apart = ap (λ claims. (claim_in claims lock).held) (get_or-set_other locks.clerks a b [] [] apart)

-- who has taken no log, and whose log nobody has taken, leaves the holds on logs as they are
pub hold_stays : (locks : Locks) (a : ℕ) → ((d : ℕ) (hold : LogHold) → log_hold locks d ≡ Some hold → hold.by.0 ≡ a → ⊥) → log_hold locks a ≡ None → (d : ℕ) →
    log_hold (cleared locks a) d ≡ log_hold locks d
hold_stays locks a taken own d = go (cases_eq d a)
  where
    none : (o : Option LogHold) → log_hold (cleared locks a) d ≡ o → d ≡ a → o ≡ None
    none None e at = refl
    none (Some hold) e at = absurd ((no_logs_left locks a d hold e).1 at)

    kept : (o : Option LogHold) → log_hold locks d ≡ o → hold_not_by a o ≡ o
    kept None e = refl
    kept (Some hold) e = by (hold.by.0 == a) refl
      where
        by : (b : Bool) → (hold.by.0 == a) ≡ b → (if b then None else Some hold) ≡ Some hold
        by true f = absurd (taken d hold e (eqb-true hold.by.0 a f))
        by false f = refl

    go : (d ≡ a) ⊎ (d ≡ a → ⊥) → log_hold (cleared locks a) d ≡ log_hold locks d
    go (inl at) = none (log_hold (cleared locks a) d) refl at ∙ sym (ap (log_hold locks) at ∙ own)
    go (inr apart) = get_or-set_other (map (hold_not_by a) locks.logs) a d None None apart ∙ get_or-map (hold_not_by a) locks.logs d None ∙ kept (log_hold locks d) refl

-- ---- who leaves

pub record IsLeaving (s : RunMoment) (a : ℕ) : Type 0 where
  pub mounted : is_in_mount (s.core.servers a).phase ≡ true
  pub clean : IsClean s.core a
  pub alone : (s.core.servers a).recovery ≡ None
  pub fresh : InTimeAreFresh s.core a
  pub taken : (d : ℕ) (hold : LogHold) → log_hold s.core.locks d ≡ Some hold → hold.by.0 ≡ a → ⊥
  pub own : log_hold s.core.locks a ≡ None

pub none_of : {X : Type 0} (o : Option X) → is_some o ≡ false → o ≡ None
none_of None e = refl
none_of (Some x) e = absurd (false≢true (sym e))

pub mounted_lives : (p : life.Phase) → is_in_mount p ≡ true → is_dead p ≡ false
mounted_lives life.Off e = refl
mounted_lives life.Up e = refl
mounted_lives life.Still e = refl
mounted_lives (life.Doomed fate) e = refl
mounted_lives life.Dead e = absurd (false≢true e)

pub leaving : WhoLivesHasFreshWrites → HoldsAreOfRecoveries → HoldsAreOnTheDead → (s : RunMoment) → IsReached s → (a : ℕ) → is_in_mount (s.core.servers a).phase ≡ true →
    IsTrue (clean_at s.core a) → IsLeaving s a
leaving fresh recover dead s r a mounted clean = record {
  mounted = mounted;
  clean = clean_parts s.core a clean;
  alone = alone;
  fresh = fresh (setting_of r.script r.segments r.number) r.disk s r.run a lives;
  taken = λ d hold e by. let x = recover (setting_of r.script r.segments r.number) r.disk s r.run a d hold e by
      (or_left (is_in_mount (s.core.servers a).phase) (a == host_party) mounted) in none-some x.0 (sym alone ∙ x.1);
  own = go (log_hold s.core.locks a) refl;
}
  where
    lives : is_dead (s.core.servers a).phase ≡ false
    lives = mounted_lives (s.core.servers a).phase mounted

    alone : (s.core.servers a).recovery ≡ None
    alone = none_of (s.core.servers a).recovery (clean_parts s.core a clean).alone

    go : (o : Option LogHold) → log_hold s.core.locks a ≡ o → o ≡ None
    go None e = refl
    go (Some hold) e = absurd (false≢true (sym lives ∙ dead (setting_of r.script r.segments r.number) r.disk s r.run a hold e))

-- ---- the world without its locks

-- the same but for what a server held and had cached, and it has nothing
pub record IsEmptied (a : ℕ) (w u : World) : Type 0 where
  pub same : u ≡ record w { holds = u.holds; slot = u.slot; page = u.page }
  pub holds : (b : ℕ) → b ≢ a → (lock : LockId) → u.holds b lock ≡ w.holds b lock
  pub slots : (b : ℕ) → b ≢ a → u.slot b ≡ w.slot b
  pub pages : (b : ℕ) → b ≢ a → u.page b ≡ w.page b
  pub nothing : HasNothing a u

-- to it lead Gives of the locks that stand in the table
pub record Empties (a : ℕ) (w : World) : Type 0 where
  pub events : List Event
  pub world : World
  pub run : Run w events world
  pub quiet : (segments : ℕ) → AllQuiet segments w events
  pub is : IsEmptied a w world

pub writes_nothing : (s : RunMoment) (w : World) (a : ℕ) → AreTied s.core s.disk w → s.core.over ≡ false → Good w → IsLeaving s a → HasNothingToWrite a w
writes_nothing s w a t going g l = nothing_to_write s.core s.disk w a t going g l.fresh l.clean (t.lives.phase a ∙ mounted_up (s.core.servers a).phase l.mounted)

pub empties : (s : RunMoment) (w : World) (a : ℕ) → AreTied s.core s.disk w → s.core.over ≡ false → Good w → IsLeaving s a → Empties a w
empties s w a t going g l = record {
  events = x.events;
  world = x.world;
  run = x.run;
  quiet = x.quiet;
  is = record {
    same = x.same;
    holds = x.holds;
    slots = x.slots;
    pages = x.pages;
    nothing = emptied a x.world (good_run w x.events x.world x.run g)
        (λ lock. ⊎_elim (λ none. x.free lock (t.locks.holds a lock ∙ none)) (λ i. x.given lock i) (listed (claims_of s.core.locks a) lock));
  };
}
  where
    x : GivesAll a (keys_of (claims_of s.core.locks a)) w
    x = all_given a (keys_of (claims_of s.core.locks a)) w (writes_nothing s w a t going g l)

-- ---- the ties, part by part

module _ (c : Core) (disk : Sectors) (w : World) (t : AreTied c disk w) (a : ℕ) (new : Server) (empty : new.cache ≡ []) (recovers : new.recovery ≡ None)
    (alone : (c.servers a).recovery ≡ None) where
  abbrev servers_after : ℕ → Server
  servers_after = put c.servers a new

  nothing_cached : (v : Bool) (k : LockId) → IsCachedAs v k None Absent NoPage
  nothing_cached true k = refl
  nothing_cached false k = (refl, inl refl)

  pub emptied_cached : (u : World) → IsEmptied a w u → (b s : ℕ) → IsCachedAs (has_version w s) (cover w s) (value_at (servers_after b).cache s) (u.slot b s) (u.page b s)
  emptied_cached u x b s = at_put (λ y. IsCachedAs (has_version w s) (cover w s) (value_at y.cache s) (u.slot b s) (u.page b s)) c.servers a new b own other
    where
      own : b ≡ a → IsCachedAs (has_version w s) (cover w s) (value_at new.cache s) (u.slot b s) (u.page b s)
      own e = subst (λ k. IsCachedAs (has_version w s) (cover w s) (value_at k s) (u.slot b s) (u.page b s)) (sym empty)
          (subst (λ k. IsCachedAs (has_version w s) (cover w s) None k (u.page b s)) (sym (ap (λ n. u.slot n s) e ∙ x.nothing.slots s))
          (subst (λ k. IsCachedAs (has_version w s) (cover w s) None Absent k) (sym (ap (λ n. u.page n s) e ∙ x.nothing.pages s)) (nothing_cached (has_version w s) (cover w s))))

      other : b ≢ a → IsCachedAs (has_version w s) (cover w s) (value_at (c.servers b).cache s) (u.slot b s) (u.page b s)
      other n = subst (λ k. IsCachedAs (has_version w s) (cover w s) (value_at (c.servers b).cache s) (k s) (u.page b s)) (sym (x.slots b n))
          (subst (λ k. IsCachedAs (has_version w s) (cover w s) (value_at (c.servers b).cache s) (w.slot b s) (k s)) (sym (x.pages b n)) (t.cached b s))

  pub emptied_marked : (u : World) → IsEmptied a w u → (b s : ℕ) → IsMarkedAs (servers_after b).ring.reached (w.acked b) (value_at (servers_after b).cache s) (u.slot b s) (u.page b s)
  emptied_marked u x b s = at_put (λ y. IsMarkedAs y.ring.reached (w.acked b) (value_at y.cache s) (u.slot b s) (u.page b s)) c.servers a new b own other
    where
      own : b ≡ a → IsMarkedAs new.ring.reached (w.acked b) (value_at new.cache s) (u.slot b s) (u.page b s)
      own e = subst (λ k. IsMarkedAs new.ring.reached (w.acked b) (value_at k s) (u.slot b s) (u.page b s)) (sym empty) tt

      other : b ≢ a → IsMarkedAs (c.servers b).ring.reached (w.acked b) (value_at (c.servers b).cache s) (u.slot b s) (u.page b s)
      other n = subst (λ k. IsMarkedAs (c.servers b).ring.reached (w.acked b) (value_at (c.servers b).cache s) (k s) (u.page b s)) (sym (x.slots b n))
          (subst (λ k. IsMarkedAs (c.servers b).ring.reached (w.acked b) (value_at (c.servers b).cache s) (w.slot b s) (k s)) (sym (x.pages b n)) (t.marked b s))

  pub emptied_rescues : c.over ≡ false → AreRescues servers_after c.flights w
  emptied_rescues going = record {
    under_way = λ by r. at_put (λ y. IsTrue ((is_server by && is_up y.phase) || by == host_party) → y.recovery ≡ Some r →
        IsRescueOf by r w.rescue ⊎ IsStuck by c.flights y.failed r) c.servers a new by
        (λ e who i. absurd (none-some r (sym recovers ∙ i))) (λ n. (t.rescues going).under_way by r);
    known = λ r e. let k = (t.rescues going).known r e in
        (k.0, at_put (λ y. y.recovery ≡ Some k.0) c.servers a new r.by (λ i. absurd (none-some k.0 (sym alone ∙ ap (λ n. (c.servers n).recovery) (sym i) ∙ k.1))) (λ n. k.1), k.2);
  }

  pub emptied_readings : AreReadings c.setting.segments c.servers w → AreReadings c.setting.segments servers_after w
  emptied_readings g by recovery =
      at_put (λ y. IsTrue ((is_server by && is_up y.phase) || by == host_party) → y.recovery ≡ Some recovery → IsTrue (is_read disk_logs recovery.slots) →
      ReadsAs w recovery.dead (redos disk_logs recovery) × AreNamed c.setting.segments w recovery.dead (redos disk_logs recovery)) c.servers a new by
      (λ e who i. absurd (none-some recovery (sym recovers ∙ i))) (λ n. g by recovery)

  pub emptied_logged : new.ring ≡ (c.servers a).ring → AreLogged servers_after w
  emptied_logged ring b = at_put (λ y. IsTrue (is_all_reached y.ring) → w.last b ≤ w.acked b) c.servers a new b
      (λ e i. t.logged b (subst (λ r. IsTrue (is_all_reached r)) (ring ∙ ap (λ n. (c.servers n).ring) (sym e)) i)) (λ n. t.logged b)

  pub emptied_holds : AreLocks c.locks → (u : World) → IsEmptied a w u → (b : ℕ) (lock : LockId) → u.holds b lock ≡ held (cleared c.locks a) b lock
  emptied_holds are u x b lock = go (cases_eq b a)
    where
      go : (b ≡ a) ⊎ (b ≡ a → ⊥) → u.holds b lock ≡ held (cleared c.locks a) b lock
      go (inl e) = ap (λ n. u.holds n lock) e ∙ x.nothing.holds lock ∙ sym (ap (λ n. held (cleared c.locks a) n lock) e ∙ held_cleared c.locks are a lock)
      go (inr n) = x.holds b n lock ∙ t.locks.holds b lock ∙ sym (held_elsewhere c.locks a b lock n)
