-- Ask is Take where the lock is granted, and nothing where the wish is noted.
use Rattle.std.proofs.Common.{◌≡◌, ◌≢◌, ℕ, ◌<◌, ◌==◌, Bool, true, false, not, ◌&&◌, if◌then◌else◌, IsTrue, List, [], ◌∷◌, length, Option, Some, None, refl, sym, ap, ◌∙◌, subst, arith}
use Rattle.std.proofs.lemmas.Bool.{false≢true, not-true, ltb-true}
use Rattle.std.proofs.lemmas.Bool.Decides.{nat_tests}
use Rattle.std.specs.List.{find}
use Rattle.frang_base.specs.declared.lock.LockId.{LockId}
use Rattle.frang_base.specs.declared.lock.Mode.{Mode}
use Rattle.frang_base.specs.declared.lock.Mode.TheVariants.{Shared, Sole}
use Rattle.lock_definitions.specs.Locks.{AreLocks, claim_of, held}
use Rattle.lock_definitions.specs.Calls.{answered, changed, clashes, granted, serves, want_answer, wishing}
use Rattle.lock_definitions.specs.declared.claim.Wanted.{Wanted}
use Rattle.lock_definitions.specs.declared.claim.Wanted.TheVariants.{Granted, Wait}
use Rattle.lock_definitions.proofs.Answers.{granted_exactly}
use Rattle.sector_bytes.specs.Sectors.{Sectors}
use Rattle.disk_definitions.specs.Plans.{Lock}
use Rattle.tree_definitions.specs.Apply.{is_path_op}
use Rattle.core_definitions.specs.Cores.{Core}
use Rattle.core_definitions.specs.Events.{Ask, Nothing}
use Rattle.core_definitions.specs.Lines.{Under}
use Rattle.core_definitions.specs.LineGuards.{CanAsk}
use Rattle.core_definitions.specs.Runs.{next}
use Rattle.core_definitions.specs.Servers as life
use Rattle.core_definitions.specs.Servers.{Server, asks}
use Rattle.core_definitions.specs.Settings.{setting_of}
use Rattle.core_laws.proofs.Asked.{Claiming, asked_next, asked_under, serves_need, stage_asks}
use Rattle.core_laws.proofs.Keeping.{locks_of_run}
use Rattle.sector_world.specs.World.{World}
use Rattle.sector_world.specs.Guards.{CanTake, Fits}
use Rattle.sector_world.specs.Steps.{after, stays, goes}
use Rattle.sector_world.specs.Steps.Event.{Take}
use Rattle.core_world.specs.Events.{AsksAreEvents, LeadsQuietly}
use Rattle.core_world.specs.Ties.{AreTied}
use Rattle.core_world.proofs.Giving.{put_held, up_is}
use Rattle.core_world.proofs.Tables.{held_granted, held_wished}

-- ---- what is asked isn't held

found_passes : {X : Type 0} (test : X → Bool) (xs : List X) (x : X) → find test xs ≡ Some x → test x ≡ true
found_passes test [] x e = absurd (cc)
found_passes test (y ∷ ys) x e = go (test y) refl e (found_passes test ys x)
  where
    go : (b : Bool) → test y ≡ b → (if b then Some y else find test ys) ≡ Some x → (find test ys ≡ Some x → test x ≡ true) → test x ≡ true
    go true i j rest = let same : y ≡ x = cc in subst (λ z. test z ≡ true) same i
    go false i j rest = rest j

asked_is : (claim : Claiming) (server : Server) (need : Lock) → asked_next claim server ≡ Some need → IsTrue (life.is_up server.phase) × (serves (claim need.0).held need.1 ≡ false)
asked_is claim server need = go (life.is_up server.phase) (asks is_path_op server) server.under
  where
    go : (u p : Bool) (under : Option Under) → (if u && p then asked_under claim under else None) ≡ Some need → IsTrue u × (serves (claim need.0).held need.1 ≡ false)
    go true true None e = absurd (cc)
    go true true (Some under) e = (refl, not-true _ (found_passes (λ n. not (serves_need claim n)) under.set need e))
    go true false under e = absurd (cc)
    go false p under e = absurd (cc)

fits_of : (mode : Mode) (h : Option Mode) → clashes mode h ≡ false → Fits mode h
fits_of mode None e = tt
fits_of Shared (Some Shared) e = tt
fits_of Sole (Some Shared) e = absurd (false≢true (sym e))
fits_of Shared (Some Sole) e = absurd (false≢true (sym e))
fits_of Sole (Some Sole) e = absurd (false≢true (sym e))

-- ---- the event

module _ (c : Core) (disk : Sectors) (w : World) (a : ℕ) (lock : LockId) (mode : Mode) (t : AreTied c disk w) (are : AreLocks c.locks) (inside : a < length c.locks.clerks)
    (up : IsTrue (life.is_up (c.servers a).phase)) (lacks : serves (held c.locks a lock) mode ≡ false) where
  take_guard : want_answer c.locks a lock mode ≡ Granted → CanTake w a lock mode
  take_guard answer = record {
    up = t.lives.phase a ∙ up_is (c.servers a).phase up;
    more = λ e. false≢true (sym lacks ∙ ap (λ o. serves o mode) (sym (t.locks.holds a lock) ∙ e));
    fits = λ b n. subst (Fits mode) (sym (t.locks.holds b lock)) (fits_of mode (held c.locks b lock) (other b n ((granted_exactly c.locks are a lock mode).0 answer b)));
  }
    where
      other : (b : ℕ) → b ≢ a → (not (b == a) && clashes mode (held c.locks b lock)) ≡ false → clashes mode (held c.locks b lock) ≡ false
      other b n e = ap (λ x. not x && clashes mode (held c.locks b lock)) (sym (apart n)) ∙ e
        where
          apart : b ≢ a → (b == a) ≡ false
          apart m = grind (arith, nat_tests, m)

  granted_keeps : AreTied (record c { locks = changed c.locks a lock (granted mode) }) disk (after w (Take a lock mode))
  granted_keeps = record {
    lives = t.lives;
    locks = record {
      holds = λ b k. put_held w.holds (held c.locks) t.locks.holds a lock (Some mode) b k ∙ held_granted c.locks are a inside lock mode lacks b k;
      taker = t.locks.taker;
      until = t.locks.until;
    };
    cached = t.cached;
    marked = t.marked;
    flying = t.flying;
    disk = t.disk;
    rescues = t.rescues;
    logged = t.logged;
  }

  wished_keeps : AreTied (record c { locks = changed c.locks a lock (wishing mode) }) disk w
  wished_keeps = record {
    lives = t.lives;
    locks = record {
      holds = λ b k. t.locks.holds b k ∙ held_wished c.locks are a inside lock mode b k;
      taker = t.locks.taker;
      until = t.locks.until;
    };
    cached = t.cached;
    marked = t.marked;
    flying = t.flying;
    disk = t.disk;
    rescues = t.rescues;
    logged = t.logged;
  }

pub asks_so : AsksAreEvents
asks_so s w journal a lock mode r t makes = go (want_answer s.core.locks a lock mode) refl
  where
    are : AreLocks s.core.locks
    are = locks_of_run (setting_of r.script r.segments r.number) r.disk s r.run

    can : CanAsk s.core a lock mode
    can = makes.can.can

    inside : a < length s.core.locks.clerks
    inside = subst (λ n. a < n) (sym are.servers) (ltb-true a 16 can.server)

    asked_of : IsTrue (life.is_up (s.core.servers a).phase) × (serves (held s.core.locks a lock) mode ≡ false)
    asked_of = asked_is (claim_of s.core.locks a) (s.core.servers a) (lock, mode) (stage_asks s.core.setting s.core.locks a (s.core.servers a) (lock, mode) can.least)

    go : (answer : Wanted) → want_answer s.core.locks a lock mode ≡ answer → LeadsQuietly w (next s (Ask a lock mode) Nothing) journal
    go Granted e = record {
      leads = record {
        events = Take a lock mode ∷ [];
        world = after w (Take a lock mode);
        run = goes (take_guard s.core s.disk w a lock mode t.tied are inside asked_of.0 asked_of.1 e) stays;
        is = record {
          tied = subst (λ o. AreTied (record s.core { locks = changed s.core.locks a lock (answered o mode) }) s.disk (after w (Take a lock mode))) (sym e)
              (granted_keeps s.core s.disk w a lock mode t.tied are inside asked_of.0 asked_of.1);
          journals = t.journals;
          readings = t.readings;
        };
      };
      story = record { servers = refl; opening = refl; logged = refl; first = refl; home = refl; history = refl };
      quiet = (tt, tt);
    }
    go (Wait others) e = record {
      leads = record {
        events = [];
        world = w;
        run = stays;
        is = record {
          tied = subst (λ o. AreTied (record s.core { locks = changed s.core.locks a lock (answered o mode) }) s.disk w) (sym e)
              (wished_keeps s.core s.disk w a lock mode t.tied are inside asked_of.0 asked_of.1);
          journals = t.journals;
          readings = t.readings;
        };
      };
      story = record { servers = refl; opening = refl; logged = refl; first = refl; home = refl; history = refl };
      quiet = tt;
    }
