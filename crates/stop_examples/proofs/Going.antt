-- The run: each event may happen.
use Rattle.std.proofs.Common.{ℕ, zero, suc, ◌≡◌, ◌≢◌, ◌+◌, ◌<◌, Bool, true, false, if◌then◌else◌, nat_eq, IsTrue, Some, None, List, [], ◌∷◌, refl, sym, ◌∙◌, ap, subst, inr, arith, lit<, add-zero, eqb-true}
use Rattle.frang_base.specs.Locks.{has_lock, same_lock}
use Rattle.frang_base.specs.declared.limits.TheConstants.{ROOT_INODE}
use Rattle.frang_base.specs.declared.lock.LockId.{LockId}
use Rattle.frang_base.specs.declared.lock.LockId.TheVariants.{Node}
use Rattle.frang_base.specs.declared.lock.Mode.TheVariants.{Shared}
use Rattle.frang_base.proofs.Basics.{by_test, lock_of}
use Rattle.sector_world.specs.Examples.{ticks}
use Rattle.sector_world.specs.Guards.{CanDo, Fits}
use Rattle.sector_world.specs.Histories.{touches}
use Rattle.sector_world.specs.Steps.{Event, Run, after, stays, goes}
use Rattle.sector_world.specs.Steps.Event.{Tick, Mount, Take, Fetch, Do, Reach, Ack, Sync, Crash, Begin, Finish}
use Rattle.sector_world.specs.World.{World, cover}
use Rattle.sector_world.specs.World.Phase.{Up}
use Rattle.stop_laws.specs.Beginning.{fresh_world}
use Rattle.stop_laws.specs.TwoServers.{number_of_line}
use Rattle.stop_examples.specs.Looks.{events, look, rescue, root}

tick_run : (n : ℕ) (w v : World) (es : List Event) → Run (record w { now = w.now + n }) es v → Run w (ticks n es) v
tick_run zero w v es r = subst (λ n. Run (record w { now = n }) es v) (add-zero w.now) r
tick_run (suc n) w v es r = goes tt (tick_run n (after w Tick) v es (let e : w.now + suc n ≡ w.now + 1 + n = omega arith in subst (λ n. Run (record w { now = n }) es v) e r))

one_lock : (l : LockId) → IsTrue (has_lock l (Node ROOT_INODE ∷ [])) → Node ROOT_INODE ≡ l
one_lock l i = by_test (λ b. b ≡ true → Node ROOT_INODE ≡ l) true false (same_lock (Node ROOT_INODE) l) (λ e j. lock_of (Node ROOT_INODE) l e) (λ e j. cc) i

one_sector : (server line s : ℕ) → IsTrue (touches (look server line) s) → root ≡ s
one_sector server line s i = by_test (λ b. b ≡ true → root ≡ s) true false (nat_eq root s) (λ e j. eqb-true root s e) (λ e j. cc) i

-- a look may be done by a server that is up and holds the root's lock, which covers its sector
can_look : (w : World) (server line : ℕ) → w.phase server ≡ Up → w.last server < number_of_line line → w.holds server (Node ROOT_INODE) ≡ Some Shared → cover w root ≡ Node ROOT_INODE →
    ((s : ℕ) → cover w s ≡ (fresh_world 2 1).home s) → CanDo w (look server line)
can_look w server line up number held covered home = record {
  up = up;
  number = number;
  used = λ l i. subst (λ l. w.holds server l ≢ None) (one_lock l i) some;
  alone = λ l i. absurd (cc);
  looked = λ s i. subst (λ s. w.holds server (cover w s) ≢ None) (one_sector server line s i) (subst (λ l. w.holds server l ≢ None) (sym covered) some);
  owned = λ s. tt;
  based = λ s. tt;
  moves = λ s. tt;
  claims = λ s e. absurd (cc);
  named = λ s e. absurd (cc);
  plain = λ s e. absurd (cc);
  sees = λ s. ap (λ l. has_lock l (Node ROOT_INODE ∷ [])) (sym (home s));
  written = λ s e. absurd (cc);
  shows = λ s. tt;
  reads = λ s. refl;
  noticed = λ s e. absurd (cc);
  makes = λ s. refl;
}
  where
    some : w.holds server (Node ROOT_INODE) ≢ None
    some none = let z : Some Shared ≡ None = sym held ∙ none in cc

-- who holds a lock shared lets others hold it so
shared_fits : (t : Bool) → Fits Shared (if t then Some Shared else None)
shared_fits true = tt
shared_fits false = tt

abbrev begin : World
begin = fresh_world 2 1

abbrev looked : World
looked = after (after (after (after (after begin (Mount 0)) (Mount 1)) (Take 0 (Node ROOT_INODE) Shared)) (Fetch 0 root)) (Do (look 0 3))

abbrev synced : World
synced = after (after (after looked (Reach 0 (number_of_line 3))) (Ack 0 (number_of_line 3))) (Sync 0)

abbrev shared : World
shared = after (after (after synced (Take 1 (Node ROOT_INODE) Shared)) (Fetch 1 root)) (Do (look 1 5))

abbrev again : World
again = after (after (after shared (Reach 1 (number_of_line 5))) (Do (look 0 6))) (Reach 0 (number_of_line 6))

abbrev late : World
late = record (after again (Crash 0)) { now = 31 }

unfoldable pub end : World
end = after (after late (Begin 0 1)) (Finish rescue)

pub run : Run (fresh_world 2 1) events end
unfolding end
run =
    goes (record { off = refl; resting = λ r e. absurd (cc); known = lit< tt })
    (goes (record { off = refl; resting = λ r e. absurd (cc); known = lit< tt })
    (goes (record { up = refl; more = λ e. cc; fits = λ b n. tt })
    (goes (record { up = refl; held = λ e. cc; absent = refl })
    (goes (can_look (after (after (after (after begin (Mount 0)) (Mount 1)) (Take 0 (Node ROOT_INODE) Shared)) (Fetch 0 root)) 0 3 refl (lit< tt) refl refl (λ s. refl))
    (goes (record { more = omega arith; there = omega arith; lease = omega arith })
    (goes (record { there = omega arith })
    (goes (record { up = refl; acknowledged = omega arith; clean = λ s. tt })
    (goes (record { up = refl; more = λ e. cc; fits = λ b n. shared_fits (nat_eq b 0) })
    (goes (record { up = refl; held = λ e. cc; absent = refl })
    (goes (can_look (after (after synced (Take 1 (Node ROOT_INODE) Shared)) (Fetch 1 root)) 1 5 refl (lit< tt) refl refl (λ s. refl))
    (goes (record { more = omega arith; there = omega arith; lease = omega arith })
    (goes (can_look (after shared (Reach 1 (number_of_line 5))) 0 6 refl (lit< tt) refl refl (λ s. refl))
    (goes (record { more = omega arith; there = omega arith; lease = omega arith })
    (goes refl
    (tick_run 31 (after again (Crash 0)) end (Begin 0 1 ∷ Finish rescue ∷ [])
    (goes (record { dead = refl; ended = lit< tt; given_up = lit< tt; alive = λ e. cc })
    (goes (record { going = refl; all = λ s. inr (refl, (refl, tt)) }) stays)))))))))))))))))
