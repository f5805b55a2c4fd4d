-- The runs of the examples.
use Rattle.std.proofs.Common.{Bool, if◌then◌else◌, ℕ, zero, suc, ◌+◌, ◌-◌, ◌≡◌, ◌≢◌, ◌⊎◌, ⊎_elim, inl, inr, true, false, List, [], ◌∷◌, Option, Some, None, IsTrue, IsSome, is_some, nat_eq, nat_lt, refl, sym, subst, arith, lit<, add-zero}
use Rattle.std.proofs.lemmas.Bool.{eqb-true}
use Rattle.frang_base.specs.declared.change.Change.{Change}
use Rattle.frang_base.specs.declared.lock.LockId.{LockId}
use Rattle.frang_base.specs.declared.lock.LockId.TheVariants.{Node}
use Rattle.frang_base.specs.declared.lock.Mode.TheVariants.{Shared, Sole}
use Rattle.sector_bytes.specs.Bytes.{zeros}
use Rattle.sector_bytes.specs.Blocks.{zero_block}
use Rattle.sector_bytes.specs.Changes.{changed}
use Rattle.sector_bytes.specs.Replays.{change_at}
use Rattle.frang_base.specs.Locks.{has_lock, same_lock}
use Rattle.frang_base.specs.Functions.{put, put_lock}
use Rattle.sector_world.specs.Histories.{Fill, reaches, redo_of}
use Rattle.sector_world.specs.Histories.Fill.{Written, Freed}
use Rattle.sector_world.specs.Plans.{made_of}
use Rattle.frang_base.proofs.Basics.{by_test, at_put, at_put2, at_lock, lock_of}
use Rattle.sector_world.specs.World.{World, Phase}
use Rattle.sector_world.specs.World.Phase.{Off, Up, Dead}
use Rattle.sector_world.specs.World.Slot.{Absent, Clean}
use Rattle.sector_world.specs.World.Page.{NoPage, CleanPage}
use Rattle.sector_world.specs.World.Told.{InPlace}
use Rattle.sector_world.specs.Guards.{NotDirty, NoDirtyPage, Fits, Based, Owned, MovesOwned, Shows, NoneNames, CanClaim, CanDo}
use Rattle.sector_world.specs.Steps.{Event, after, Run}
use Rattle.sector_world.specs.Steps.Event.{Tick, Fail, Renew, Mount, Take, Do, Reach, Ack, Sync, Crash, Begin, Look, Finish, Fetch, Issue, Replay, Land, Fade, FetchBytes, Clear, IssueBytes, LandBytes}
use Rattle.sector_world.specs.Steps.Run.{stays, goes}
use Rattle.sector_world.specs.Examples.{releasing, change_again, released_cover, retaking, IsRetakenRun, freeing, IsFreedRun, begin, change, new_block, deed, ticks, done, rescue, wanted, placed, write, recovery, IsLostRun, IsKeptRun, IsFailedRun, second_rescue, IsHandedRun, IsTwiceRun, IsLateRun, bytes, scribble, reading, IsReadRun, change_8, claim, IsClaimedRun}
use Rattle.sector_world.proofs.Reaching.{sole_held}

tick_run : (n : ℕ) (w v : World) (es : List Event) → Run (record w { now = w.now + n }) es v → Run w (ticks n es) v
tick_run zero w v es r = subst (λ n. Run (record w { now = n }) es v) (add-zero w.now) r
tick_run (suc n) w v es r = goes tt (tick_run n (after w Tick) v es (let e : w.now + suc n ≡ w.now + 1 + n = omega arith in subst (λ n. Run (record w { now = n }) es v) e r))

-- what is made of bytes without a look at them
fill_if : (b : Bool) (x : Fill) → (if b then Some x else None) ≡ made_of (if b then Some (λ shown. x) else None) None
fill_if true x = refl
fill_if false x = refl

some_if : {X : Type 0} (b : Bool) (x : X) → is_some (if b then Some x else None) ≡ (if b then true else false)
some_if true x = refl
some_if false x = refl

abbrev ready : World
ready = after (after (after (after (after begin (Mount 0)) (Mount 1)) (Mount 2)) (Take 0 (Node 5) Sole)) (Fetch 0 5)

one_lock : (n : ℕ) (l : LockId) → IsTrue (has_lock l (Node n ∷ [])) → Node n ≡ l
one_lock n l i = by_test (λ b. b ≡ true → Node n ≡ l) true false (same_lock (Node n) l) (λ e j. lock_of (Node n) l e) (λ e j. cc) i

here_sole : (b : ℕ) (l : LockId) → b ≡ 0 → Node 5 ≡ l → ready.holds b l ≡ Some Sole
here_sole b l e f = at_lock (λ m. m ≡ Some Sole) (λ d k. None) 0 (Node 5) (Some Sole) b l (λ i j. refl) (λ n. absurd (n e (sym f)))

at_five : (P : Option Change → Type 0) (s : ℕ) → (5 ≡ s → P (Some change)) → P None → P (change_at deed.changes s)
at_five P s f n = by_test P (Some change) None (nat_eq 5 s) (λ e. f (eqb-true 5 s e)) (λ e. n)

node_five : (s : ℕ) → 5 ≡ s → Node 5 ≡ Node s
node_five s e = cc

can_deed : CanDo ready deed
unfolding zeros
can_deed = record {
  up = refl;
  number = lit< tt;
  used = λ l i. sole_held (ready.holds 0 l) (here_sole 0 l refl (one_lock 5 l i));
  alone = λ l i. here_sole 0 l refl (one_lock 5 l i);
  looked = λ s. at_five (λ o. IsTrue (if is_some o then true else false) → ready.holds 0 (Node s) ≢ None) s (λ e i. sole_held (ready.holds 0 (Node s)) (here_sole 0 (Node s) refl (node_five s e))) (λ i. cc);
  owned = λ s. at_five (λ o. Owned o (ready.holds 0 (Node s))) s (λ e. here_sole 0 (Node s) refl (node_five s e)) tt;
  based = λ s. at_five (λ o. Based o (ready.slot 0 s)) s
      (λ e. at_put2 (λ x. Based (Some change) x) (λ d k. Absent) 0 5 (Clean zero_block) 0 s (λ i j. lit< tt) (λ n. absurd (n refl (sym e)))) tt;
  moves = λ s. tt;
  claims = λ s e. absurd (cc);
  named = λ s. at_five (λ o. IsSome o → nat_lt s 8 ≡ true) s (λ e i. subst (λ x. nat_lt x 8 ≡ true) e refl) (λ i. cc);
  plain = λ s i. absurd (cc);
  sees = λ s. refl;
  written = λ s i. absurd (cc);
  shows = λ s. tt;
  reads = λ s. refl;
  noticed = λ s i. absurd (cc);
  makes = λ s. refl;
}

abbrev did : World
did = after ready (Do deed)

-- the run of the operation, before any that goes on from there
done_run : (es : List Event) (v : World) → Run did es v → Run begin (done es) v
done_run es v r =
    goes (record { off = refl; resting = λ r e. absurd (cc); known = lit< tt }) (goes (record { off = refl; resting = λ r e. absurd (cc); known = lit< tt }) (goes (record { off = refl; resting = λ r e. absurd (cc); known = lit< tt })
    (goes (record { up = refl; more = λ e. cc; fits = λ b n. tt })
    (goes (record { up = refl; held = λ e. cc; absent = refl }) (goes can_deed r)))))

abbrev fallen : World
fallen = after did (Crash 0)

abbrev lost_late : World
lost_late = record fallen { now = 31 }

pub lost_world : World
lost_world = after (after lost_late (Begin 0 1)) (Finish (rescue 1))

pub is_lost : IsLostRun lost_world
unfolding lost_world
is_lost = record {
  run = done_run (Crash 0 ∷ ticks 31 (Begin 0 1 ∷ Finish (rescue 1) ∷ [])) (after (after lost_late (Begin 0 1)) (Finish (rescue 1)))
      (goes refl (tick_run 31 fallen (after (after lost_late (Begin 0 1)) (Finish (rescue 1))) (Begin 0 1 ∷ Finish (rescue 1) ∷ [])
      (goes (record { dead = refl; ended = lit< tt; given_up = lit< tt; alive = λ e. cc }) (goes (record { going = refl; all = λ s. inr tt }) stays))));
  none = tt;
  disk = refl;
}

pub failed_world : World
failed_world = after (after (after (after lost_late (Begin 0 1)) (Fail 1)) (Renew 1)) (Finish (rescue 1))

abbrev mounted : ℕ → Phase
mounted = put (put (put (λ d. Off) 0 Up) 1 Up) 2 Up

-- nobody is dead once server 0 is recovered
none_dead : (a : ℕ) → put (put mounted 0 Dead) 0 Off a ≢ Dead
none_dead a =
    at_put (λ p. p ≢ Dead) (put mounted 0 Dead) 0 Off a (λ e i. cc)
    (λ n. at_put (λ p. p ≢ Dead) mounted 0 Dead a (λ e. absurd (n e))
    (λ n. at_put (λ p. p ≢ Dead) (put (put (λ d. Off) 0 Up) 1 Up) 2 Up a (λ e i. cc)
    (λ n. at_put (λ p. p ≢ Dead) (put (λ d. Off) 0 Up) 1 Up a (λ e i. cc)
    (λ n. at_put (λ p. p ≢ Dead) (λ d. Off) 0 Up a (λ e i. cc) (λ n i. cc)))))

none_dirty : (a s : ℕ) → NotDirty (fallen.slot a s)
none_dirty a s =
    at_put (λ f. NotDirty (f s)) did.slot 0 (λ t. Absent) a (λ e. tt)
    (λ n. at_put (λ f. NotDirty (f s)) ready.slot 0 (did.slot 0) a (λ e. absurd (n e))
    (λ n. at_put2 (λ x. NotDirty x) (λ d k. Absent) 0 5 (Clean zero_block) a s (λ i j. tt) (λ n. tt)))

none_dirty_bytes : (a s : ℕ) → NoDirtyPage (fallen.page a s)
none_dirty_bytes a s =
    at_put (λ f. NoDirtyPage (f s)) did.page 0 (λ t. NoPage) a (λ e. tt)
    (λ n. at_put (λ f. NoDirtyPage (f s)) ready.page 0 (did.page 0) a (λ e. absurd (n e)) (λ n. tt))

pub is_failed : IsFailedRun failed_world
unfolding failed_world
is_failed = record {
  run = done_run (Crash 0 ∷ ticks 31 (Begin 0 1 ∷ Fail 1 ∷ Renew 1 ∷ Finish (rescue 1) ∷ [])) (after (after (after (after lost_late (Begin 0 1)) (Fail 1)) (Renew 1)) (Finish (rescue 1)))
      (goes refl (tick_run 31 fallen (after (after (after (after lost_late (Begin 0 1)) (Fail 1)) (Renew 1)) (Finish (rescue 1))) (Begin 0 1 ∷ Fail 1 ∷ Renew 1 ∷ Finish (rescue 1) ∷ [])
      (goes (record { dead = refl; ended = lit< tt; given_up = lit< tt; alive = λ e. cc })
      (goes tt
      (goes (record { alive = λ e. cc; later = lit< tt })
      (goes (record { going = refl; all = λ s. inr tt }) stays))))));
  sick = refl;
  quiet = record { alive = none_dead; clean = none_dirty; clean_bytes = none_dirty_bytes };
}

pub renewed_world : World
renewed_world = after (after lost_late (Begin 0 1)) (Renew 1)

abbrev handed_fallen : World
handed_fallen = after (after (after lost_late (Begin 0 1)) (Renew 1)) (Crash 1)

pub handed_world : World
handed_world = after (after (record handed_fallen { now = 62 }) (Begin 1 2)) (Finish second_rescue)

pub is_handed : IsHandedRun renewed_world handed_world
unfolding renewed_world handed_world
is_handed = record {
  run = done_run (Crash 0 ∷ ticks 31 (Begin 0 1 ∷ Renew 1 ∷ [])) (after (after lost_late (Begin 0 1)) (Renew 1))
      (goes refl (tick_run 31 fallen (after (after lost_late (Begin 0 1)) (Renew 1)) (Begin 0 1 ∷ Renew 1 ∷ [])
      (goes (record { dead = refl; ended = lit< tt; given_up = lit< tt; alive = λ e. cc })
      (goes (record { alive = λ e. cc; later = lit< tt }) stays))));
  held = (refl, refl);
  next = goes refl (tick_run 31 handed_fallen (after (after (record handed_fallen { now = 62 }) (Begin 1 2)) (Finish second_rescue)) (Begin 1 2 ∷ Finish second_rescue ∷ [])
      (goes (record { dead = refl; ended = lit< tt; given_up = lit< tt; alive = λ e. cc })
      (goes (record { going = refl; all = λ s. inr tt }) stays)));
  gone = (refl, refl);
  dead = refl;
}

abbrev synced : World
synced = after (after (after did (Reach 0 1)) (Ack 0 1)) (Sync 0)

abbrev kept_late : World
kept_late = record (after synced (Crash 0)) { now = 31 }

abbrev recovered : ℕ → World → World
recovered b w = after (after (after (after (after w (Begin 0 b)) (Look (rescue b) 5)) (Replay (wanted b) 5 new_block)) (Land 5 (write b (w.expiry b - 15)))) (Finish (placed b))

-- the log names no other sector
no_name : (s : ℕ) → s ≢ 5 → NoneNames (redo_of deed ∷ []) s
no_name s n = (at_five (λ o. o ≡ None) s (λ e. absurd (n (sym e))) refl, tt)

pub kept_world : World
kept_world = recovered 1 (after kept_late (Renew 1))

pub is_kept : IsKeptRun kept_world
unfolding kept_world zeros changed
is_kept = record {
  run = done_run (Reach 0 1 ∷ Ack 0 1 ∷ Sync 0 ∷ Crash 0 ∷ ticks 31 (Renew 1 ∷ recovery 1 46)) (recovered 1 (after kept_late (Renew 1)))
      (goes (record { more = omega arith; there = omega arith; lease = omega arith })
      (goes (record { there = omega arith })
      (goes (record { up = refl; acknowledged = omega arith; clean = λ s. tt })
      (goes refl
      (tick_run 31 (after synced (Crash 0)) (recovered 1 (after kept_late (Renew 1))) (Renew 1 ∷ recovery 1 46)
      (goes (record { alive = λ e. cc; later = lit< tt })
      (goes (record { dead = refl; ended = lit< tt; given_up = lit< tt; alive = λ e. cc })
      (goes refl
      (goes (record { going = refl; wanted = refl; alone = refl })
      (goes (record { there = refl; early = omega arith })
      (goes (record { going = refl; all = λ s. at_put (λ x. (x ≡ InPlace) ⊎ NoneNames (redo_of deed ∷ []) s) (wanted 1).told 5 InPlace s (λ e. inl refl) (λ n. inr (no_name s n)) })
      stays)))))))))));
  there = (_, refl);
  disk = refl;
}

abbrev twice_first : World
twice_first = record (after (after did (Reach 0 1)) (Crash 0)) { now = 31 }

abbrev twice_fallen : World
twice_fallen = after (after (after (after (after twice_first (Renew 1)) (Begin 0 1)) (Look (rescue 1) 5)) (Replay (wanted 1) 5 new_block)) (Crash 1)

abbrev twice_second : World
twice_second = record twice_fallen { now = 62 }

pub twice_world : World
twice_world = recovered 2 (after (after twice_second (Renew 2)) (Fade 5 (write 1 46)))

pub is_twice : IsTwiceRun twice_world
unfolding twice_world zeros changed
is_twice = record {
  run = done_run (Reach 0 1 ∷ Crash 0 ∷ ticks 31 (Renew 1 ∷ Begin 0 1 ∷ Look (rescue 1) 5 ∷ Replay (wanted 1) 5 new_block ∷ Crash 1 ∷ ticks 31 (Renew 2 ∷ Fade 5 (write 1 46) ∷ recovery 2 77)))
      (recovered 2 (after (after twice_second (Renew 2)) (Fade 5 (write 1 46))))
      (goes (record { more = omega arith; there = omega arith; lease = omega arith })
      (goes refl
      (tick_run 31 (after (after did (Reach 0 1)) (Crash 0)) (recovered 2 (after (after twice_second (Renew 2)) (Fade 5 (write 1 46)))) (Renew 1 ∷ Begin 0 1 ∷ Look (rescue 1) 5 ∷ Replay (wanted 1) 5 new_block ∷ Crash 1 ∷ ticks 31 (Renew 2 ∷ Fade 5 (write 1 46) ∷ recovery 2 77))
      (goes (record { alive = λ e. cc; later = lit< tt })
      (goes (record { dead = refl; ended = lit< tt; given_up = lit< tt; alive = λ e. cc })
      (goes refl
      (goes (record { going = refl; wanted = refl; alone = refl })
      (goes refl
      (tick_run 31 twice_fallen (recovered 2 (after (after twice_second (Renew 2)) (Fade 5 (write 1 46)))) (Renew 2 ∷ Fade 5 (write 1 46) ∷ recovery 2 77)
      (goes (record { alive = λ e. cc; later = lit< tt })
      (goes (record { there = refl; late = inl (lit< tt) })
      (goes (record { dead = refl; ended = lit< tt; given_up = lit< tt; alive = λ e. cc })
      (goes refl
      (goes (record { going = refl; wanted = refl; alone = refl })
      (goes (record { there = refl; early = omega arith })
      (goes (record { going = refl; all = λ s. at_put (λ x. (x ≡ InPlace) ⊎ NoneNames (redo_of deed ∷ []) s) (wanted 2).told 5 InPlace s (λ e. inl refl) (λ n. inr (no_name s n)) })
      stays))))))))))))))));
  there = (_, refl);
  disk = refl;
}

abbrev sent : World
sent = after (after (after did (Reach 0 1)) (Ack 0 1)) (Issue 0 5 new_block 1)

pub late_world : World
late_world = after (record sent { now = 16 }) (Fade 5 (write 0 15))

pub is_late : IsLateRun late_world
unfolding late_world
is_late = record {
  run = done_run (Reach 0 1 ∷ Ack 0 1 ∷ Issue 0 5 new_block 1 ∷ ticks 16 (Fade 5 (write 0 15) ∷ [])) (after (record sent { now = 16 }) (Fade 5 (write 0 15)))
      (goes (record { more = omega arith; there = omega arith; lease = omega arith })
      (goes (record { there = omega arith })
      (goes (record { well = refl; up = refl; dirty = refl; log_first = omega arith; alone = refl })
      (tick_run 16 sent (after (record sent { now = 16 }) (Fade 5 (write 0 15))) (Fade 5 (write 0 15) ∷ [])
      (goes (record { there = refl; late = inl (lit< tt) }) stays)))));
  dirty = refl;
  disk = refl;
}

abbrev held : World
held = after (after (after begin (Mount 0)) (Mount 1)) (Take 0 (Node 9) Sole)

at_nine : (P : Option Fill → Type 0) (s : ℕ) → (9 ≡ s → P (Some (Written bytes))) → P None → P (scribble.writes s)
at_nine P s f n = by_test P (Some (Written bytes)) None (nat_eq s 9) (λ e. f (sym (eqb-true s 9 e))) (λ e. n)

nine_sole : (l : LockId) → Node 9 ≡ l → held.holds 0 l ≡ Some Sole
nine_sole l f = at_lock (λ m. m ≡ Some Sole) (λ d k. None) 0 (Node 9) (Some Sole) 0 l (λ i j. refl) (λ n. absurd (n refl (sym f)))

node_nine : (s : ℕ) → 9 ≡ s → Node 9 ≡ Node s
node_nine s e = cc

can_scribble : CanDo held scribble
can_scribble = record {
  up = refl;
  number = lit< tt;
  used = λ l i. sole_held (held.holds 0 l) (nine_sole l (one_lock 9 l i));
  alone = λ l i. nine_sole l (one_lock 9 l i);
  looked = λ s i. absurd (cc);
  owned = λ s. tt;
  based = λ s. tt;
  moves = λ s. tt;
  claims = λ s e. absurd (cc);
  named = λ s i. absurd (cc);
  plain = λ s. at_nine (λ o. IsSome o → nat_lt s 8 ≡ false) s (λ e i. subst (λ x. nat_lt x 8 ≡ false) e refl) (λ i. absurd (cc));
  sees = λ s. refl;
  written = λ s. at_nine (λ o. IsSome o → held.holds 0 (Node s) ≡ Some Sole) s (λ e i. nine_sole (Node s) (node_nine s e)) (λ i. absurd (cc));
  shows = λ s. tt;
  reads = λ s. refl;
  noticed = λ s i. absurd (cc);
  makes = λ s. fill_if (nat_eq s 9) (Written bytes);
}

abbrev scribbled : World
scribbled = after (after (after held (Do scribble)) (Reach 0 1)) (Crash 0)

abbrev doubt_world : World
doubt_world = after (after (record scribbled { now = 31 }) (Begin 0 1)) (Finish (rescue 1))

abbrev shared : World
shared = after (after doubt_world (Take 1 (Node 9) Shared)) (FetchBytes 1 9)

shared_holds : (l : LockId) → Node 9 ≡ l → shared.holds 1 l ≢ None
shared_holds l f = at_lock (λ m. m ≢ None) doubt_world.holds 1 (Node 9) (Some Shared) 1 l (λ i j e. cc) (λ n. absurd (n refl (sym f)))

shows_nine : (s : ℕ) → Shows (reading.shown s) (shared.page 1 s)
shows_nine s =
    by_test (λ o. Shows o (shared.page 1 s)) (Some zero_block) None (nat_eq 9 s)
    (λ e. at_put2 (λ x. Shows (Some zero_block) x) doubt_world.page 1 9 (CleanPage zero_block) 1 s (λ i j. refl) (λ n. absurd (n refl (sym (eqb-true 9 s e)))))
    (λ e. tt)

can_read : CanDo shared reading
can_read = record {
  up = refl;
  number = lit< tt;
  used = λ l i. shared_holds l (one_lock 9 l i);
  alone = λ l i. absurd (cc);
  looked = λ s i. absurd (cc);
  owned = λ s. tt;
  based = λ s. tt;
  moves = λ s. tt;
  claims = λ s e. absurd (cc);
  named = λ s i. absurd (cc);
  plain = λ s i. absurd (cc);
  sees = λ s. refl;
  written = λ s i. absurd (cc);
  shows = shows_nine;
  reads = λ s. some_if (nat_eq 9 s) zero_block;
  noticed = λ s. by_test (λ o. IsSome o → IsTrue (reaches reading s)) (Some zero_block) None (nat_eq 9 s) (λ e i. subst (λ x. IsTrue (reaches reading x)) (eqb-true 9 s e) refl) (λ e i. absurd (cc));
  makes = λ s. refl;
}

-- nobody holds a lock after the recovery
only_free : (b : ℕ) → b ≢ 1 → Fits Shared (doubt_world.holds b (Node 9))
only_free b n = at_put (λ f. Fits Shared (f (Node 9))) held.holds 0 (λ l. None) b (λ e. tt)
    (λ i. at_lock (λ m. Fits Shared m) (λ d k. None) 0 (Node 9) (Some Sole) b (Node 9) (λ e j. absurd (i e)) (λ j. tt))

pub before_read : World
before_read = doubt_world

pub after_read : World
after_read = after shared (Do reading)

pub is_read : IsReadRun before_read after_read
unfolding before_read after_read
is_read = record {
  doubt = goes (record { off = refl; resting = λ r e. absurd (cc); known = lit< tt }) (goes (record { off = refl; resting = λ r e. absurd (cc); known = lit< tt }) (goes (record { up = refl; more = λ e. cc; fits = λ b n. tt })
      (goes can_scribble (goes (record { more = omega arith; there = omega arith; lease = omega arith }) (goes refl
      (tick_run 31 scribbled doubt_world (Begin 0 1 ∷ Finish (rescue 1) ∷ [])
      (goes (record { dead = refl; ended = lit< tt; given_up = lit< tt; alive = λ e. cc }) (goes (record { going = refl; all = λ s. inr (refl, tt) }) stays))))))));
  unknown = refl;
  run = goes (record { up = refl; more = λ e. cc; fits = only_free })
      (goes (record { up = refl; held = λ e. cc; absent = refl; plain = refl; filled = refl })
      (goes can_read stays));
  known = refl;
}

abbrev cleared : World
cleared = after (after (after (after (after (after (after begin (Mount 0)) (Take 0 (Node 8) Sole)) (Take 0 (Node 5) Sole)) (Clear 0 8)) (IssueBytes 0 8 zero_block 0)) (LandBytes 8 (record { by = 0; stamp = 15; block = zero_block }))) (Fetch 0 8)

two_locks : (l : LockId) → IsTrue (has_lock l (Node 8 ∷ Node 5 ∷ [])) → (Node 8 ≡ l) ⊎ (Node 5 ≡ l)
two_locks l i = by_test (λ b. b ≡ true → (Node 8 ≡ l) ⊎ (Node 5 ≡ l)) true (has_lock l (Node 5 ∷ [])) (same_lock (Node 8) l) (λ e j. inl (lock_of (Node 8) l e)) (λ e j. inr (one_lock 5 l j)) i

cleared_sole : (l : LockId) → (Node 8 ≡ l) ⊎ (Node 5 ≡ l) → cleared.holds 0 l ≡ Some Sole
cleared_sole l d = ⊎_elim (λ e. subst (λ x. cleared.holds 0 x ≡ Some Sole) e refl) (λ e. subst (λ x. cleared.holds 0 x ≡ Some Sole) e refl) d

at_eight : (P : Option Change → Type 0) (s : ℕ) → (8 ≡ s → P (Some change_8)) → P None → P (change_at claim.changes s)
at_eight P s f n = by_test P (Some change_8) None (nat_eq 8 s) (λ e. f (eqb-true 8 s e)) (λ e. n)

node_eight : (s : ℕ) → 8 ≡ s → Node 8 ≡ Node s
node_eight s e = cc

claim_eight : (s : ℕ) → 8 ≡ s → CanClaim cleared claim s
unfolding zeros
claim_eight s e = subst (λ x. CanClaim cleared claim x) e (record { fresh = refl; free = refl; cleared = refl; moved = refl })

can_claim : CanDo cleared claim
unfolding zeros
can_claim = record {
  up = refl;
  number = lit< tt;
  used = λ l i. sole_held (cleared.holds 0 l) (cleared_sole l (two_locks l i));
  alone = λ l i. cleared_sole l (two_locks l i);
  looked = λ s. at_eight (λ o. IsTrue (if is_some o then true else false) → cleared.holds 0 (Node s) ≢ None) s (λ e i. sole_held (cleared.holds 0 (Node s)) (cleared_sole (Node s) (inl (node_eight s e)))) (λ i. cc);
  owned = λ s. at_eight (λ o. Owned o (cleared.holds 0 (Node s))) s (λ e. cleared_sole (Node s) (inl (node_eight s e))) tt;
  based = λ s. at_eight (λ o. Based o (cleared.slot 0 s)) s
      (λ e. at_put2 (λ x. Based (Some change_8) x) (λ d k. Absent) 0 8 (Clean zero_block) 0 s (λ i j. lit< tt) (λ n. absurd (n refl (sym e)))) tt;
  moves = λ s. by_test (λ o. MovesOwned o (cleared.holds 0 (Node s)) (cleared.holds 0)) (Some (Node 5)) None (nat_eq s 8)
      (λ e. (cleared_sole (Node s) (inl (node_eight s (sym (eqb-true s 8 e)))), refl)) (λ e. tt);
  claims = λ s e. claim_eight s (sym (eqb-true s 8 e));
  named = λ s. at_eight (λ o. IsSome o → (if nat_eq s 8 then true else nat_lt s 8) ≡ true) s (λ e i. subst (λ x. (if nat_eq x 8 then true else nat_lt x 8) ≡ true) e refl) (λ i. absurd (cc));
  plain = λ s i. absurd (cc);
  sees = λ s. refl;
  written = λ s i. absurd (cc);
  shows = λ s. tt;
  reads = λ s. refl;
  noticed = λ s i. absurd (cc);
  makes = λ s. refl;
}

pub claimed_world : World
claimed_world = after cleared (Do claim)

pub is_claimed : IsClaimedRun claimed_world
unfolding claimed_world
is_claimed = record {
  run = goes (record { off = refl; resting = λ r e. absurd (cc); known = lit< tt }) (goes (record { up = refl; more = λ e. cc; fits = λ b n. tt })
      (goes (record { up = refl; more = λ e. cc; fits = fits_five })
      (goes (record { up = refl; held = refl; plain = refl; free = refl })
      (goes (record { well = refl; up = refl; dirty = refl; log_before = omega arith; alone = refl })
      (goes (record { there = refl; in_time = omega arith })
      (goes (record { up = refl; held = λ e. cc; absent = refl })
      (goes can_claim stays)))))));
  versioned = refl;
  moved = refl;
  page = refl;
}
  where
    fits_five : (b : ℕ) → b ≢ 0 → Fits Sole (put_lock (λ d k. None) 0 (Node 8) (Some Sole) b (Node 5))
    fits_five b n = at_lock (λ m. Fits Sole m) (λ d k. None) 0 (Node 8) (Some Sole) b (Node 5) (λ e j. absurd (n e)) (λ j. tt)

abbrev both_held : World
both_held = after (after (after begin (Mount 0)) (Take 0 (Node 9) Sole)) (Take 0 (Node 5) Sole)

both_sole : (l : LockId) → (Node 9 ≡ l) ⊎ (Node 5 ≡ l) → both_held.holds 0 l ≡ Some Sole
both_sole l d = ⊎_elim (λ e. subst (λ x. both_held.holds 0 x ≡ Some Sole) e refl) (λ e. subst (λ x. both_held.holds 0 x ≡ Some Sole) e refl) d

can_write : CanDo both_held scribble
can_write = record {
  up = refl;
  number = lit< tt;
  used = λ l i. sole_held (both_held.holds 0 l) (both_sole l (inl (one_lock 9 l i)));
  alone = λ l i. both_sole l (inl (one_lock 9 l i));
  looked = λ s i. absurd (cc);
  owned = λ s. tt;
  based = λ s. tt;
  moves = λ s. tt;
  claims = λ s e. absurd (cc);
  named = λ s i. absurd (cc);
  plain = λ s. at_nine (λ o. IsSome o → nat_lt s 8 ≡ false) s (λ e i. subst (λ x. nat_lt x 8 ≡ false) e refl) (λ i. absurd (cc));
  sees = λ s. refl;
  written = λ s. at_nine (λ o. IsSome o → both_held.holds 0 (Node s) ≡ Some Sole) s (λ e i. both_sole (Node s) (inl (node_nine s e))) (λ i. absurd (cc));
  shows = λ s. tt;
  reads = λ s. refl;
  noticed = λ s i. absurd (cc);
  makes = λ s. fill_if (nat_eq s 9) (Written bytes);
}

abbrev flying : World
flying = after (after (after (after both_held (Do scribble)) (Reach 0 1)) (Ack 0 1)) (IssueBytes 0 9 bytes 1)

two_of : (l : LockId) → IsTrue (has_lock l (Node 9 ∷ Node 5 ∷ [])) → (Node 9 ≡ l) ⊎ (Node 5 ≡ l)
two_of l i = by_test (λ b. b ≡ true → (Node 9 ≡ l) ⊎ (Node 5 ≡ l)) true (has_lock l (Node 5 ∷ [])) (same_lock (Node 9) l) (λ e j. inl (lock_of (Node 9) l e)) (λ e j. inr (one_lock 5 l j)) i

at_freed : {X : Type 0} (P : Option X → Type 0) (x : X) (s : ℕ) → (9 ≡ s → P (Some x)) → P None → P (if nat_eq s 9 then Some x else None)
at_freed P x s f n = by_test P (Some x) None (nat_eq s 9) (λ e. f (sym (eqb-true s 9 e))) (λ e. n)

can_free : CanDo flying freeing
can_free = record {
  up = refl;
  number = lit< tt;
  used = λ l i. sole_held (flying.holds 0 l) (both_sole l (two_of l i));
  alone = λ l i. both_sole l (two_of l i);
  looked = λ s i. absurd (cc);
  owned = λ s. tt;
  based = λ s. tt;
  moves = λ s. at_freed (λ o. MovesOwned o (flying.holds 0 (Node s)) (flying.holds 0)) (Node 5) s (λ e. (both_sole (Node s) (inl (node_nine s e)), refl)) tt;
  claims = λ s e. absurd (cc);
  named = λ s i. absurd (cc);
  plain = λ s. at_freed (λ o. IsSome o → nat_lt s 8 ≡ false) Freed s (λ e i. subst (λ x. nat_lt x 8 ≡ false) e refl) (λ i. absurd (cc));
  sees = λ s. refl;
  written = λ s. at_freed (λ o. IsSome o → flying.holds 0 (Node s) ≡ Some Sole) Freed s (λ e i. both_sole (Node s) (inl (node_nine s e))) (λ i. absurd (cc));
  shows = λ s. tt;
  reads = λ s. refl;
  noticed = λ s i. absurd (cc);
  makes = λ s. fill_if (nat_eq s 9) Freed;
}

pub freed_world : World
freed_world = after (after flying (Do freeing)) (LandBytes 9 (record { by = 0; stamp = 15; block = bytes }))

pub is_freed : IsFreedRun freed_world
unfolding freed_world
is_freed = record {
  run = goes (record { off = refl; resting = λ r e. absurd (cc); known = lit< tt }) (goes (record { up = refl; more = λ e. cc; fits = λ b n. tt })
      (goes (record { up = refl; more = λ e. cc; fits = fits_five })
      (goes can_write
      (goes (record { more = omega arith; there = omega arith; lease = omega arith })
      (goes (record { there = omega arith })
      (goes (record { well = refl; up = refl; dirty = refl; log_before = omega arith; alone = refl })
      (goes can_free
      (goes (record { there = refl; in_time = omega arith }) stays))))))));
  free = refl;
  page = refl;
  came = refl;
}
  where
    fits_five : (b : ℕ) → b ≢ 0 → Fits Sole (put_lock (λ d k. None) 0 (Node 9) (Some Sole) b (Node 5))
    fits_five b n = at_lock (λ m. Fits Sole m) (λ d k. None) 0 (Node 9) (Some Sole) b (Node 5) (λ e j. absurd (n e)) (λ j. tt)

abbrev both_taken : World
both_taken = after (after (after (after begin (Mount 0)) (Take 0 (Node 5) Sole)) (Take 0 (Node 6) Sole)) (Fetch 0 5)

pair_of : (l : LockId) → IsTrue (has_lock l (Node 5 ∷ Node 6 ∷ [])) → (Node 5 ≡ l) ⊎ (Node 6 ≡ l)
pair_of l i = by_test (λ b. b ≡ true → (Node 5 ≡ l) ⊎ (Node 6 ≡ l)) true (has_lock l (Node 6 ∷ [])) (same_lock (Node 5) l) (λ e j. inl (lock_of (Node 5) l e)) (λ e j. inr (one_lock 6 l j)) i

pair_sole : (l : LockId) → (Node 5 ≡ l) ⊎ (Node 6 ≡ l) → both_taken.holds 0 l ≡ Some Sole
pair_sole l d = ⊎_elim (λ e. subst (λ x. both_taken.holds 0 x ≡ Some Sole) e refl) (λ e. subst (λ x. both_taken.holds 0 x ≡ Some Sole) e refl) d

at_moved : (P : Option LockId → Type 0) (l : LockId) (s : ℕ) → (5 ≡ s → P (Some l)) → P None → P (if nat_eq s 5 then Some l else None)
at_moved P l s f n = by_test P (Some l) None (nat_eq s 5) (λ e. f (sym (eqb-true s 5 e))) (λ e. n)

can_release : CanDo both_taken releasing
unfolding zeros
can_release = record {
  up = refl;
  number = lit< tt;
  used = λ l i. sole_held (both_taken.holds 0 l) (pair_sole l (pair_of l i));
  alone = λ l i. pair_sole l (pair_of l i);
  looked = λ s. at_five (λ o. IsTrue (if is_some o then true else false) → both_taken.holds 0 (Node s) ≢ None) s (λ e i. sole_held (both_taken.holds 0 (Node s)) (pair_sole (Node s) (inl (node_five s e)))) (λ i. cc);
  owned = λ s. at_five (λ o. Owned o (both_taken.holds 0 (Node s))) s (λ e. pair_sole (Node s) (inl (node_five s e))) tt;
  based = λ s. at_five (λ o. Based o (both_taken.slot 0 s)) s
      (λ e. at_put2 (λ x. Based (Some change) x) (λ d k. Absent) 0 5 (Clean zero_block) 0 s (λ i j. lit< tt) (λ n. absurd (n refl (sym e)))) tt;
  moves = λ s. at_moved (λ o. MovesOwned o (both_taken.holds 0 (Node s)) (both_taken.holds 0)) (Node 6) s (λ e. (pair_sole (Node s) (inl (node_five s e)), refl)) tt;
  claims = λ s e. absurd (cc);
  named = λ s. at_five (λ o. IsSome o → nat_lt s 8 ≡ true) s (λ e i. subst (λ x. nat_lt x 8 ≡ true) e refl) (λ i. absurd (cc));
  plain = λ s i. absurd (cc);
  sees = λ s. refl;
  written = λ s i. absurd (cc);
  shows = λ s. tt;
  reads = λ s. refl;
  noticed = λ s i. absurd (cc);
  makes = λ s. refl;
}

abbrev released : World
released = after both_taken (Do releasing)

at_again : (P : Option Change → Type 0) (s : ℕ) → (5 ≡ s → P (Some change_again)) → P None → P (change_at retaking.changes s)
at_again P s f n = by_test P (Some change_again) None (nat_eq 5 s) (λ e. f (eqb-true 5 s e)) (λ e. n)

six : (s : ℕ) → 5 ≡ s → Node 6 ≡ released_cover s
six s e = subst (λ x. Node 6 ≡ released_cover x) e refl

can_retake : CanDo released retaking
unfolding zeros changed
can_retake = record {
  up = refl;
  number = lit< tt;
  used = λ l i. sole_held (released.holds 0 l) (pair_sole l (pair_of l i));
  alone = λ l i. pair_sole l (pair_of l i);
  looked = λ s. at_again (λ o. IsTrue (if is_some o then true else false) → released.holds 0 (released_cover s) ≢ None) s (λ e i. sole_held (released.holds 0 (released_cover s)) (pair_sole (released_cover s) (inr (six s e)))) (λ i. cc);
  owned = λ s. at_again (λ o. Owned o (released.holds 0 (released_cover s))) s (λ e. pair_sole (released_cover s) (inr (six s e))) tt;
  based = λ s. at_again (λ o. Based o (released.slot 0 s)) s (λ e. subst (λ x. Based (Some change_again) (released.slot 0 x)) e (lit< tt)) tt;
  moves = λ s. at_moved (λ o. MovesOwned o (released.holds 0 (released_cover s)) (released.holds 0)) (Node 5) s (λ e. (pair_sole (released_cover s) (inr (six s e)), refl)) tt;
  claims = λ s e. absurd (cc);
  named = λ s. at_again (λ o. IsSome o → nat_lt s 8 ≡ true) s (λ e i. subst (λ x. nat_lt x 8 ≡ true) e refl) (λ i. absurd (cc));
  plain = λ s i. absurd (cc);
  sees = λ s. refl;
  written = λ s i. absurd (cc);
  shows = λ s. tt;
  reads = λ s. refl;
  noticed = λ s i. absurd (cc);
  makes = λ s. refl;
}

pub retaken_world : World
retaken_world = after released (Do retaking)

pub is_retaken : IsRetakenRun retaken_world
unfolding retaken_world
is_retaken = record {
  run = goes (record { off = refl; resting = λ r e. absurd (cc); known = lit< tt }) (goes (record { up = refl; more = λ e. cc; fits = λ b n. tt })
      (goes (record { up = refl; more = λ e. cc; fits = fits_six })
      (goes (record { up = refl; held = λ e. cc; absent = refl })
      (goes can_release (goes can_retake stays)))));
  moved = refl;
  dirty = refl;
}
  where
    fits_six : (b : ℕ) → b ≢ 0 → Fits Sole (put_lock (λ d k. None) 0 (Node 5) (Some Sole) b (Node 6))
    fits_six b n = at_lock (λ m. Fits Sole m) (λ d k. None) 0 (Node 5) (Some Sole) b (Node 6) (λ e j. absurd (n e)) (λ j. tt)
