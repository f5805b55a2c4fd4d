-- What is in place of a dead server's log stays so by the events of the theorem on sectors, as long as it isn't recovered: nothing more of it is durable once its lease is over, no operation of
-- it is done, and versions rise.
use Rattle.std.proofs.Common.{◌≡◌, ◌≢◌, ℕ, ◌+◌, ◌<◌, ◌≤◌, ◌⊎◌, inl, inr, List, [], ◌∷◌, Option, Some, None, le_refl, refl, sym, ap, ◌∙◌, subst, arith}
use Rattle.std.proofs.lemmas.Bool.{cases_eq}
use Rattle.frang_base.specs.Functions.{put}
use Rattle.frang_base.specs.declared.change.Change.{Change}
use Rattle.frang_base.specs.declared.change.Redo.{Redo}
use Rattle.frang_base.specs.declared.limits.TheConstants.{LEASE_TICKS}
use Rattle.frang_base.proofs.Basics.{at_put, put_other, put_same}
use Rattle.sector_bytes.specs.Blocks.{version_of}
use Rattle.sector_bytes.specs.Replays.{change_at, up_to}
use Rattle.sector_world.proofs.Every.{good_step}
use Rattle.sector_world.specs.Guards.{CanLand, IsBelow, to_replay}
use Rattle.sector_world.specs.Histories.{redo_of}
use Rattle.sector_world.specs.Kinds.{Good}
use Rattle.sector_world.specs.Steps.{Can, Event, Run, after, goes, stays}
use Rattle.sector_world.specs.Steps.Event.{Tick, Leave, Fail, Renew, Mount, Unmount, Take, Give, Lower, Do, Reach, Ack, Sync, Reclaim, Crash, Begin, Look, Finish, Fetch, Issue, Replay, Land, Fade, Break, BreakNew, FetchBytes, Clear, IssueBytes, LandBytes, FadeBytes, BreakBytes, BreakBytesNew, Settle}
use Rattle.sector_world.specs.World.{World, Flight, Phase, Off, Up, Dead}
use Rattle.core_world.specs.Readings.{AllInPlace}
use Rattle.core_readings.specs.Logs.{IsReplayed}
use Rattle.core_log_steps.specs.Seals.{ReplayedStay}

-- ---- records

below_more : (o : Option Change) (n m : ℕ) → n ≤ m → IsBelow o n → IsBelow o m
below_more None n m more b = tt
below_more (Some x) n m more b = le x.version n m b more
  where
    le : (a b c : ℕ) → a ≤ b → b ≤ c → a ≤ c
    le a b c h l = omega (arith, h, l)

place_more : (records : List Redo) (s n m : ℕ) → n ≤ m → AllInPlace records s n → AllInPlace records s m
place_more [] s n m more all = tt
place_more (r ∷ rs) s n m more all = (below_more (change_at r.changes s) n m more all.0, place_more rs s n m more all.1)

-- ---- a server: dead with its lease over and all in place, or off, or with a lease from a later mount

record IsFallen (x : World) (d moment : ℕ) : Type 0 where
  dead : x.phase d ≡ Dead
  over : x.expiry d < moment
  all : IsReplayed x d

data Stands (x : World) (d moment : ℕ) : Type 0 where
  Fallen : IsFallen x d moment → Stands x d moment
  Gone : x.phase d ≡ Off → Stands x d moment
  Later : moment ≤ x.expiry d → Stands x d moment

off_up : {p : Phase} → p ≡ Off → p ≡ Up → ⊥
off_up e f = phases_apart (sym e ∙ f)
  where
    phases_apart : Off ≡ Up → ⊥
    phases_apart g = cc

dead_up : {p : Phase} → p ≡ Dead → p ≡ Up → ⊥
dead_up e f = phases_apart (sym e ∙ f)
  where
    phases_apart : Dead ≡ Up → ⊥
    phases_apart g = cc

dead_off : {p : Phase} → p ≡ Dead → p ≡ Off → ⊥
dead_off e f = phases_apart (sym e ∙ f)
  where
    phases_apart : Dead ≡ Off → ⊥
    phases_apart g = cc

-- what the log of this server has to replay, its phase and its lease are as before, and no sector is older
record IsLikewise (x y : World) (d : ℕ) : Type 0 where
  phase : y.phase d ≡ x.phase d
  expiry : y.expiry d ≡ x.expiry d
  records : to_replay y d ≡ to_replay x d
  disk : (s : ℕ) → version_of (x.disk s) ≤ version_of (y.disk s)

module _ (d moment : ℕ) where
  likewise : (x y : World) → IsLikewise x y d → Stands x d moment → Stands y d moment
  likewise x y l (Fallen f) = Fallen (record {
    dead = l.phase ∙ f.dead;
    over = subst (λ e. e < moment) (sym l.expiry) f.over;
    all = λ s. subst (λ rs. AllInPlace rs s (version_of (y.disk s))) (sym l.records) (place_more (to_replay x d) s (version_of (x.disk s)) (version_of (y.disk s)) (l.disk s) (f.all s));
  })
  likewise x y l (Gone off) = Gone (l.phase ∙ off)
  likewise x y l (Later more) = Later (subst (λ e. moment ≤ e) (sym l.expiry) more)

  -- another server, which is up, does something
  by_other : (x y : World) (a : ℕ) → x.phase a ≡ Up → y.expiry d ≡ x.expiry d → (d ≢ a → IsLikewise x y d) → Stands x d moment → Stands y d moment
  by_other x y a up expiry l (Fallen f) = likewise x y (l (λ e. dead_up f.dead (ap x.phase e ∙ up))) (Fallen f)
  by_other x y a up expiry l (Gone off) = likewise x y (l (λ e. off_up off (ap x.phase e ∙ up))) (Gone off)
  by_other x y a up expiry l (Later more) = Later (subst (λ e. moment ≤ e) (sym expiry) more)

  renewed : (x : World) (a : ℕ) → moment ≤ x.now → moment ≤ x.expiry d → moment ≤ put x.expiry a (x.now + LEASE_TICKS) d
  renewed x a now more = at_put (λ e. moment ≤ e) x.expiry a (x.now + LEASE_TICKS) d (λ e. far x.now now) (λ n. more)
    where
      far : (n : ℕ) → moment ≤ n → moment ≤ n + LEASE_TICKS
      far n h = omega (arith, h)

  risen : (x : World) (s : ℕ) (f : Flight) → Good x → CanLand x s f → (t : ℕ) → version_of (x.disk t) ≤ version_of (put x.disk s f.block t)
  risen x s f g can t =
      at_put (λ b. version_of (x.disk t) ≤ version_of b) x.disk s f.block t
      (λ e. subst (λ n. version_of (x.disk n) ≤ version_of f.block) (sym e) (less (version_of (x.disk s)) (version_of f.block) (g.logged.flights s f can.there can.early).higher)) (λ n. le_refl (version_of (x.disk t)))
    where
      less : (n m : ℕ) → n < m → n ≤ m
      less n m h = omega (arith, h)

  -- each event
  step : (x : World) (event : Event) → Can x event → Good x → moment ≤ x.now → Stands x d moment → Stands (after x event) d moment
  step x (Renew a) can g now (Fallen f) = likewise x (after x (Renew a)) (record { phase = refl; expiry = put_other x.expiry a (x.now + LEASE_TICKS) d apart; records = refl; disk = λ s. le_refl (version_of (x.disk s)) }) (Fallen f)
    where
      apart : d ≢ a
      apart e = can.alive (ap x.phase (sym e) ∙ f.dead)
  step x (Renew a) can g now (Gone off) = Gone off
  step x (Renew a) can g now (Later more) = Later (renewed x a now more)
  step x (Mount a) can g now (Fallen f) =
      likewise x (after x (Mount a)) (record { phase = put_other x.phase a Up d apart; expiry = put_other x.expiry a (x.now + LEASE_TICKS) d apart; records = refl; disk = λ s. le_refl (version_of (x.disk s)) }) (Fallen f)
    where
      apart : d ≢ a
      apart e = dead_off f.dead (ap x.phase e ∙ can.off)
  step x (Mount a) can g now (Gone off) = go (cases_eq d a)
    where
      far : (n : ℕ) → moment ≤ n → moment ≤ n + LEASE_TICKS
      far n h = omega (arith, h)

      go : (d ≡ a) ⊎ (d ≡ a → ⊥) → Stands (after x (Mount a)) d moment
      go (inl e) = Later (subst (λ n. moment ≤ put x.expiry a (x.now + LEASE_TICKS) n) (sym e) (subst (λ n. moment ≤ n) (sym (put_same x.expiry a (x.now + LEASE_TICKS))) (far x.now now)))
      go (inr apart) = Gone (put_other x.phase a Up d apart ∙ off)
  step x (Mount a) can g now (Later more) = Later (renewed x a now more)
  step x (Unmount a) can g now stands = by_other x (after x (Unmount a)) a can.up refl (λ apart. record { phase = put_other x.phase a Off d apart; expiry = refl; records = refl; disk = λ s. le_refl (version_of (x.disk s)) }) stands
  step x (Do c) can g now stands = by_other x (after x (Do c)) c.by can.up refl
      (λ apart. record { phase = refl; expiry = refl; records = ap (up_to (x.durable d)) (put_other x.log c.by (redo_of c ∷ x.log c.by) d apart); disk = λ s. le_refl (version_of (x.disk s)) }) stands
  step x (Reach a k) can g now (Fallen f) =
      likewise x (after x (Reach a k)) (record { phase = refl; expiry = refl; records = ap (λ n. up_to n (x.log d)) (put_other x.durable a k d apart); disk = λ s. le_refl (version_of (x.disk s)) }) (Fallen f)
    where
      ended : (n e : ℕ) → n ≤ e → e < moment → moment ≤ n → ⊥
      ended n e h l m = omega (arith, h, l, m)

      apart : d ≢ a
      apart e = ended x.now (x.expiry d) (subst (λ n. x.now ≤ x.expiry n) (sym e) can.lease) f.over now
  step x (Reach a k) can g now (Gone off) = Gone off
  step x (Reach a k) can g now (Later more) = Later more
  step x (Reclaim a k) can g now stands = by_other x (after x (Reclaim a k)) a can.up refl
      (λ apart. record { phase = refl; expiry = refl; records = ap (up_to (x.durable d)) (put_other x.log a _ d apart); disk = λ s. le_refl (version_of (x.disk s)) }) stands
  step x (Crash a) can g now stands = by_other x (after x (Crash a)) a can refl (λ apart. record { phase = put_other x.phase a Dead d apart; expiry = refl; records = refl; disk = λ s. le_refl (version_of (x.disk s)) }) stands
  step x (Finish r) can g now stands = go (cases_eq d r.dead) stands
    where
      go : (d ≡ r.dead) ⊎ (d ≡ r.dead → ⊥) → Stands x d moment → Stands (after x (Finish r)) d moment
      go (inl e) stands = Gone (ap (put x.phase r.dead Off) e ∙ put_same x.phase r.dead Off)
      go (inr apart) stands = likewise x (after x (Finish r))
          (record { phase = put_other x.phase r.dead Off d apart; expiry = refl; records = ap (up_to (x.durable d)) (put_other x.log r.dead [] d apart); disk = λ s. le_refl (version_of (x.disk s)) }) stands
  step x (Land s f) can g now stands = likewise x (after x (Land s f)) (record { phase = refl; expiry = refl; records = refl; disk = risen x s f g can }) stands
  step x (BreakNew s f) can g now stands = likewise x (after x (BreakNew s f)) (record { phase = refl; expiry = refl; records = refl; disk = risen x s f g can }) stands
  step x Tick can g now stands = likewise x (after x Tick) (record { phase = refl; expiry = refl; records = refl; disk = λ t. le_refl (version_of (x.disk t)) }) stands
  step x Leave can g now stands = likewise x (after x Leave) (record { phase = refl; expiry = refl; records = refl; disk = λ t. le_refl (version_of (x.disk t)) }) stands
  step x (Fail a) can g now stands = likewise x (after x (Fail a)) (record { phase = refl; expiry = refl; records = refl; disk = λ t. le_refl (version_of (x.disk t)) }) stands
  step x (Take a l mode) can g now stands = likewise x (after x (Take a l mode)) (record { phase = refl; expiry = refl; records = refl; disk = λ t. le_refl (version_of (x.disk t)) }) stands
  step x (Give a l) can g now stands = likewise x (after x (Give a l)) (record { phase = refl; expiry = refl; records = refl; disk = λ t. le_refl (version_of (x.disk t)) }) stands
  step x (Lower a l) can g now stands = likewise x (after x (Lower a l)) (record { phase = refl; expiry = refl; records = refl; disk = λ t. le_refl (version_of (x.disk t)) }) stands
  step x (Ack a k) can g now stands = likewise x (after x (Ack a k)) (record { phase = refl; expiry = refl; records = refl; disk = λ t. le_refl (version_of (x.disk t)) }) stands
  step x (Sync a) can g now stands = likewise x (after x (Sync a)) (record { phase = refl; expiry = refl; records = refl; disk = λ t. le_refl (version_of (x.disk t)) }) stands
  step x (Begin a b) can g now stands = likewise x (after x (Begin a b)) (record { phase = refl; expiry = refl; records = refl; disk = λ t. le_refl (version_of (x.disk t)) }) stands
  step x (Look r s) can g now stands = likewise x (after x (Look r s)) (record { phase = refl; expiry = refl; records = refl; disk = λ t. le_refl (version_of (x.disk t)) }) stands
  step x (Fetch a s) can g now stands = likewise x (after x (Fetch a s)) (record { phase = refl; expiry = refl; records = refl; disk = λ t. le_refl (version_of (x.disk t)) }) stands
  step x (Issue a s block mark) can g now stands = likewise x (after x (Issue a s block mark)) (record { phase = refl; expiry = refl; records = refl; disk = λ t. le_refl (version_of (x.disk t)) }) stands
  step x (Replay r s block) can g now stands = likewise x (after x (Replay r s block)) (record { phase = refl; expiry = refl; records = refl; disk = λ t. le_refl (version_of (x.disk t)) }) stands
  step x (Fade s f) can g now stands = likewise x (after x (Fade s f)) (record { phase = refl; expiry = refl; records = refl; disk = λ t. le_refl (version_of (x.disk t)) }) stands
  step x (Break s f) can g now stands = likewise x (after x (Break s f)) (record { phase = refl; expiry = refl; records = refl; disk = λ t. le_refl (version_of (x.disk t)) }) stands
  step x (FetchBytes a s) can g now stands = likewise x (after x (FetchBytes a s)) (record { phase = refl; expiry = refl; records = refl; disk = λ t. le_refl (version_of (x.disk t)) }) stands
  step x (Clear a s) can g now stands = likewise x (after x (Clear a s)) (record { phase = refl; expiry = refl; records = refl; disk = λ t. le_refl (version_of (x.disk t)) }) stands
  step x (IssueBytes a s block mark) can g now stands = likewise x (after x (IssueBytes a s block mark)) (record { phase = refl; expiry = refl; records = refl; disk = λ t. le_refl (version_of (x.disk t)) }) stands
  step x (LandBytes s f) can g now stands = likewise x (after x (LandBytes s f)) (record { phase = refl; expiry = refl; records = refl; disk = λ t. le_refl (version_of (x.disk t)) }) stands
  step x (FadeBytes s f) can g now stands = likewise x (after x (FadeBytes s f)) (record { phase = refl; expiry = refl; records = refl; disk = λ t. le_refl (version_of (x.disk t)) }) stands
  step x (BreakBytes s f) can g now stands = likewise x (after x (BreakBytes s f)) (record { phase = refl; expiry = refl; records = refl; disk = λ t. le_refl (version_of (x.disk t)) }) stands
  step x (BreakBytesNew s f) can g now stands = likewise x (after x (BreakBytesNew s f)) (record { phase = refl; expiry = refl; records = refl; disk = λ t. le_refl (version_of (x.disk t)) }) stands
  step x (Settle a s block mark) can g now stands = likewise x (after x (Settle a s block mark)) (record { phase = refl; expiry = refl; records = refl; disk = λ t. le_refl (version_of (x.disk t)) }) stands

  -- the clock doesn't go back
  ticks : (x : World) (event : Event) → moment ≤ x.now → moment ≤ (after x event).now
  ticks x Tick now = more x.now now
    where
      more : (n : ℕ) → moment ≤ n → moment ≤ n + 1
      more n h = omega (arith, h)
  ticks x Leave now = now
  ticks x (Fail a) now = now
  ticks x (Renew a) now = now
  ticks x (Mount a) now = now
  ticks x (Unmount a) now = now
  ticks x (Take a l mode) now = now
  ticks x (Give a l) now = now
  ticks x (Lower a l) now = now
  ticks x (Do c) now = now
  ticks x (Reach a k) now = now
  ticks x (Ack a k) now = now
  ticks x (Sync a) now = now
  ticks x (Reclaim a k) now = now
  ticks x (Crash a) now = now
  ticks x (Begin a b) now = now
  ticks x (Look r s) now = now
  ticks x (Finish r) now = now
  ticks x (Fetch a s) now = now
  ticks x (Issue a s block mark) now = now
  ticks x (Replay r s block) now = now
  ticks x (Land s f) now = now
  ticks x (Fade s f) now = now
  ticks x (Break s f) now = now
  ticks x (BreakNew s f) now = now
  ticks x (FetchBytes a s) now = now
  ticks x (Clear a s) now = now
  ticks x (IssueBytes a s block mark) now = now
  ticks x (LandBytes s f) now = now
  ticks x (FadeBytes s f) now = now
  ticks x (BreakBytes s f) now = now
  ticks x (BreakBytesNew s f) now = now
  ticks x (Settle a s block mark) now = now

  -- one behind the other
  run_stands : (x u : World) (events : List Event) → Run x events u → Good x → moment ≤ x.now → Stands x d moment → Stands u d moment
  run_stands x u [] stays g now stands = stands
  run_stands x u (event ∷ events) (goes can run) g now stands = run_stands (after x event) u events run (good_step x event can g) (ticks x event now) (step x event can g now stands)

-- behind a run by which it still is dead, with a lease that was over before, all is in place
pub replayed_stay : ReplayedStay
replayed_stay w u events d run g dead over dead_then over_then all = go (run_stands d w.now w u events run g (le_refl w.now) (Fallen (record { dead = dead; over = over; all = all })))
  where
    apart : (n m : ℕ) → n ≤ m → m < n → ⊥
    apart n m h l = omega (arith, h, l)

    go : Stands u d w.now → IsReplayed u d
    go (Fallen f) = f.all
    go (Gone off) = absurd (dead_off dead_then off)
    go (Later more) = absurd (apart w.now (u.expiry d) more over_then)
