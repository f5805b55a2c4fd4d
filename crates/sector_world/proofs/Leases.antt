-- The clock and the leases, mounting and unmounting.
use Rattle.std.proofs.Common.{true, false, ⊎_elim, le_refl, le_trans, ℕ, ◌+◌, ◌<◌, ◌≤◌, ◌≡◌, ◌≢◌, inl, inr, Option, Some, None, nat_eq, if◌then◌else◌, refl, sym, ◌∙◌, ap, subst, arith}
use Rattle.std.proofs.lemmas.Bool.{eqb-false, eqb-true}
use Rattle.frang_base.specs.declared.lock.Mode.{Mode}
use Rattle.frang_base.specs.declared.lock.LockId.{LockId}
use Rattle.sector_bytes.specs.Blocks.{Block}
use Rattle.frang_base.specs.Functions.{put}
use Rattle.sector_world.specs.Histories.{Commit, settled}
use Rattle.sector_world.specs.Seen.{Unsynced}
use Rattle.sector_world.specs.OnDisk.{OnDisk}
use Rattle.frang_base.proofs.Basics.{by_test, at_put, put_same, put_other}
use Rattle.sector_world.proofs.HistoryLaws.{on_disk_map}
use Rattle.sector_world.specs.World.{World, Phase, Slot, Flight, Rescue, cover}
use Rattle.sector_world.specs.World.Phase.{Off, Up, Dead}
use Rattle.sector_world.specs.World.Slot.{Absent, Clean, Dirty}
use Rattle.sector_world.specs.Guards.{CanRenew, CanMount, CanUnmount}
use Rattle.sector_world.specs.Steps.{after, is_taker, extended}
use Rattle.sector_world.specs.Steps.Event.{Leave, Tick, Renew, Mount, Unmount}
use Rattle.sector_world.specs.Logged.{Logged, IsNewer, Covers, Pending, HeldIf, NoneIfOff, AbsentUnlessUp, Agrees, FlightOk, RescueOk}

pub logged_tick : (w : World) → Logged w → Logged (after w Tick)
logged_tick w g =
    let flights : (s : ℕ) (f : Flight) → w.flight s ≡ Some f → w.now + 1 ≤ f.stamp → FlightOk w s f = λ s f e n. g.flights s f e (omega arith) in
    let rescued : (r : Rescue) → w.rescue ≡ Some r → RescueOk (after w Tick) r = λ r e. let q : RescueOk w r = g.rescued r e in
    record { dead = q.dead; taker = q.taker; ended = (let m : w.expiry r.dead < w.now = q.ended in omega arith); alive = q.alive; until = q.until; told = q.told } in
    let leases : (a : ℕ) → w.expiry a ≤ w.now + 1 + 30 = λ a. let m : w.expiry a ≤ w.now + 30 = g.leases a in omega arith in
    let ends : (d : ℕ) → w.until d ≤ w.now + 1 + 30 = λ d. let m : w.until d ≤ w.now + 30 = g.ends d in omega arith in
    let begun : (d b : ℕ) → w.taker d ≡ Some b → (w.phase d ≡ Dead) × (w.expiry d < w.now + 1) = λ d b e. let q = g.begun d b e in (q.0, let m : w.expiry d < w.now = q.1 in omega arith) in
    search

none_some : (r : Rescue) → ◌≡◌ {A = Option Rescue} None (Some r) → ⊥
none_some r e = cc

-- a recovery that isn't gone on with leaves its writes to be late or in place
pub logged_leave : (w : World) → Logged w → Logged (after w Leave)
logged_leave w g =
    let flights : (s : ℕ) (f : Flight) → w.flight s ≡ Some f → w.now ≤ f.stamp → FlightOk (after w Leave) s f = λ s f e n.
    let q : FlightOk w s f = g.flights s f e n in
    record {
      place = q.place;
      higher = q.higher;
      lease = q.lease;
      sole = q.sole;
      named = q.named;
      source = ⊎_elim (λ o. inl o) (λ o. inr (record { taker = o.taker; dead = o.dead; until = o.until; told = λ r i j. absurd (none_some r i); rescuer = λ r i j. absurd (none_some r i) })) q.source;
    } in
    let rescued : (r : Rescue) → ◌≡◌ {A = Option Rescue} None (Some r) → RescueOk (after w Leave) r = λ r e. absurd (none_some r e) in
    search

phases_differ : (p : ℕ → Phase) (a b : ℕ) → p a ≡ Up → p b ≡ Dead → b ≢ a
phases_differ p a b u d e = let q : p a ≡ p b = ap p (sym e) in cc

-- the hold on a log isn't cut short
extended_up : (a moment : ℕ) (taker : ℕ → Option ℕ) (until : ℕ → ℕ) (d : ℕ) → until d ≤ moment → until d ≤ extended a moment taker until d
extended_up a moment taker until d f = by_test (λ x. until d ≤ x) moment (until d) (is_taker a (taker d)) (λ e. f) (λ e. le_refl (until d))

extended_most : (a moment : ℕ) (taker : ℕ → Option ℕ) (until : ℕ → ℕ) (d : ℕ) → until d ≤ moment → extended a moment taker until d ≤ moment
extended_most a moment taker until d f = by_test (λ x. x ≤ moment) moment (until d) (is_taker a (taker d)) (λ e. le_refl moment) (λ e. f)

extended_own : (a moment d b : ℕ) (taker : ℕ → Option ℕ) (expiry until : ℕ → ℕ) → taker d ≡ Some b → until d ≡ expiry b → extended a moment taker until d ≡ put expiry a moment b
extended_own a moment d b taker expiry until t h =
    subst (λ o. (if is_taker a o then moment else until d) ≡ put expiry a moment b) (sym t)
    (by_test (λ x. x ≡ put expiry a moment b) moment (until d) (nat_eq b a)
    (λ e. sym (subst (λ x. put expiry a moment x ≡ moment) (sym (eqb-true b a e)) (put_same expiry a moment)))
    (λ e. h ∙ sym (put_other expiry a moment b (eqb-false b a e))))

pub longer : (w : World) (a : ℕ) → w.expiry a < w.now + 30 → (d : ℕ) → w.expiry d ≤ put w.expiry a (w.now + 30) d
longer w a less d = at_put (λ x. w.expiry d ≤ x) w.expiry a (w.now + 30) d (λ e. let q : w.expiry d ≡ w.expiry a = ap w.expiry e in omega arith) (λ n. omega arith)

pub logged_renew : (w : World) (a : ℕ) → CanRenew w a → Logged w → Logged (after w (Renew a))
logged_renew w a can g =
    let held : (d : ℕ) → w.until d ≤ extended a (w.now + 30) w.taker w.until d = λ d. extended_up a (w.now + 30) w.taker w.until d (g.ends d) in
    let ends : (d' : ℕ) → (after w (Renew a)).until d' ≤ (after w (Renew a)).now + 30 = λ d. extended_most a (w.now + 30) w.taker w.until d (g.ends d) in
    let flights : (s : ℕ) (f : Flight) → w.flight s ≡ Some f → w.now ≤ f.stamp → FlightOk (after w (Renew a)) s f = λ s f e n.
    let q : FlightOk w s f = g.flights s f e n in
    record {
      place = q.place;
      higher = q.higher;
      lease = le_trans q.lease (longer w a can.later f.by);
      sole = q.sole;
      named = q.named;
      source = ⊎_elim (λ o. inl (record { same = o.same; agrees = o.agrees }))
          (λ o. inr (record { taker = o.taker; dead = o.dead; until = le_trans o.until (held f.behalf); told = o.told; rescuer = o.rescuer })) q.source;
    } in
    let rescued : (r : Rescue) → w.rescue ≡ Some r → RescueOk (after w (Renew a)) r = λ r e.
    let q : RescueOk w r = g.rescued r e in
    record {
      dead = q.dead;
      taker = q.taker;
      ended = at_put (λ x. x < w.now) w.expiry a (w.now + 30) r.dead (λ i. absurd (can.alive (sym (ap w.phase i) ∙ q.dead))) (λ n. q.ended);
      alive = q.alive;
      until = extended_own a (w.now + 30) r.dead r.by w.taker w.expiry w.until q.taker q.until;
      told = q.told;
    } in
    let leases : (a' : ℕ) → (after w (Renew a)).expiry a' ≤ (after w (Renew a)).now + 30 = λ b. at_put (λ x. x ≤ w.now + 30) w.expiry a (w.now + 30) b (λ e. le_refl (w.now + 30)) (λ n. g.leases b) in
    let begun : (d' b' : ℕ) → (after w (Renew a)).taker d' ≡ Some b' → ((after w (Renew a)).phase d' ≡ Dead) × ((after w (Renew a)).expiry d' < (after w (Renew a)).now) = λ d b e. let q = g.begun d b e in (q.0, at_put (λ x. x < w.now) w.expiry a (w.now + 30) d (λ i. absurd (can.alive (sym (ap w.phase i) ∙ q.0))) (λ n. q.1)) in
    let flights : (s' : ℕ) (f' : Flight) → (after w (Renew a)).flight s' ≡ Some f' → (after w (Renew a)).now ≤ f'.stamp → FlightOk (after w (Renew a)) s' f' = flights in
    let rescued : (r' : Rescue) → (after w (Renew a)).rescue ≡ Some r' → RescueOk (after w (Renew a)) r' = rescued in
    search

-- what is pending, at a server whose phase is another now
phase_pending : (w : World) (a : ℕ) (p : Phase) (s : ℕ) (c : Commit) → (c.by ≡ a → Pending w s c → ⊥) → Pending w s c → Pending (record w { phase = put w.phase a p }) s c
phase_pending w a p s c none q = record {
  sole = q.sole;
  above = q.above;
  covered = at_put (λ x. Covers x (w.slot c.by s) c.op) w.phase a p c.by (λ e. absurd (none e q)) (λ n. q.covered);
}

absent_newer : (p : Phase) (old : Block) (x : Slot) → p ≡ Off → AbsentUnlessUp p x → IsNewer old x
absent_newer Off old x e a = subst (IsNewer old) (sym a) tt
absent_newer Up old x e a = absurd (cc)
absent_newer Dead old x e a = absurd (cc)

pub logged_mount : (w : World) (a : ℕ) → CanMount w a → Logged w → Logged (after w (Mount a))
logged_mount w a can g =
    let none : (s : ℕ) (c : Commit) → c.by ≡ a → Pending w s c → ⊥ = λ s c e q.
    let m : w.phase c.by ≡ Off = ap w.phase e ∙ can.off in subst (λ x. Covers x (w.slot c.by s) c.op) m q.covered in
    let goes : (s : ℕ) (block : Block) → OnDisk w.opening w.durable s (Pending w s) block (settled w.history) → OnDisk w.opening w.durable s (Pending (after w (Mount a)) s) block (settled w.history) = λ s block o.
    on_disk_map w.opening w.durable w.durable s (Pending w s) (Pending (after w (Mount a)) s) block (λ d. le_refl (w.durable d)) (λ c i q. phase_pending w a Up s c (none s c) q) (settled w.history) o in
    let flights : (s : ℕ) (f : Flight) → w.flight s ≡ Some f → w.now ≤ f.stamp → FlightOk (after w (Mount a)) s f = λ s f e n.
    let q : FlightOk w s f = g.flights s f e n in
    record {
      place = goes s f.block q.place;
      higher = q.higher;
      lease = at_put (λ x. f.stamp ≤ x) w.expiry a (w.now + 30) f.by (λ i. le_trans q.lease (g.leases f.by)) (λ i. q.lease);
      sole = q.sole;
      named = q.named;
      source = ⊎_elim
          (λ o. let other : f.by ≢ a = λ i. subst (λ x. Agrees x (w.slot f.by s) f.block) (ap w.phase i ∙ can.off) o.agrees in
          inl (record {
            same = o.same;
            agrees = at_put (λ x. Agrees x (w.slot f.by s) f.block) w.phase a Up f.by (λ i. absurd (other i)) (λ i. o.agrees);
          }))
          (λ o. inr (record {
            taker = o.taker;
            until = o.until;
            told = o.told;
            rescuer = o.rescuer;
            dead = at_put (λ x. x ≡ Dead) w.phase a Up f.behalf (λ i. let z : w.phase f.behalf ≡ Off = ap w.phase i ∙ can.off in let y = o.dead in absurd (cc)) (λ i. o.dead);
          }))
          q.source;
    } in
    let rescued : (r : Rescue) → w.rescue ≡ Some r → RescueOk (after w (Mount a)) r = λ r e.
    let q : RescueOk w r = g.rescued r e in
    record {
      dead = at_put (λ x. x ≡ Dead) w.phase a Up r.dead (λ i. let z : w.phase r.dead ≡ Off = ap w.phase i ∙ can.off in let y = q.dead in absurd (cc)) (λ i. q.dead);
      taker = q.taker;
      ended = at_put (λ x. x < w.now) w.expiry a (w.now + 30) r.dead (λ i. let z : w.phase r.dead ≡ Off = ap w.phase i ∙ can.off in let y = q.dead in absurd (cc)) (λ i. q.ended);
      alive = at_put (λ x. x ≢ Dead) w.phase a Up r.by (λ i j. absurd (cc)) (λ i. q.alive);
      until = at_put (λ x. w.until r.dead ≡ x) w.expiry a (w.now + 30) r.by (λ i. absurd (can.resting r e i)) (λ i. q.until);
      told = q.told;
    } in
    let known : (a' : ℕ) → (after w (Mount a)).phase a' ≢ Off → a' < (after w (Mount a)).servers = λ b. at_put (λ p. p ≢ Off → b < w.servers) w.phase a Up b (λ e n. subst (λ x. x < w.servers) (sym e) can.known) (λ n. g.known b) in
    let leases : (a' : ℕ) → (after w (Mount a)).expiry a' ≤ (after w (Mount a)).now + 30 = λ b. at_put (λ x. x ≤ w.now + 30) w.expiry a (w.now + 30) b (λ e. le_refl (w.now + 30)) (λ n. g.leases b) in
    let begun : (d' b' : ℕ) → (after w (Mount a)).taker d' ≡ Some b' → ((after w (Mount a)).phase d' ≡ Dead) × ((after w (Mount a)).expiry d' < (after w (Mount a)).now) = λ d b e. let q = g.begun d b e in
    let n : d ≢ a = λ i. let z : w.phase d ≡ Off = ap w.phase i ∙ can.off in let y = q.0 in cc in
    (put_other w.phase a Up d n ∙ q.0, at_put (λ x. x < w.now) w.expiry a (w.now + 30) d (λ i. absurd (n i)) (λ i. q.1)) in
    let off_free : (a' : ℕ) (l' : LockId) → NoneIfOff ((after w (Mount a)).phase a') ((after w (Mount a)).holds a' l') = λ b s. at_put (λ p. NoneIfOff p (w.holds b s)) w.phase a Up b (λ e. tt) (λ n. g.off_free b s) in
    let rested : (a' : ℕ) → (after w (Mount a)).phase a' ≡ Off → (after w (Mount a)).last a' ≤ (after w (Mount a)).durable a' = λ b. at_put (λ p. p ≡ Off → w.last b ≤ w.durable b) w.phase a Up b (λ e i. absurd (cc)) (λ n. g.rested b) in
    let not_up : (a' s' : ℕ) → AbsentUnlessUp ((after w (Mount a)).phase a') ((after w (Mount a)).slot a' s') = λ b s. at_put (λ p. AbsentUnlessUp p (w.slot b s)) w.phase a Up b (λ e. tt) (λ n. g.not_up b s) in
    let newer : (a' s' : ℕ) → (after w (Mount a)).sick a' ≡ false → IsNewer ((after w (Mount a)).disk s') ((after w (Mount a)).slot a' s') = λ b s. at_put (λ x. x ≡ false → IsNewer (w.disk s) (w.slot b s)) w.sick a false b (λ e k. absent_newer (w.phase b) (w.disk s) (w.slot b s) (ap w.phase e ∙ can.off) (g.not_up b s)) (λ n. g.newer b s) in
    let place : (s' : ℕ) → OnDisk (after w (Mount a)).opening (after w (Mount a)).durable s' (Pending (after w (Mount a)) s') ((after w (Mount a)).disk s') (settled (after w (Mount a)).history) = λ s. goes s (w.disk s) (g.place s) in
    let unsynced : (d' : ℕ) → Unsynced d' ((after w (Mount a)).durable d') (after w (Mount a)).history = λ d. ((λ e. subst (λ x. w.last a ≤ w.durable x) e (g.rested a can.off)), g.unsynced d) in
    let flights : (s' : ℕ) (f' : Flight) → (after w (Mount a)).flight s' ≡ Some f' → (after w (Mount a)).now ≤ f'.stamp → FlightOk (after w (Mount a)) s' f' = flights in
    let rescued : (r' : Rescue) → (after w (Mount a)).rescue ≡ Some r' → RescueOk (after w (Mount a)) r' = rescued in
    search

absent_if_free : (x : Slot) (m : Option Mode) → m ≡ None → HeldIf x m → x ≡ Absent
absent_if_free Absent m e h = refl
absent_if_free (Clean z) m e h = absurd (h e)
absent_if_free (Dirty z mark) m e h = cc

-- who isn't sick now wasn't sick before
pub well_before : (w : World) (a b : ℕ) → put w.sick a true b ≡ false → (w.sick b ≡ false) × (b ≢ a)
well_before w a b = at_put (λ x. x ≡ false → (w.sick b ≡ false) × (b ≢ a)) w.sick a true b (λ e k. absurd (cc)) (λ n k. (k, n))

pub logged_unmount : (w : World) (a : ℕ) → CanUnmount w a → Logged w → Logged (after w (Unmount a))
logged_unmount w a can g =
    let none : (s : ℕ) (c : Commit) → c.by ≡ a → Pending w s c → ⊥ = λ s c e q.
    let m : w.holds c.by (cover w s) ≡ None = ap (λ x. w.holds x (cover w s)) e ∙ can.given (cover w s) in let y = q.sole in cc in
    let goes : (s : ℕ) (block : Block) → OnDisk w.opening w.durable s (Pending w s) block (settled w.history) → OnDisk w.opening w.durable s (Pending (after w (Unmount a)) s) block (settled w.history) = λ s block o.
    on_disk_map w.opening w.durable w.durable s (Pending w s) (Pending (after w (Unmount a)) s) block (λ d. le_refl (w.durable d)) (λ c i q. phase_pending w a Off s c (none s c) q) (settled w.history) o in
    let full : w.last a ≤ w.durable a = le_trans can.logged (g.acks a) in
    let flights : (s : ℕ) (f : Flight) → w.flight s ≡ Some f → w.now ≤ f.stamp → FlightOk (after w (Unmount a)) s f = λ s f e n.
    let q : FlightOk w s f = g.flights s f e n in
    record {
      place = goes s f.block q.place;
      higher = q.higher;
      lease = q.lease;
      sole = q.sole;
      named = q.named;
      source = ⊎_elim
          (λ o. inl (record {
            same = o.same;
            agrees = at_put (λ x. Agrees x (w.slot f.by s) f.block) w.phase a Off f.by
                (λ i. let m : w.holds f.behalf (cover w s) ≡ None = ap (λ x. w.holds x (cover w s)) (sym o.same ∙ i) ∙ can.given (cover w s) in let y = q.sole in absurd (cc)) (λ i. o.agrees);
          }))
          (λ o. inr (record {
            taker = o.taker;
            until = o.until;
            told = o.told;
            rescuer = o.rescuer;
            dead = at_put (λ x. x ≡ Dead) w.phase a Off f.behalf (λ i. absurd (phases_differ w.phase a f.behalf can.up o.dead i)) (λ i. o.dead);
          }))
          q.source;
    } in
    let rescued : (r : Rescue) → w.rescue ≡ Some r → RescueOk (after w (Unmount a)) r = λ r e.
    let q : RescueOk w r = g.rescued r e in
    record {
      dead = at_put (λ x. x ≡ Dead) w.phase a Off r.dead (λ i. absurd (phases_differ w.phase a r.dead can.up q.dead i)) (λ i. q.dead);
      taker = q.taker;
      ended = q.ended;
      alive = at_put (λ x. x ≢ Dead) w.phase a Off r.by (λ i j. absurd (cc)) (λ i. q.alive);
      until = q.until;
      told = q.told;
    } in
    let known : (a' : ℕ) → (after w (Unmount a)).phase a' ≢ Off → a' < (after w (Unmount a)).servers = λ b. at_put (λ p. p ≢ Off → b < w.servers) w.phase a Off b (λ e n. absurd (n refl)) (λ n. g.known b) in
    let begun : (d' b' : ℕ) → (after w (Unmount a)).taker d' ≡ Some b' → ((after w (Unmount a)).phase d' ≡ Dead) × ((after w (Unmount a)).expiry d' < (after w (Unmount a)).now) = λ d b e. let q = g.begun d b e in (put_other w.phase a Off d (phases_differ w.phase a d can.up q.0) ∙ q.0, q.1) in
    let off_free : (a' : ℕ) (l' : LockId) → NoneIfOff ((after w (Unmount a)).phase a') ((after w (Unmount a)).holds a' l') = λ b l. at_put (λ p. NoneIfOff p (w.holds b l)) w.phase a Off b (λ e. ap (λ x. w.holds x l) e ∙ can.given l) (λ n. g.off_free b l) in
    let rested : (a' : ℕ) → (after w (Unmount a)).phase a' ≡ Off → (after w (Unmount a)).last a' ≤ (after w (Unmount a)).durable a' = λ b. at_put (λ p. p ≡ Off → w.last b ≤ w.durable b) w.phase a Off b (λ e i. subst (λ x. w.last x ≤ w.durable x) (sym e) full) (λ n. g.rested b) in
    let not_up : (a' s' : ℕ) → AbsentUnlessUp ((after w (Unmount a)).phase a') ((after w (Unmount a)).slot a' s') = λ b s. at_put (λ p. AbsentUnlessUp p (w.slot b s)) w.phase a Off b
    (λ e. absent_if_free (w.slot b s) (w.holds b (cover w s)) (ap (λ x. w.holds x (cover w s)) e ∙ can.given (cover w s)) (g.held b s)) (λ n. g.not_up b s) in
    let newer : (a' s' : ℕ) → (after w (Unmount a)).sick a' ≡ false → IsNewer ((after w (Unmount a)).disk s') ((after w (Unmount a)).slot a' s') = λ b t k. g.newer b t (well_before w a b k).0 in
    let place : (s' : ℕ) → OnDisk (after w (Unmount a)).opening (after w (Unmount a)).durable s' (Pending (after w (Unmount a)) s') ((after w (Unmount a)).disk s') (settled (after w (Unmount a)).history) = λ s. goes s (w.disk s) (g.place s) in
    let unsynced : (d' : ℕ) → Unsynced d' ((after w (Unmount a)).durable d') (after w (Unmount a)).history = λ d. ((λ e. subst (λ x. w.last a ≤ w.durable x) e full), g.unsynced d) in
    let flights : (s' : ℕ) (f' : Flight) → (after w (Unmount a)).flight s' ≡ Some f' → (after w (Unmount a)).now ≤ f'.stamp → FlightOk (after w (Unmount a)) s' f' = flights in
    let rescued : (r' : Rescue) → (after w (Unmount a)).rescue ≡ Some r' → RescueOk (after w (Unmount a)) r' = rescued in
    search
