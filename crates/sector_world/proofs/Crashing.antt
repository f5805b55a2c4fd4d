-- The death of a server.
use Rattle.std.proofs.Common.{⊎_elim, le_refl, ℕ, ◌<◌, ◌≤◌, ◌≡◌, ◌≢◌, inl, inr, Option, Some, None, nat_eq, refl, ◌∙◌, ap, false}
use Rattle.std.proofs.lemmas.Bool.{eqb-false}
use Rattle.frang_base.specs.declared.lock.LockId.{LockId}
use Rattle.sector_bytes.specs.Blocks.{Block}
use Rattle.frang_base.specs.Functions.{put}
use Rattle.sector_world.specs.Histories.{settled}
use Rattle.sector_world.specs.OnDisk.{OnDisk}
use Rattle.frang_base.proofs.Basics.{by_test, at_put}
use Rattle.sector_world.proofs.HistoryLaws.{on_disk_map}
use Rattle.sector_world.proofs.Leases.{well_before}
use Rattle.sector_world.specs.World.{World, Rescue, cover, Flight}
use Rattle.sector_world.specs.World.Phase.{Off, Up, Dead}
use Rattle.sector_world.specs.World.Slot.{Absent}
use Rattle.sector_world.specs.Steps.{after, rescue_left}
use Rattle.sector_world.specs.Steps.Event.{Crash}
use Rattle.sector_world.specs.Logged.{now_of, IsCopy, Logged, IsNewer, Covers, Pending, HeldIf, IsAhead, NoneIfOff, AbsentUnlessUp, Agrees, FlightOk, RescueOk}

-- a recovery that is still under way isn't the dead server's
pub left_is : (a : ℕ) (o : Option Rescue) (r : Rescue) → rescue_left a o ≡ Some r → (o ≡ Some r) × (r.by ≢ a)
left_is a None r e = absurd (cc)
left_is a (Some q) r e =
    by_test (λ x. x ≡ Some r → (Some q ≡ Some r) × (r.by ≢ a)) None (Some q) (nat_eq q.by a)
    (λ i j. absurd (cc))
    (λ i j. let same : q ≡ r = cc in (j, λ k. eqb-false q.by a i (ap (λ x. x.by) same ∙ k))) e

pub logged_crash : (w : World) (a : ℕ) → w.phase a ≡ Up → Logged w → Logged (after w (Crash a))
logged_crash w a up g =
    let goes : (s : ℕ) (block : Block) → OnDisk w.opening w.durable s (Pending w s) block (settled w.history) → OnDisk w.opening w.durable s (Pending (after w (Crash a)) s) block (settled w.history) = λ s block o.
    on_disk_map w.opening w.durable w.durable s (Pending w s) (Pending (after w (Crash a)) s) block (λ d. le_refl (w.durable d))
    (λ c i p. record {
      sole = p.sole;
      above = p.above;
      covered = at_put (λ x. Covers x (put w.slot a (λ s. Absent) c.by s) c.op) w.phase a Dead c.by (λ e. tt)
          (λ n. at_put (λ f. Covers (w.phase c.by) (f s) c.op) w.slot a (λ s. Absent) c.by (λ e. absurd (n e)) (λ n. p.covered));
    })
    (settled w.history) o in
    let known : (a' : ℕ) → (after w (Crash a)).phase a' ≢ Off → a' < (after w (Crash a)).servers = λ b. at_put (λ p. p ≢ Off → b < w.servers) w.phase a Dead b (λ e n. g.known b (λ q. let r = ap w.phase e ∙ up in cc)) (λ n. g.known b) in
    let begun : (d' b' : ℕ) → (after w (Crash a)).taker d' ≡ Some b' → ((after w (Crash a)).phase d' ≡ Dead) × ((after w (Crash a)).expiry d' < (after w (Crash a)).now) = λ d b e. let q = g.begun d b e in (at_put (λ x. x ≡ Dead) w.phase a Dead d (λ i. refl) (λ n. q.0), q.1) in
    let off_free : (a' : ℕ) (l' : LockId) → NoneIfOff ((after w (Crash a)).phase a') ((after w (Crash a)).holds a' l') = λ b t. at_put (λ p. NoneIfOff p (w.holds b t)) w.phase a Dead b (λ e. tt) (λ n. g.off_free b t) in
    let rested : (a' : ℕ) → (after w (Crash a)).phase a' ≡ Off → (after w (Crash a)).last a' ≤ (after w (Crash a)).durable a' = λ b. at_put (λ p. p ≡ Off → w.last b ≤ w.durable b) w.phase a Dead b (λ e i. absurd (cc)) (λ n. g.rested b) in
    let not_up : (a' s' : ℕ) → AbsentUnlessUp ((after w (Crash a)).phase a') ((after w (Crash a)).slot a' s') = λ b t. at_put (λ p. AbsentUnlessUp p (put w.slot a (λ s. Absent) b t)) w.phase a Dead b
    (λ e. at_put (λ f. f t ≡ Absent) w.slot a (λ s. Absent) b (λ e. refl) (λ n. absurd (n e)))
    (λ n. at_put (λ f. AbsentUnlessUp (w.phase b) (f t)) w.slot a (λ s. Absent) b (λ e. absurd (n e)) (λ n. g.not_up b t)) in
    let held : (a' s' : ℕ) → HeldIf ((after w (Crash a)).slot a' s') ((after w (Crash a)).holds a' (cover (after w (Crash a)) s')) = λ b t. at_put (λ f. HeldIf (f t) (w.holds b (cover w t))) w.slot a (λ s. Absent) b (λ e. tt) (λ n. g.held b t) in
    let copies : (a' s' : ℕ) → IsCopy ((after w (Crash a)).slot a' s') (now_of (after w (Crash a)) s') = λ b t. at_put (λ f. IsCopy (f t) (now_of w t)) w.slot a (λ s. Absent) b (λ e. tt) (λ n. g.copies b t) in
    let newer : (a' s' : ℕ) → (after w (Crash a)).sick a' ≡ false → IsNewer ((after w (Crash a)).disk s') ((after w (Crash a)).slot a' s') = λ b t k. at_put (λ f. IsNewer (w.disk t) (f t)) w.slot a (λ s. Absent) b (λ e. tt) (λ n. g.newer b t (well_before w a b k).0) in
    let ahead : (a' s' : ℕ) → IsAhead ((after w (Crash a)).last a') s' a' (settled (after w (Crash a)).history) ((after w (Crash a)).slot a' s') = λ b t. at_put (λ f. IsAhead (w.last b) t b (settled w.history) (f t)) w.slot a (λ s. Absent) b (λ e. tt) (λ n. g.ahead b t) in
    let place : (s' : ℕ) → OnDisk (after w (Crash a)).opening (after w (Crash a)).durable s' (Pending (after w (Crash a)) s') ((after w (Crash a)).disk s') (settled (after w (Crash a)).history) = λ s. goes s (w.disk s) (g.place s) in
    let flights : (s' : ℕ) (f' : Flight) → (after w (Crash a)).flight s' ≡ Some f' → (after w (Crash a)).now ≤ f'.stamp → FlightOk (after w (Crash a)) s' f' = λ s f e n. let q : FlightOk w s f = g.flights s f e n in
    record {
      place = goes s f.block q.place;
      higher = q.higher;
      lease = q.lease;
      sole = q.sole;
      named = q.named;
      source = ⊎_elim
          (λ o. inl (record {
            same = o.same;
            agrees = at_put (λ x. Agrees x (put w.slot a (λ s. Absent) f.by s) f.block) w.phase a Dead f.by (λ i. tt)
                (λ i. at_put (λ x. Agrees (w.phase f.by) (x s) f.block) w.slot a (λ s. Absent) f.by (λ j. absurd (i j)) (λ j. o.agrees));
          }))
          (λ o. inr (record {
            taker = o.taker;
            until = o.until;
            dead = at_put (λ x. x ≡ Dead) w.phase a Dead f.behalf (λ i. refl) (λ i. o.dead);
            told = λ r i j. o.told r (left_is a w.rescue r i).0 j;
            rescuer = λ r i j. o.rescuer r (left_is a w.rescue r i).0 j;
          }))
          q.source;
    } in
    let rescued : (r' : Rescue) → (after w (Crash a)).rescue ≡ Some r' → RescueOk (after w (Crash a)) r' = λ r e. let l = left_is a w.rescue r e in let q : RescueOk w r = g.rescued r l.0 in
    record {
      taker = q.taker;
      ended = q.ended;
      until = q.until;
      told = q.told;
      dead = at_put (λ x. x ≡ Dead) w.phase a Dead r.dead (λ i. refl) (λ i. q.dead);
      alive = at_put (λ x. x ≢ Dead) w.phase a Dead r.by (λ i. absurd (l.1 i)) (λ i. q.alive);
    } in
    search
