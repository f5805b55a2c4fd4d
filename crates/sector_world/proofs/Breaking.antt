-- A put fails, and leaves the old sector or the new one.
use Rattle.std.proofs.Common.{true, false, ⊎_elim, ℕ, ◌<◌, ◌≤◌, ◌≡◌, ◌≢◌, inl, inr, Option, Some, None, nat_eq, sym, ◌∙◌, ap, subst}
use Rattle.std.proofs.lemmas.Bool.{cases_eq, eqb-false}
use Rattle.frang_base.specs.declared.lock.Mode.TheVariants.{Sole}
use Rattle.sector_bytes.specs.Blocks.{Block, version_of}
use Rattle.sector_bytes.specs.Replays.{redo_all}
use Rattle.frang_base.specs.Functions.{put}
use Rattle.sector_world.specs.Histories.{settled}
use Rattle.sector_world.specs.OnDisk.{OnDisk}
use Rattle.frang_base.proofs.Basics.{by_test, at_put, put_other}
use Rattle.sector_world.specs.World.{World, Phase, Slot, Flight, Rescue, cover}
use Rattle.sector_world.specs.World.Phase.{Off, Up, Dead}
use Rattle.sector_world.specs.Guards.{to_replay, CanLand}
use Rattle.sector_world.specs.Steps.{after, rescue_broken}
use Rattle.sector_world.specs.Steps.Event.{Break, BreakNew}
use Rattle.sector_world.specs.Logged.{Logged, IsNewer, Pending, AbsentUnlessUp, FlightOk, ToldOk, RescueOk}
use Rattle.sector_world.proofs.Leases.{well_before}
use Rattle.sector_world.proofs.Landing.{newer_free, other_replay, told_other}
use Rattle.sector_world.proofs.Reaching.{sole_held}

-- a recovery that is still under way is of another log
broken_is : (d : ℕ) (o : Option Rescue) (r : Rescue) → rescue_broken d o ≡ Some r → (o ≡ Some r) × (r.dead ≢ d)
broken_is d None r e = absurd (cc)
broken_is d (Some q) r e =
    by_test (λ x. x ≡ Some r → (Some q ≡ Some r) × (r.dead ≢ d)) None (Some q) (nat_eq q.dead d)
    (λ i j. absurd (cc))
    (λ i j. let same : q ≡ r = cc in (j, λ k. eqb-false q.dead d i (ap (λ x. x.dead) same ∙ k))) e

-- a flight that is left: what a recovery wants is asked less often
left_flight : (w : World) (a s : ℕ) (f : Flight) → FlightOk w s f → FlightOk (record w { rescue = rescue_broken a w.rescue }) s f
left_flight w a s f q = record {
  place = q.place;
  higher = q.higher;
  lease = q.lease;
  sole = q.sole;
  named = q.named;
  source = ⊎_elim (λ o. inl (record { same = o.same; agrees = o.agrees }))
      (λ o. inr (record { taker = o.taker; dead = o.dead; until = o.until; told = λ r i j. o.told r (broken_is a w.rescue r i).0 j; rescuer = λ r i j. o.rescuer r (broken_is a w.rescue r i).0 j })) q.source;
}

pub logged_break : (w : World) (s : ℕ) (f : Flight) → Logged w → Logged (after w (Break s f))
logged_break w s f g = let newer : (a' s' : ℕ) → (after w (Break s f)).sick a' ≡ false → IsNewer ((after w (Break s f)).disk s') ((after w (Break s f)).slot a' s') = λ b t k. g.newer b t (well_before w f.by b k).0 in
    let flights : (s' : ℕ) (f' : Flight) → (after w (Break s f)).flight s' ≡ Some f' → (after w (Break s f)).now ≤ f'.stamp → FlightOk (after w (Break s f)) s' f' = λ t k. at_put (λ x. x ≡ Some k → w.now ≤ k.stamp → FlightOk (after w (Break s f)) t k) w.flight s None t (λ e i n. absurd (cc)) (λ n i l. left_flight w f.behalf t k (g.flights t k i l)) in
    let rescued : (r' : Rescue) → (after w (Break s f)).rescue ≡ Some r' → RescueOk (after w (Break s f)) r' = λ r e. g.rescued r (broken_is f.behalf w.rescue r e).0 in
    search

module _ (w : World) (s : ℕ) (f : Flight) (can : CanLand w s f) (g : Logged w) where
  ok : FlightOk w s f
  ok = g.flights s f can.there can.early

  -- the server of the write, or the dead one, holds the sector alone, so nobody else has it dirty
  broken_newer : (b t : ℕ) → put w.sick f.by true b ≡ false → IsNewer (put w.disk s f.block t) (w.slot b t)
  broken_newer b t k =
      at_put (λ x. IsNewer x (w.slot b t)) w.disk s f.block t
      (λ e. ⊎_elim
      (λ q. subst (λ x. IsNewer f.block (w.slot x t)) (sym q)
      (⊎_elim
      (λ o. absurd ((well_before w f.by b k).1 (q ∙ sym o.same)))
      (λ o. dead_newer (w.phase f.behalf) f.block (w.slot f.behalf t) o.dead (g.not_up f.behalf t)) ok.source))
      (λ q. newer_free (w.slot b t) (w.holds b (cover w t)) f.block (g.held b t)
      (λ m. q (sym (g.apart f.behalf b (cover w s) ok.sole (sole_held (w.holds b (cover w s)) (ap (λ x. w.holds b (cover w x)) (sym e) ∙ m))))))
      (cases_eq b f.behalf))
      (λ n. g.newer b t (well_before w f.by b k).0)
    where
      dead_newer : (p : Phase) (new : Block) (x : Slot) → p ≡ Dead → AbsentUnlessUp p x → IsNewer new x
      dead_newer Off new x e a = absurd (cc)
      dead_newer Up new x e a = absurd (cc)
      dead_newer Dead new x e a = subst (IsNewer new) (sym a) tt

  broken_place : (t : ℕ) → OnDisk w.opening w.durable t (Pending w t) (put w.disk s f.block t) (settled w.history)
  broken_place t = at_put (λ x. OnDisk w.opening w.durable t (Pending w t) x (settled w.history)) w.disk s f.block t
      (λ e. subst (λ x. OnDisk w.opening w.durable x (Pending w x) f.block (settled w.history)) (sym e) ok.place) (λ n. g.place t)

  broken_told : (r : Rescue) → w.rescue ≡ Some r → r.dead ≢ f.behalf → ToldOk (r.told s) f.block (redo_all (to_replay w r.dead) s f.block)
  broken_told r e other =
      let q : RescueOk w r = g.rescued r e in
      let j : w.holds r.dead (cover w s) ≡ Some Sole → ⊥ = λ m. other (g.apart r.dead f.behalf (cover w s) m (sole_held (w.holds f.behalf (cover w s)) ok.sole)) in
      let new : redo_all (to_replay w r.dead) s f.block ≡ f.block = other_replay w g r.dead s f.block j ok.place in
      let old : redo_all (to_replay w r.dead) s (w.disk s) ≡ w.disk s = other_replay w g r.dead s (w.disk s) j (g.place s) in
      subst (λ x. ToldOk (r.told s) f.block x) (sym new) (told_other (r.told s) (w.disk s) (redo_all (to_replay w r.dead) s (w.disk s)) f.block old (q.told s))

  pub logged_break_new : Logged (after w (BreakNew s f))
  logged_break_new = let newer : (a' s' : ℕ) → (after w (BreakNew s f)).sick a' ≡ false → IsNewer ((after w (BreakNew s f)).disk s') ((after w (BreakNew s f)).slot a' s') = broken_newer in
      let place : (s' : ℕ) → OnDisk (after w (BreakNew s f)).opening (after w (BreakNew s f)).durable s' (Pending (after w (BreakNew s f)) s') ((after w (BreakNew s f)).disk s') (settled (after w (BreakNew s f)).history) = broken_place in
      let flights : (s' : ℕ) (f' : Flight) → (after w (BreakNew s f)).flight s' ≡ Some f' → (after w (BreakNew s f)).now ≤ f'.stamp → FlightOk (after w (BreakNew s f)) s' f' = λ t k. at_put (λ x. x ≡ Some k → w.now ≤ k.stamp → FlightOk (after w (BreakNew s f)) t k) w.flight s None t (λ e i n. absurd (cc))
      (λ n i l. let q : FlightOk w t k = g.flights t k i l in let z = left_flight w f.behalf t k q in
      record { place = z.place; lease = z.lease; sole = z.sole; named = z.named; source = z.source; higher = subst (λ x. (version_of x) < (version_of k.block)) (sym (put_other w.disk s f.block t n)) q.higher }) in
      let rescued : (r' : Rescue) → (after w (BreakNew s f)).rescue ≡ Some r' → RescueOk (after w (BreakNew s f)) r' = λ r e. let l = broken_is f.behalf w.rescue r e in let q : RescueOk w r = g.rescued r l.0 in
      record {
        dead = q.dead;
        taker = q.taker;
        ended = q.ended;
        alive = q.alive;
        until = q.until;
        told = λ t. at_put (λ x. ToldOk (r.told t) x (redo_all (to_replay w r.dead) t x)) w.disk s f.block t
            (λ i. subst (λ x. ToldOk (r.told x) f.block (redo_all (to_replay w r.dead) x f.block)) (sym i) (broken_told r l.0 l.1))
            (λ n. q.told t);
      } in
      search

-- a get or a put of bytes failed: the server issues no more
pub logged_fail : (w : World) (a : ℕ) → Logged w → Logged (record w { sick = put w.sick a true })
logged_fail w a g =
    let newer : (a' s' : ℕ) → put w.sick a true a' ≡ false → IsNewer (w.disk s') (w.slot a' s') = λ b t k. g.newer b t (well_before w a b k).0 in
    search
