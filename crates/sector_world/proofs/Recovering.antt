-- A recovery beside live servers: it begins, looks at sectors, and writes them.
use Rattle.std.proofs.Common.{List, ⊎_elim, ℕ, ◌+◌, ◌-◌, ◌<◌, ◌≤◌, ◌≡◌, ◌≢◌, ◌⊎◌, inl, inr, Option, Some, None, nat_lt, refl, sym, ◌∙◌, ap, subst, arith}
use Rattle.std.proofs.lemmas.Bool.Decides.{nat_tests}
use Rattle.std.proofs.lemmas.Option.{same_Some}
use Rattle.std.proofs.lemmas.Bool.{lt-ltb}
use Rattle.frang_base.specs.declared.lock.Mode.{Mode}
use Rattle.frang_base.specs.declared.lock.Mode.TheVariants.{Shared, Sole}
use Rattle.sector_bytes.specs.Blocks.{Block, version_of}
use Rattle.frang_base.specs.declared.change.Redo.{Redo}
use Rattle.sector_bytes.specs.Replays.{redo_all, up_to}
use Rattle.frang_base.specs.Functions.{put}
use Rattle.sector_world.specs.Histories.{settled, Named}
use Rattle.sector_world.specs.OnDisk.{OnDisk}
use Rattle.frang_base.proofs.Basics.{by_test, at_put, put_same, put_other}
use Rattle.sector_world.proofs.Removals.{redo_named}
use Rattle.sector_world.proofs.More.{replay_place}
use Rattle.sector_world.specs.World.{World, Rescue, cover, Flight}
use Rattle.sector_world.specs.World.Phase.{Dead}
use Rattle.sector_world.specs.World.Told.{Unread, Wanted, InPlace}
use Rattle.sector_world.specs.Guards.{to_replay, CanBegin, CanReplay}
use Rattle.sector_world.specs.Steps.{after, found}
use Rattle.sector_world.specs.Steps.Event.{Begin, Look, Replay}
use Rattle.sector_world.specs.Logged.{Logged, Pending, FlightOk, ToldOk, RescueOk}
use Rattle.sector_world.proofs.Reaching.{sole_held, at_flight}
use Rattle.sector_world.proofs.Landing.{other_replay}

pub logged_begin : (w : World) (d b : ℕ) → CanBegin w d b → Logged w → Logged (after w (Begin d b))
logged_begin w d b can g = let ends : (d' : ℕ) → (after w (Begin d b)).until d' ≤ (after w (Begin d b)).now + 30 = λ e. at_put (λ x. x ≤ w.now + 30) w.until d (w.expiry b) e (λ i. g.leases b) (λ n. g.ends e) in
    let begun : (d' b' : ℕ) → (after w (Begin d b)).taker d' ≡ Some b' → ((after w (Begin d b)).phase d' ≡ Dead) × ((after w (Begin d b)).expiry d' < (after w (Begin d b)).now) = λ e x. at_put (λ o. o ≡ Some x → (w.phase e ≡ Dead) × (w.expiry e < w.now)) w.taker d (Some b) e (λ i j. (ap w.phase i ∙ can.dead, subst (λ y. w.expiry y < w.now) (sym i) can.ended)) (λ n. g.begun e x) in
    let flights : (s' : ℕ) (f' : Flight) → (after w (Begin d b)).flight s' ≡ Some f' → (after w (Begin d b)).now ≤ f'.stamp → FlightOk (after w (Begin d b)) s' f' = λ s f e n. let q : FlightOk w s f = g.flights s f e n in
    record {
      place = q.place;
      higher = q.higher;
      lease = q.lease;
      sole = q.sole;
      named = q.named;
      source = ⊎_elim (λ o. inl o)
          (λ o. let other : f.behalf ≢ d = λ i. let u : f.stamp ≤ w.until f.behalf = o.until in let v : w.until d < w.now = can.given_up in let z : w.until f.behalf ≡ w.until d = ap w.until i in absurd (omega arith) in
          inr (record {
            taker = put_other w.taker d (Some b) f.behalf other ∙ o.taker;
            dead = o.dead;
            until = subst (λ x. f.stamp ≤ x) (sym (put_other w.until d (w.expiry b) f.behalf other)) o.until;
            rescuer = λ r i j. absurd (other (sym j ∙ sym (ap (λ x. x.dead) (same_Some (record { dead = d; by = b; told = λ s. Unread }) r i))));
            told = λ r i j. absurd (other (sym j ∙ sym (ap (λ x. x.dead) (same_Some (record { dead = d; by = b; told = λ s. Unread }) r i))));
          }))
          q.source;
    } in
    let rescued : (r' : Rescue) → (after w (Begin d b)).rescue ≡ Some r' → RescueOk (after w (Begin d b)) r' = λ r e. subst (λ x. RescueOk (after w (Begin d b)) x) (same_Some (record { dead = d; by = b; told = λ s. Unread }) r e)
    (record { dead = can.dead; ended = can.ended; alive = can.alive; taker = put_same w.taker d (Some b); until = put_same w.until d (w.expiry b); told = λ s. tt }) in
    search

found_ok : (rs : List Redo) (s : ℕ) (old : Block) → ToldOk (found old (redo_all rs s old)) old (redo_all rs s old)
found_ok rs s old =
    by_test (λ x. ToldOk x old (redo_all rs s old)) (Wanted (redo_all rs s old)) InPlace (nat_lt (version_of old) (version_of (redo_all rs s old)))
    (λ e. (refl, let m : (version_of old) < (version_of (redo_all rs s old)) = grind (arith, nat_tests) in m))
    (λ e. ⊎_elim (λ i. i) (λ i. let u : (version_of old) < (version_of (redo_all rs s old)) = i.0 in let m : (version_of (redo_all rs s old)) ≤ (version_of old) = grind (arith, nat_tests) in absurd (omega arith)) (redo_named rs s old))

found_wanted : (old new block : Block) → block ≡ new → (version_of old) < (version_of new) → found old new ≡ Wanted block
found_wanted old new block e l = rw (lt-ltb (version_of old) (version_of new) l) (ap Wanted (sym e))

pub logged_look : (w : World) (r : Rescue) (s : ℕ) → w.rescue ≡ Some r → Logged w → Logged (after w (Look r s))
logged_look w r s going g =
    let k : RescueOk w r = g.rescued r going in
    let new : Rescue = record { dead = r.dead; by = r.by; told = put r.told s (found (w.disk s) (redo_all (to_replay w r.dead) s (w.disk s))) } in
    let flights : (s' : ℕ) (f' : Flight) → (after w (Look r s)).flight s' ≡ Some f' → (after w (Look r s)).now ≤ f'.stamp → FlightOk (after w (Look r s)) s' f' = λ t f e n. let q : FlightOk w t f = g.flights t f e n in
    record {
      place = q.place;
      higher = q.higher;
      lease = q.lease;
      sole = q.sole;
      named = q.named;
      source = ⊎_elim (λ o. inl o)
          (λ o. inr (record {
            taker = o.taker;
            dead = o.dead;
            until = o.until;
            rescuer = λ x i j. let same : new ≡ x = same_Some new x i in sym (ap (λ y. y.by) same) ∙ o.rescuer r going (ap (λ y. y.dead) same ∙ j);
            told = λ x i j. let same : new ≡ x = same_Some new x i in
                let old : r.told t ≡ Wanted f.block = o.told r going (ap (λ y. y.dead) same ∙ j) in
                subst (λ y. y.told t ≡ Wanted f.block) same
                (at_put (λ y. y ≡ Wanted f.block) r.told s (found (w.disk s) (redo_all (to_replay w r.dead) s (w.disk s))) t
                (λ m. let z : ToldOk (Wanted f.block) (w.disk t) (redo_all (to_replay w r.dead) t (w.disk t)) = subst (λ y. ToldOk y (w.disk t) (redo_all (to_replay w r.dead) t (w.disk t))) old (k.told t) in
                subst (λ y. found (w.disk y) (redo_all (to_replay w r.dead) y (w.disk y)) ≡ Wanted f.block) m (found_wanted (w.disk t) (redo_all (to_replay w r.dead) t (w.disk t)) f.block z.0 z.1))
                (λ m. old));
          }))
          q.source;
    } in
    let rescued : (r' : Rescue) → (after w (Look r s)).rescue ≡ Some r' → RescueOk (after w (Look r s)) r' = λ x e. subst (λ y. RescueOk (after w (Look r s)) y) (same_Some new x e)
    (record {
      dead = k.dead;
      ended = k.ended;
      alive = k.alive;
      taker = k.taker;
      until = k.until;
      told = λ t. at_put (λ y. ToldOk y (w.disk t) (redo_all (to_replay w r.dead) t (w.disk t))) r.told s (found (w.disk s) (redo_all (to_replay w r.dead) s (w.disk s))) t
          (λ m. subst (λ y. ToldOk (found (w.disk y) (redo_all (to_replay w r.dead) y (w.disk y))) (w.disk t) (redo_all (to_replay w r.dead) t (w.disk t))) m (found_ok (to_replay w r.dead) t (w.disk t)))
          (λ m. k.told t);
    }) in
    search

pub sole_or_not : (m : Option Mode) → (m ≡ Some Sole) ⊎ (m ≡ Some Sole → ⊥)
sole_or_not None = inr (λ e. cc)
sole_or_not (Some Shared) = inr (λ e. cc)
sole_or_not (Some Sole) = inl refl

module _ (w : World) (r : Rescue) (s : ℕ) (block : Block) (can : CanReplay w r s block) (g : Logged w) where
  k : RescueOk w r
  k = g.rescued r can.going

  redo_block : ToldOk (Wanted block) (w.disk s) (redo_all (to_replay w r.dead) s (w.disk s))
  redo_block = subst (λ x. ToldOk x (w.disk s) (redo_all (to_replay w r.dead) s (w.disk s))) can.wanted (k.told s)

  redo_sole : w.holds r.dead (cover w s) ≡ Some Sole
  redo_sole = ⊎_elim (λ e. e)
      (λ n. let same : redo_all (to_replay w r.dead) s (w.disk s) ≡ w.disk s = other_replay w g r.dead s (w.disk s) n (g.place s) in
      let u : (version_of (w.disk s)) < (version_of (redo_all (to_replay w r.dead) s (w.disk s))) = redo_block.1 in
      let v : (version_of (redo_all (to_replay w r.dead) s (w.disk s))) ≡ (version_of (w.disk s)) = ap (λ x. (version_of x)) same in absurd (omega arith))
      (sole_or_not (w.holds r.dead (cover w s)))

  redo_flight : FlightOk (after w (Replay r s block)) s (record { by = r.by; behalf = r.dead; stamp = w.expiry r.by - 15; block = block })
  redo_flight = record {
    place = subst (λ x. OnDisk w.opening w.durable s (Pending w s) x (settled w.history)) (sym redo_block.0)
        (subst (λ l. OnDisk w.opening w.durable s (Pending w s) (redo_all (up_to (w.durable r.dead) l) s (w.disk s)) (settled w.history)) (sym (g.logs r.dead))
        (replay_place w.opening w.durable s r.dead (w.floor r.dead) (Pending w s) (w.disk s)
        (λ c p. let e : c.by ≡ r.dead = g.apart c.by r.dead (cover w s) p.sole (sole_held (w.holds r.dead (cover w s)) redo_sole) in (e, subst (λ x. w.floor x < c.op) e p.above))
        (settled w.history) g.ops (g.rising s) (g.place s)));
    higher = subst (λ x. (version_of (w.disk s)) < (version_of x)) (sym redo_block.0) redo_block.1;
    lease = omega arith;
    sole = redo_sole;
    named = subst (λ x. Named (to_replay w r.dead) s (version_of x)) (sym redo_block.0)
        (⊎_elim (λ same. let u : (version_of (w.disk s)) < (version_of (redo_all (to_replay w r.dead) s (w.disk s))) = redo_block.1 in
        let v : (version_of (redo_all (to_replay w r.dead) s (w.disk s))) ≡ (version_of (w.disk s)) = ap (λ x. (version_of x)) same in absurd (omega arith))
        (λ m. m.1) (redo_named (to_replay w r.dead) s (w.disk s)));
    source = inr (record {
      taker = k.taker;
      dead = k.dead;
      until = (let u : w.until r.dead ≡ w.expiry r.by = k.until in omega arith);
      rescuer = λ x i j. ap (λ y. y.by) (same_Some x r (sym i ∙ can.going));
      told = λ x i j. ap (λ y. y.told s) (same_Some x r (sym i ∙ can.going)) ∙ can.wanted;
    });
  }

  pub logged_replay : Logged (after w (Replay r s block))
  logged_replay = let flights : (s' : ℕ) (f' : Flight) → (after w (Replay r s block)).flight s' ≡ Some f' → (after w (Replay r s block)).now ≤ f'.stamp → FlightOk (after w (Replay r s block)) s' f' = at_flight w (after w (Replay r s block)) s (record { by = r.by; behalf = r.dead; stamp = w.expiry r.by - 15; block = block }) redo_flight g.flights in
      search
