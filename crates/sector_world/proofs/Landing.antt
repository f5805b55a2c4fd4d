-- A write comes to the disk in time.
use Rattle.std.proofs.Common.{true, false, if◌then◌else◌, ⊎_elim, le_refl, ℕ, ◌<◌, ◌≤◌, ◌≡◌, ◌≢◌, ◌⊎◌, inl, inr, Option, Some, None, nat_eq, refl, sym, ◌∙◌, ap, subst, arith}
use Rattle.frang_base.specs.declared.lock.Mode.{Mode}
use Rattle.frang_base.specs.declared.lock.Mode.TheVariants.{Sole}
use Rattle.sector_bytes.specs.Blocks.{Block, version_of}
use Rattle.std.specs.Str.{bytes_eq}
use Rattle.std.proofs.lemmas.Option.{same_Some}
use Rattle.std.proofs.lemmas.Bool.{eqb-false, eqb-true}
use Rattle.sector_bytes.specs.Replays.{change_at, redo_all, up_to}
use Rattle.frang_base.specs.Functions.{put}
use Rattle.sector_world.specs.Histories.{settled}
use Rattle.sector_world.specs.OnDisk.{OnDisk}
use Rattle.sector_world.specs.OnDisk.OnDisk.{in_place}
use Rattle.frang_base.proofs.Basics.{by_test, at_put, put_same, put_other, at_put2}
use Rattle.sector_bytes.proofs.SameBytes.{same_bytes_is, same_bytes_refl}
use Rattle.sector_world.proofs.HistoryLaws.{AtMost, each_map, all_skipped, on_disk_map, in_place_or}
use Rattle.sector_world.proofs.More.{all_settled, redo_twice}
use Rattle.sector_world.specs.World.{World, Phase, Slot, Flight, Told, Rescue, cover}
use Rattle.sector_world.specs.World.Phase.{Off, Up, Dead}
use Rattle.sector_world.specs.World.Slot.{Absent, Clean, Dirty}
use Rattle.sector_world.specs.World.Told.{Unread, Wanted, InPlace}
use Rattle.sector_world.specs.Guards.{to_replay, CanLand}
use Rattle.sector_world.specs.Steps.{after, landed, rescue_landed}
use Rattle.sector_world.specs.Steps.Event.{Land}
use Rattle.sector_world.specs.Logged.{now_of, IsCopy, Logged, IsNewer, Covers, Pending, HeldIf, IsAhead, AbsentUnlessUp, Agrees, FlightOk, ToldOk, RescueOk}
use Rattle.sector_world.proofs.Reaching.{sole_held}

landed_not_up : (p : Phase) (f : Block) (x : Slot) → AbsentUnlessUp p x → AbsentUnlessUp p (landed f x)
landed_not_up Off f x a = subst (λ y. landed f y ≡ Absent) (sym a) refl
landed_not_up Up f x a = tt
landed_not_up Dead f x a = subst (λ y. landed f y ≡ Absent) (sym a) refl

-- the slot stays, or it had what came
landed_or : (f : Block) (x : Slot) → (landed f x ≡ x) ⊎ ((mark : ℕ) × (x ≡ Dirty f mark) × (landed f x ≡ Clean f))
landed_or f Absent = inl refl
landed_or f (Clean z) = inl refl
landed_or f (Dirty z m) =
    by_test (λ y. (y ≡ Dirty z m) ⊎ ((mark : ℕ) × (Dirty z m ≡ Dirty f mark) × (y ≡ Clean f))) (Clean z) (Dirty z m) (bytes_eq z f)
    (λ e. let q : z ≡ f = same_bytes_is z f e in inr (m, ap (λ x. Dirty x m) q, ap Clean q)) (λ e. inl refl)

-- a slot that stays is not what came: it has a newer block
landed_newer : (p : Phase) (f : Block) (x : Slot) → AbsentUnlessUp p x → (p ≡ Up → Agrees p x f) → IsNewer f (landed f x)
landed_newer p f Absent n g = tt
landed_newer p f (Clean z) n g = tt
landed_newer Off f (Dirty z m) n g = cc
landed_newer Dead f (Dirty z m) n g = cc
landed_newer Up f (Dirty z m) n g =
    by_test (λ y. IsNewer f y) (Clean z) (Dirty z m) (bytes_eq z f) (λ e. tt)
    (λ e. ⊎_elim (λ q. let r : bytes_eq z f ≡ true = subst (λ x. bytes_eq z x ≡ true) q (same_bytes_refl z) in absurd (cc)) (λ q. q) (g refl))

pub newer_free : (x : Slot) (mode : Option Mode) (new : Block) → HeldIf x mode → (mode ≡ Some Sole → ⊥) → IsNewer new x
newer_free Absent mode new i n = tt
newer_free (Clean z) mode new i n = tt
newer_free (Dirty z mark) mode new i n = absurd (n i)

-- the recovery before a write came, and what it has found
pub rescue_before : (d s : ℕ) (o : Option Rescue) (r : Rescue) → rescue_landed d s o ≡ Some r
    → (q : Rescue) × (o ≡ Some q) × (r.dead ≡ q.dead) × (r.by ≡ q.by) × ((t : ℕ) → (q.dead ≡ d → t ≢ s) → r.told t ≡ q.told t) × (q.dead ≡ d → r.told s ≡ InPlace)
rescue_before d s None r e = absurd (cc)
rescue_before d s (Some q) r e =
    let new : ℕ → Told = if nat_eq q.dead d then put q.told s InPlace else q.told in
    let same : record { dead = q.dead; by = q.by; told = new } ≡ r = same_Some (record { dead = q.dead; by = q.by; told = new }) r e in
    let told : new ≡ r.told = ap (λ x. x.told) same in (
      q,
      refl,
      sym (ap (λ x. x.dead) same),
      sym (ap (λ x. x.by) same),
      (λ t n. sym (ap (λ x. x t) told) ∙ by_test (λ x. x t ≡ q.told t) (put q.told s InPlace) q.told (nat_eq q.dead d) (λ i. put_other q.told s InPlace t (n (eqb-true q.dead d i))) (λ i. refl)),
      (λ i. sym (ap (λ x. x s) told) ∙ by_test (λ x. x s ≡ InPlace) (put q.told s InPlace) q.told (nat_eq q.dead d) (λ j. put_same q.told s InPlace) (λ j. absurd (eqb-false q.dead d j i))),
    )

-- at a sector that d doesn't hold alone, a replay of d's log leaves a block that has its place in the history
pub other_replay : (w : World) → Logged w → (d s : ℕ) (block : Block) → (w.holds d (cover w s) ≡ Some Sole → ⊥)
    → OnDisk w.opening w.durable s (Pending w s) block (settled w.history) → redo_all (to_replay w d) s block ≡ block
other_replay w g d s block n o =
    ap (λ l. redo_all (up_to (w.durable d) l) s block) (g.logs d)
    ∙ all_skipped d (w.floor d) (w.durable d) s block (settled w.history)
    (each_map (λ c. Pending w s c ⊎ AtMost (change_at c.changes s) (version_of block)) (λ c. c.by ≡ d → AtMost (change_at c.changes s) (version_of block))
    (λ c m e. ⊎_elim (λ p. absurd (n (ap (λ x. w.holds x (cover w s)) (sym e) ∙ p.sole))) (λ a. a) m)
    (settled w.history) (in_place_or w.opening w.durable s (Pending w s) block (settled w.history) o (g.rising s)))

pub told_other : (t : Told) (old new : Block) (new' : Block) → new ≡ old → ToldOk t old new → ToldOk t new' new'
told_other Unread old new new' e k = tt
told_other (Wanted z) old new new' e k = let u : (version_of old) < (version_of new) = k.1 in let v : (version_of new) ≡ (version_of old) = ap version_of e in absurd (omega arith)
told_other InPlace old new new' e k = refl

module _ (w : World) (s : ℕ) (f : Flight) (can : CanLand w s f) (g : Logged w) where
  ok : FlightOk w s f
  ok = g.flights s f can.there can.early

  by_up : w.phase f.behalf ≡ Up → Agrees (w.phase f.behalf) (w.slot f.behalf s) f.block
  by_up u = ⊎_elim
      (λ o. subst (λ x. Agrees (w.phase x) (w.slot x s) f.block) o.same o.agrees)
      (λ o. let v = o.dead in absurd (cc)) ok.source

  -- the slot stays, or it had what came
  or : (landed f.block (w.slot f.behalf s) ≡ w.slot f.behalf s) ⊎ ((mark : ℕ) × (w.slot f.behalf s ≡ Dirty f.block mark) × (landed f.block (w.slot f.behalf s) ≡ Clean f.block))
  or = landed_or f.block (w.slot f.behalf s)

  -- a fact of a slot after the write: as before, or of the clean one
  at_slot : (P : Slot → Type 0) (b t : ℕ) → P (w.slot b t) → (b ≡ f.behalf → t ≡ s → (mark : ℕ) → w.slot f.behalf s ≡ Dirty f.block mark → P (Clean f.block)) → P ((after w (Land s f)).slot b t)
  at_slot P b t old new = at_put2 P w.slot f.behalf s (landed f.block (w.slot f.behalf s)) b t
      (λ e i. ⊎_elim (λ q. subst P (sym (q ∙ ap (λ x. w.slot x s) (sym e) ∙ ap (w.slot b) (sym i))) old) (λ q. subst P (sym q.2) (new e i q.0 q.1)) or)
      (λ n. old)

  now : (mark : ℕ) → w.slot f.behalf s ≡ Dirty f.block mark → f.block ≡ now_of w s
  now mark e = subst (λ x. IsCopy x (now_of w s)) e (g.copies f.behalf s)

  land_newer : (b t : ℕ) → w.sick b ≡ false → IsNewer (put w.disk s f.block t) ((after w (Land s f)).slot b t)
  land_newer b t k =
      at_put2 (λ x. IsNewer (put w.disk s f.block t) x) w.slot f.behalf s (landed f.block (w.slot f.behalf s)) b t
      (λ e i. subst (λ y. IsNewer y (landed f.block (w.slot f.behalf s))) (sym (ap (put w.disk s f.block) i ∙ put_same w.disk s f.block))
      (landed_newer (w.phase f.behalf) f.block (w.slot f.behalf s) (g.not_up f.behalf s) by_up))
      (λ n. at_put (λ x. IsNewer x (w.slot b t)) w.disk s f.block t
      (λ i. newer_free (w.slot b t) (w.holds b (cover w t)) f.block (g.held b t)
      (λ m. n (sym (g.apart f.behalf b (cover w s) ok.sole (sole_held (w.holds b (cover w s)) (ap (λ x. w.holds b (cover w x)) (sym i) ∙ m)))) i))
      (λ i. g.newer b t k))

  -- at another sector nothing changes
  land_other : (t : ℕ) (block : Block) → t ≢ s → OnDisk w.opening w.durable t (Pending w t) block (settled w.history) → OnDisk w.opening w.durable t (Pending (after w (Land s f)) t) block (settled w.history)
  land_other t block n o =
      on_disk_map w.opening w.durable w.durable t (Pending w t) (Pending (after w (Land s f)) t) block (λ d. le_refl (w.durable d))
      (λ c i p. record { sole = p.sole; above = p.above; covered = at_slot (λ x. Covers (w.phase c.by) x c.op) c.by t p.covered (λ e j. absurd (n j)) })
      (settled w.history) o

  land_here : OnDisk w.opening w.durable s (Pending (after w (Land s f)) s) f.block (settled w.history)
  land_here =
      ⊎_elim
      (λ same. on_disk_map w.opening w.durable w.durable s (Pending w s) (Pending (after w (Land s f)) s) f.block (λ d. le_refl (w.durable d))
      (λ c i p. record {
        sole = p.sole;
        above = p.above;
        covered = at_put2 (λ x. Covers (w.phase c.by) x c.op) w.slot f.behalf s (landed f.block (w.slot f.behalf s)) c.by s
            (λ e j. subst (λ x. Covers (w.phase c.by) x c.op) (ap (λ y. w.slot y s) e ∙ sym same) p.covered) (λ j. p.covered);
      })
      (settled w.history) ok.place)
      (λ dirty. let is : f.block ≡ now_of w s = now dirty.0 dirty.1 in
      in_place is (all_settled w.opening w.durable s (Pending w s) f.block (settled w.history) (g.rising s) is ok.place))
      or

  land_place : (t : ℕ) → OnDisk w.opening w.durable t (Pending (after w (Land s f)) t) (put w.disk s f.block t) (settled w.history)
  land_place t =
      at_put (λ x. OnDisk w.opening w.durable t (Pending (after w (Land s f)) t) x (settled w.history)) w.disk s f.block t
      (λ e. subst (λ x. OnDisk w.opening w.durable x (Pending (after w (Land s f)) x) f.block (settled w.history)) (sym e) land_here)
      (λ n. land_other t (w.disk t) n (g.place t))

  land_flight : (t : ℕ) (h : Flight) → t ≢ s → w.flight t ≡ Some h → w.now ≤ h.stamp → FlightOk (after w (Land s f)) t h
  land_flight t h n e l =
      let q : FlightOk w t h = g.flights t h e l in
      record {
        place = land_other t h.block n q.place;
        higher = subst (λ x. (version_of x) < (version_of h.block)) (sym (put_other w.disk s f.block t n)) q.higher;
        lease = q.lease;
        sole = q.sole;
        named = q.named;
        source = ⊎_elim
            (λ o. inl (record { same = o.same; agrees = at_slot (λ x. Agrees (w.phase h.by) x h.block) h.by t o.agrees (λ i j. absurd (n j)) }))
            (λ o. inr (record {
              taker = o.taker;
              dead = o.dead;
              until = o.until;
              told = λ r i j. let b = rescue_before f.behalf s w.rescue r i in b.4 t (λ k. n) ∙ o.told b.0 b.1 (sym b.2 ∙ j);
              rescuer = λ r i j. let b = rescue_before f.behalf s w.rescue r i in b.3 ∙ o.rescuer b.0 b.1 (sym b.2 ∙ j);
            }))
            q.source;
      }

  -- what a recovery has found of the sector, after the write
  land_told : (r q : Rescue) → w.rescue ≡ Some q → r.dead ≡ q.dead → (q.dead ≡ f.behalf → r.told s ≡ InPlace) → ((q.dead ≡ f.behalf → ⊥) → r.told s ≡ q.told s)
      → ToldOk (r.told s) f.block (redo_all (to_replay w q.dead) s f.block)
  land_told r q e d same other =
      let k : RescueOk w q = g.rescued q e in
      ⊎_elim
      (λ i. let j : w.holds q.dead (cover w s) ≡ Some Sole → ⊥ = λ m. i (g.apart q.dead f.behalf (cover w s) m (sole_held (w.holds f.behalf (cover w s)) ok.sole)) in
      let new : redo_all (to_replay w q.dead) s f.block ≡ f.block = other_replay w g q.dead s f.block j ok.place in
      let old : redo_all (to_replay w q.dead) s (w.disk s) ≡ w.disk s = other_replay w g q.dead s (w.disk s) j (g.place s) in
      subst (λ x. ToldOk x f.block (redo_all (to_replay w q.dead) s f.block)) (sym (other i))
      (subst (λ x. ToldOk (q.told s) f.block x) (sym new) (told_other (q.told s) (w.disk s) (redo_all (to_replay w q.dead) s (w.disk s)) f.block old (k.told s))))
      (λ i. subst (λ x. ToldOk x f.block (redo_all (to_replay w q.dead) s f.block)) (sym (same i))
      (⊎_elim
      (λ o. let u : f.stamp ≤ w.expiry f.by = ok.lease in let v : w.expiry q.dead < w.now = k.ended in let z : w.expiry f.by ≡ w.expiry q.dead = ap w.expiry (o.same ∙ sym i) in
      let y : w.now ≤ f.stamp = can.early in absurd (omega arith))
      (λ o. let t : ToldOk (Wanted f.block) (w.disk s) (redo_all (to_replay w q.dead) s (w.disk s)) = subst (λ x. ToldOk x (w.disk s) (redo_all (to_replay w q.dead) s (w.disk s))) (o.told q e i) (k.told s) in
      ap (λ x. redo_all (to_replay w q.dead) s x) t.0 ∙ redo_twice (to_replay w q.dead) s (w.disk s) ∙ sym t.0)
      ok.source))
      (or_equal_or q.dead f.behalf)
    where
      or_equal_or : (a b : ℕ) → (a ≡ b → ⊥) ⊎ (a ≡ b)
      or_equal_or a b = grind arith

  land_rescue : (r : Rescue) → rescue_landed f.behalf s w.rescue ≡ Some r → RescueOk (after w (Land s f)) r
  land_rescue r e =
      let b = rescue_before f.behalf s w.rescue r e in
      let q : RescueOk w b.0 = g.rescued b.0 b.1 in
      record {
        dead = ap w.phase b.2 ∙ q.dead;
        taker = ap w.taker b.2 ∙ q.taker ∙ ap Some (sym b.3);
        ended = subst (λ x. w.expiry x < w.now) (sym b.2) q.ended;
        alive = λ e. q.alive (sym (ap w.phase b.3) ∙ e);
        until = ap w.until b.2 ∙ q.until ∙ ap w.expiry (sym b.3);
        told = λ t.
            subst (λ x. ToldOk (r.told t) (put w.disk s f.block t) (redo_all (to_replay w x) t (put w.disk s f.block t))) (sym b.2)
            (at_put (λ x. ToldOk (r.told t) x (redo_all (to_replay w b.0.dead) t x)) w.disk s f.block t
            (λ i. subst (λ x. ToldOk (r.told x) f.block (redo_all (to_replay w b.0.dead) x f.block)) (sym i)
            (land_told r b.0 b.1 b.2 b.5 (λ j. b.4 s (λ k. absurd (j k)))))
            (λ n. subst (λ x. ToldOk x (w.disk t) (redo_all (to_replay w b.0.dead) t (w.disk t))) (sym (b.4 t (λ k. n))) (q.told t)));
      }

  pub logged_land : Logged (after w (Land s f))
  logged_land = let not_up : (a' s' : ℕ) → AbsentUnlessUp ((after w (Land s f)).phase a') ((after w (Land s f)).slot a' s') = λ b t. at_put2 (λ x. AbsentUnlessUp (w.phase b) x) w.slot f.behalf s (landed f.block (w.slot f.behalf s)) b t
      (λ e i. subst (λ y. AbsentUnlessUp (w.phase y) (landed f.block (w.slot f.behalf s))) (sym e) (landed_not_up (w.phase f.behalf) f.block (w.slot f.behalf s) (g.not_up f.behalf s))) (λ n. g.not_up b t) in
      let held : (a' s' : ℕ) → HeldIf ((after w (Land s f)).slot a' s') ((after w (Land s f)).holds a' (cover (after w (Land s f)) s')) = λ b t. at_slot (λ x. HeldIf x (w.holds b (cover w t))) b t (g.held b t)
      (λ e i mark q m. let z : w.holds b (cover w t) ≡ Some Sole = ap (λ x. w.holds x (cover w t)) e ∙ ap (λ x. w.holds f.behalf (cover w x)) i ∙ ok.sole in cc) in
      let copies : (a' s' : ℕ) → IsCopy ((after w (Land s f)).slot a' s') (now_of (after w (Land s f)) s') = λ b t. at_slot (λ x. IsCopy x (now_of w t)) b t (g.copies b t) (λ e i mark q. now mark q ∙ ap (now_of w) (sym i)) in
      let ahead : (a' s' : ℕ) → IsAhead ((after w (Land s f)).last a') s' a' (settled (after w (Land s f)).history) ((after w (Land s f)).slot a' s') = λ b t. at_slot (λ x. IsAhead (w.last b) t b (settled w.history) x) b t (g.ahead b t) (λ e i mark q. tt) in
      let newer : (a' s' : ℕ) → (after w (Land s f)).sick a' ≡ false → IsNewer ((after w (Land s f)).disk s') ((after w (Land s f)).slot a' s') = land_newer in
      let place : (s' : ℕ) → OnDisk (after w (Land s f)).opening (after w (Land s f)).durable s' (Pending (after w (Land s f)) s') ((after w (Land s f)).disk s') (settled (after w (Land s f)).history) = land_place in
      let flights : (s' : ℕ) (f' : Flight) → (after w (Land s f)).flight s' ≡ Some f' → (after w (Land s f)).now ≤ f'.stamp → FlightOk (after w (Land s f)) s' f' = λ t h. at_put (λ x. x ≡ Some h → w.now ≤ h.stamp → FlightOk (after w (Land s f)) t h) w.flight s None t (λ e i n. absurd (cc)) (λ n i l. land_flight t h n i l) in
      let rescued : (r' : Rescue) → (after w (Land s f)).rescue ≡ Some r' → RescueOk (after w (Land s f)) r' = land_rescue in
      search
