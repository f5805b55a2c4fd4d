-- A recovery ends: the dead server's locks are given back, and what was not durable is gone for good.
use Rattle.std.proofs.Common.{true, List, [], ◌∷◌, IsTrue, ⊎_elim, le_refl, le_of_eq, ℕ, ◌<◌, ◌≤◌, ◌≡◌, ◌+◌, ◌≢◌, inl, inr, Option, Some, None, nat_eq, refl, sym, ◌∙◌, ap, subst, arith}
use Rattle.std.proofs.lemmas.Bool.{cases_eq, leb-true, eqb-true}
use Rattle.frang_base.specs.declared.lock.LockId.{LockId}
use Rattle.frang_base.specs.declared.lock.Mode.{Mode}
use Rattle.frang_base.specs.declared.lock.Mode.TheVariants.{Sole}
use Rattle.sector_bytes.specs.Blocks.{Block, version_of}
use Rattle.frang_base.specs.declared.change.Redo.{Redo}
use Rattle.sector_bytes.specs.Replays.{redo_all, up_to}
use Rattle.frang_base.specs.Locks.{has_lock}
use Rattle.frang_base.specs.Functions.{put}
use Rattle.sector_world.specs.Histories.{Commit, Item, kept, survives, settled, logical, own, Each, Changes, Moves, Named, IsLast}
use Rattle.sector_world.specs.OnDisk.{AllDurable, OnDisk}
use Rattle.sector_world.specs.OnDisk.OnDisk.{in_place, passed}
use Rattle.sector_world.specs.Seen.{Alters}
use Rattle.frang_base.proofs.Basics.{by_test, le_or_lt, at_put, put_other}
use Rattle.sector_world.proofs.HistoryLaws.{each_map, rising_kept, kept_logical, replayed_is, on_disk_map, on_disk_kept}
use Rattle.sector_world.proofs.Removals.{survives_own, survives_low, ops_kept, own_none, own_kept, all_durable_kept, last_kept}
use Rattle.sector_world.proofs.Seen.{unseen_kept, unmet_kept, cover_kept, each_kept_with}
use Rattle.sector_world.specs.World.{World, Phase, Slot, Flight, Rescue, cover}
use Rattle.sector_world.specs.World.Phase.{Off, Up, Dead}
use Rattle.sector_world.specs.World.Slot.{Absent, Clean, Dirty}
use Rattle.sector_world.specs.World.Told.{Wanted}
use Rattle.sector_world.specs.Guards.{NoneNames, to_replay, CanFinish}
use Rattle.sector_world.specs.Steps.{after, dropped, held_until}
use Rattle.sector_world.specs.Steps.Event.{Finish}
use Rattle.sector_world.specs.Logged.{now_of, IsCopy, Logged, Covers, Pending, HeldIf, IsAhead, NoneIfOff, AbsentUnlessUp, Agrees, FlightOk, ToldOk, RescueOk}
use Rattle.sector_world.proofs.Reaching.{sole_held}
use Rattle.sector_world.proofs.Recovering.{sole_or_not}

held_mode : (x : Slot) (m : Option Mode) → HeldIf x m → x ≢ Absent → m ≢ None
held_mode Absent m h n = absurd (n refl)
held_mode (Clean z) m h n = h
held_mode (Dirty z mark) m h n = λ e. cc

by_slot_case : (P : Slot → Type 0) (x : Slot) → P Absent → (x ≢ Absent → P x) → P x
by_slot_case P Absent a f = a
by_slot_case P (Clean z) a f = f (λ e. cc)
by_slot_case P (Dirty z mark) a f = f (λ e. cc)

ahead_by : (x : Slot) (last s a : ℕ) (h h' : List Item) → ((m : ℕ) → IsLast s a m h → IsLast s a m h') → IsAhead last s a h x → IsAhead last s a h' x
ahead_by Absent last s a h h' l i = tt
ahead_by (Clean z) last s a h h' l i = tt
ahead_by (Dirty z mark) last s a h h' l i = (i.0, l mark i.1)

copy_by : (x : Slot) (old new : Block) → new ≡ old → IsCopy x old → IsCopy x new
copy_by x old new e i = subst (λ y. IsCopy x y) (sym e) i

dead_absent : (p : Phase) (x : Slot) → p ≡ Dead → AbsentUnlessUp p x → x ≡ Absent
dead_absent Off x e a = a
dead_absent Up x e a = absurd (cc)
dead_absent Dead x e a = a

pub none_replay : (rs : List Redo) (s : ℕ) (block : Block) → NoneNames rs s → redo_all rs s block ≡ block
none_replay [] s block n = refl
none_replay (r ∷ rs) s block n = rw (n.0, none_replay rs s block n.1)

none_named : (rs : List Redo) (s v : ℕ) → NoneNames rs s → Named rs s v → ⊥
none_named [] s v n m = m
none_named (r ∷ rs) s v n m = ⊎_elim (λ x. let a = n.0 in let b = x.1 in cc) (λ x. none_named rs s v n.1 x) m

abbrev pub rest : World → ℕ → List Item
rest w d = kept (survives d (w.durable d)) (settled w.history)

-- the holds on other logs that the dead server had go with its locks
dropped_is : (a : ℕ) (o : Option ℕ) (b : ℕ) → dropped a o ≡ Some b → o ≡ Some b
dropped_is a None b e = absurd (cc)
dropped_is a (Some c) b e = by_test (λ x. x ≡ Some b → Some c ≡ Some b) None (Some c) (nat_eq c a) (λ i j. absurd (cc)) (λ i j. j) e

dropped_other : (a : ℕ) (o : Option ℕ) (b : ℕ) → o ≡ Some b → b ≢ a → dropped a o ≡ Some b
dropped_other a o b e n = subst (λ x. dropped a x ≡ Some b) (sym e) (by_test (λ x. x ≡ Some b) None (Some b) (nat_eq b a) (λ i. absurd (n (eqb-true b a i))) (λ i. refl))

until_most : (o : Option ℕ) (m n : ℕ) → m ≤ n → held_until o m ≤ n
until_most None m n le = omega arith
until_most (Some b) m n le = le

until_held : (o : Option ℕ) (b m : ℕ) → o ≡ Some b → held_until o m ≡ m
until_held None b m e = absurd (cc)
until_held (Some c) b m e = refl

module _ (w : World) (r : Rescue) (can : CanFinish w r) (g : Logged w) where
  pub k : RescueOk w r
  k = g.rescued r can.going

  -- each sector has what a replay of the log makes of it
  disk_is : (s : ℕ) → redo_all (to_replay w r.dead) s (w.disk s) ≡ w.disk s
  disk_is s = ⊎_elim (λ e. subst (λ x. ToldOk x (w.disk s) (redo_all (to_replay w r.dead) s (w.disk s))) e (k.told s)) (λ n. none_replay (to_replay w r.dead) s (w.disk s) n) (can.all s)

  -- what a recovery removes altered only sectors that the dead server holds alone
  pub lost_sole : (s : ℕ) → (w.holds r.dead (cover w s) ≡ Some Sole → ⊥) → Each (λ c. Alters s c → survives r.dead (w.durable r.dead) c ≡ true) (settled w.history)
  lost_sole s n =
      each_map (λ c. Alters s c → w.durable c.by < c.op → w.holds c.by (cover w s) ≡ Some Sole) (λ c. Alters s c → survives r.dead (w.durable r.dead) c ≡ true)
      (λ c m i. survives_low r.dead (w.durable r.dead) c (λ e.
      ⊎_elim (λ l. l) (λ l. let q : w.durable c.by ≡ w.durable r.dead = ap w.durable e in absurd (n (ap (λ x. w.holds x (cover w s)) (sym e) ∙ m i (omega arith)))) (le_or_lt c.op (w.durable r.dead))))
      (settled w.history) (g.firm s)

  other_stays : (s : ℕ) → (w.holds r.dead (cover w s) ≡ Some Sole → ⊥) → Each (λ c. Changes s c → survives r.dead (w.durable r.dead) c ≡ true) (settled w.history)
  other_stays s n = each_map (λ c. Alters s c → survives r.dead (w.durable r.dead) c ≡ true) (λ c. Changes s c → survives r.dead (w.durable r.dead) c ≡ true) (λ c m i. m (inl i)) (settled w.history) (lost_sole s n)

  pub other_now : (s : ℕ) → (w.holds r.dead (cover w s) ≡ Some Sole → ⊥) → logical w.opening (rest w r.dead) s ≡ now_of w s
  other_now s n = kept_logical w.opening s (survives r.dead (w.durable r.dead)) (settled w.history) (other_stays s n)

  pub other_cover : (s : ℕ) → (w.holds r.dead (cover w s) ≡ Some Sole → ⊥) → cover (after w (Finish r)) s ≡ cover w s
  other_cover s n = cover_kept w.home s (survives r.dead (w.durable r.dead)) (settled w.history)
      (each_map (λ c. Alters s c → survives r.dead (w.durable r.dead) c ≡ true) (λ c. Moves s c → survives r.dead (w.durable r.dead) c ≡ true) (λ c m i. m (inr (inl i))) (settled w.history) (lost_sole s n))

  -- another server's lock stays, and covers what it covered
  pub not_dead : (b s : ℕ) → b ≢ r.dead → w.holds b (cover w s) ≢ None → w.holds r.dead (cover w s) ≡ Some Sole → ⊥
  not_dead b s n f m = n (sym (g.apart r.dead b (cover w s) m f))

  pub other_holds : (b s : ℕ) → b ≢ r.dead → w.holds b (cover w s) ≢ None → (after w (Finish r)).holds b (cover (after w (Finish r)) s) ≡ w.holds b (cover w s)
  other_holds b s n f =
      ap (λ x. x (cover (after w (Finish r)) s)) (put_other w.holds r.dead (λ l. None) b n) ∙ ap (w.holds b) (other_cover s (not_dead b s n f))

  -- at a sector that the dead server holds alone, all that is pending is its own
  mine : (s : ℕ) → w.holds r.dead (cover w s) ≡ Some Sole → (c : Commit) → Pending w s c → c.by ≡ r.dead
  mine s e c p = g.apart c.by r.dead (cover w s) p.sole (sole_held (w.holds r.dead (cover w s)) e)

  mine_now : (s : ℕ) → w.holds r.dead (cover w s) ≡ Some Sole → w.disk s ≡ logical w.opening (rest w r.dead) s
  mine_now s e = sym (disk_is s) ∙ ap (λ l. redo_all (up_to (w.durable r.dead) l) s (w.disk s)) (g.logs r.dead)
      ∙ replayed_is w.opening w.durable s r.dead (w.floor r.dead) (Pending w s) (w.disk s) (survives r.dead (w.durable r.dead))
      (λ c p. let m : c.by ≡ r.dead = mine s e c p in (m, subst (λ x. w.floor x < c.op) m p.above))
      (λ c l. survives_low r.dead (w.durable r.dead) c (λ q. subst (λ x. c.op ≤ w.durable x) q l))
      (λ c q. survives_own r.dead (w.durable r.dead) c q)
      (settled w.history) (g.place s) (g.rising s)

  mine_durable : (s : ℕ) → w.holds r.dead (cover w s) ≡ Some Sole → AllDurable w.durable s (rest w r.dead)
  mine_durable s e = all_durable_kept w.opening w.durable s (Pending w s) (w.disk s) (survives r.dead (w.durable r.dead))
      (λ c p j. let m : c.by ≡ r.dead = mine s e c p in
      subst (λ x. c.op ≤ w.durable x) (sym m) (leb-true c.op (w.durable r.dead) (sym (survives_own r.dead (w.durable r.dead) c m) ∙ j)))
      (settled w.history) (g.place s)

  dead_slot : (b s : ℕ) → b ≡ r.dead → w.slot b s ≡ Absent
  dead_slot b s e = ap (λ x. w.slot x s) e ∙ dead_absent (w.phase r.dead) (w.slot r.dead s) k.dead (g.not_up r.dead s)

  slot_other : (b s : ℕ) → w.slot b s ≢ Absent → b ≢ r.dead
  slot_other b s n e = n (dead_slot b s e)

  slot_held : (b s : ℕ) → w.slot b s ≢ Absent → w.holds b (cover w s) ≢ None
  slot_held b s n = held_mode (w.slot b s) (w.holds b (cover w s)) (g.held b s) n

  -- what is left of the dead server's operations is durable
  kept_below : Each (λ c. (survives r.dead (w.durable r.dead) c ≡ true) × (c.op ≤ w.last c.by)) (rest w r.dead)
  kept_below = each_kept_with (λ c. c.op ≤ w.last c.by) (survives r.dead (w.durable r.dead)) (settled w.history) g.below

  low : Each (λ c. c.by ≡ r.dead → c.op ≤ w.durable r.dead) (rest w r.dead)
  low = each_map (λ c. (survives r.dead (w.durable r.dead) c ≡ true) × (c.op ≤ w.last c.by)) (λ c. c.by ≡ r.dead → c.op ≤ w.durable r.dead)
      (λ c m q. leb-true c.op (w.durable r.dead) (sym (survives_own r.dead (w.durable r.dead) c q) ∙ m.0)) (rest w r.dead) kept_below

  finish_logs : (e : ℕ) → put w.log r.dead [] e ≡ own e (put w.floor r.dead (w.durable r.dead) e) (rest w r.dead)
  finish_logs e =
      at_put (λ x. x ≡ own e (put w.floor r.dead (w.durable r.dead) e) (rest w r.dead)) w.log r.dead [] e
      (λ q. at_put (λ f. [] ≡ own e f (rest w r.dead)) w.floor r.dead (w.durable r.dead) e
      (λ i. sym (own_none e (w.durable r.dead) (rest w r.dead)
      (each_map (λ c. c.by ≡ r.dead → c.op ≤ w.durable r.dead) (λ c. c.by ≡ e → c.op ≤ w.durable r.dead) (λ c m x. m (x ∙ q)) (rest w r.dead) low)))
      (λ n. absurd (n q)))
      (λ n. at_put (λ f. w.log e ≡ own e f (rest w r.dead)) w.floor r.dead (w.durable r.dead) e
      (λ i. absurd (n i))
      (λ i. g.logs e ∙ sym (own_kept e r.dead (w.floor e) (w.durable r.dead) (settled w.history) n)))

  -- a block at a sector that the dead server doesn't hold alone keeps its place
  finish_goes : (s : ℕ) (block : Block) → (w.holds r.dead (cover w s) ≡ Some Sole → ⊥) → OnDisk w.opening w.durable s (Pending w s) block (settled w.history)
      → OnDisk w.opening w.durable s (Pending (after w (Finish r)) s) block (settled (after w (Finish r)).history)
  finish_goes s block n o =
      passed (on_disk_kept w.opening w.durable s (Pending (after w (Finish r)) s) block (survives r.dead (w.durable r.dead)) (settled w.history) (other_stays s n)
      (on_disk_map w.opening w.durable w.durable s (Pending w s) (Pending (after w (Finish r)) s) block (λ e. le_refl (w.durable e))
      (λ c i p. let m : c.by ≢ r.dead = λ q. n (ap (λ x. w.holds x (cover w s)) (sym q) ∙ p.sole) in
      record {
        sole = other_holds c.by s m (sole_held (w.holds c.by (cover w s)) p.sole) ∙ p.sole;
        above = at_put (λ f. f < c.op) w.floor r.dead (w.durable r.dead) c.by (λ q. absurd (m q)) (λ q. p.above);
        covered = at_put (λ x. Covers x (w.slot c.by s) c.op) w.phase r.dead Off c.by (λ q. absurd (m q)) (λ q. p.covered);
      })
      (settled w.history) o))

  finish_place : (s : ℕ) → OnDisk w.opening w.durable s (Pending (after w (Finish r)) s) (w.disk s) (settled (after w (Finish r)).history)
  finish_place s = ⊎_elim (λ e. passed (in_place (mine_now s e) (mine_durable s e))) (λ n. finish_goes s (w.disk s) n (g.place s)) (sole_or_not (w.holds r.dead (cover w s)))

  finish_firm : (s : ℕ) → Each (λ e. Alters s e → w.durable e.by < e.op → (after w (Finish r)).holds e.by (cover (after w (Finish r)) s) ≡ Some Sole) (rest w r.dead)
  finish_firm s =
      each_map (λ c. (survives r.dead (w.durable r.dead) c ≡ true) × (Alters s c → w.durable c.by < c.op → w.holds c.by (cover w s) ≡ Some Sole))
      (λ e. Alters s e → w.durable e.by < e.op → (after w (Finish r)).holds e.by (cover (after w (Finish r)) s) ≡ Some Sole)
      (λ e m i n. let h : w.holds e.by (cover w s) ≡ Some Sole = m.1 i n in
      ⊎_elim
      (λ q. let u : e.op ≤ w.durable r.dead = leb-true e.op (w.durable r.dead) (sym (survives_own r.dead (w.durable r.dead) e q) ∙ m.0) in
      let v : w.durable e.by ≡ w.durable r.dead = ap w.durable q in absurd (omega arith))
      (λ q. other_holds e.by s q (sole_held (w.holds e.by (cover w s)) h) ∙ h)
      (cases_eq e.by r.dead))
      (rest w r.dead)
      (each_kept_with (λ c. Alters s c → w.durable c.by < c.op → w.holds c.by (cover w s) ≡ Some Sole) (survives r.dead (w.durable r.dead)) (settled w.history) (g.firm s))

  finish_flight : (s : ℕ) (f : Flight) → w.flight s ≡ Some f → w.now ≤ f.stamp → FlightOk (after w (Finish r)) s f
  finish_flight s f e l =
      let q : FlightOk w s f = g.flights s f e l in
      let other : f.behalf ≢ r.dead = λ i.
      ⊎_elim
      (λ o. let u : f.stamp ≤ w.expiry f.by = q.lease in let v : w.expiry r.dead < w.now = k.ended in let z : w.expiry f.by ≡ w.expiry r.dead = ap w.expiry (o.same ∙ i) in absurd (omega arith))
      (λ o. let t : r.told s ≡ Wanted f.block = o.told r can.going (sym i) in
      ⊎_elim (λ m. cc) (λ m. none_named (to_replay w r.dead) s (version_of f.block) m (subst (λ x. Named (to_replay w x) s (version_of f.block)) i q.named)) (can.all s))
      q.source in
      let held : w.holds f.behalf (cover w s) ≢ None = sole_held (w.holds f.behalf (cover w s)) q.sole in
      let still_held : w.taker f.behalf ≡ Some f.by → dropped r.dead (put w.taker r.dead None f.behalf) ≡ Some f.by = λ t.
      dropped_other r.dead (put w.taker r.dead None f.behalf) f.by (put_other w.taker r.dead None f.behalf other ∙ t)
      (λ i. let u : f.stamp ≤ w.expiry f.by = q.lease in let v : w.expiry r.dead < w.now = k.ended in let z : w.expiry f.by ≡ w.expiry r.dead = ap w.expiry i in absurd (omega arith)) in
      record {
        place = finish_goes s f.block (not_dead f.behalf s other held) q.place;
        higher = q.higher;
        lease = q.lease;
        sole = other_holds f.behalf s other held ∙ q.sole;
        named = subst (λ x. Named (up_to (w.durable f.behalf) x) s (version_of f.block)) (sym (put_other w.log r.dead [] f.behalf other)) q.named;
        source = ⊎_elim
            (λ o. inl (record {
              same = o.same;
              agrees = at_put (λ x. Agrees x (w.slot f.by s) f.block) w.phase r.dead Off f.by (λ i. absurd (other (sym o.same ∙ i))) (λ i. o.agrees);
            }))
            (λ o. inr (record {
              taker = still_held o.taker;
              until = subst (λ x. f.stamp ≤ x) (sym (until_held (dropped r.dead (put w.taker r.dead None f.behalf)) f.by (w.until f.behalf) (still_held o.taker))) o.until;
              dead = at_put (λ x. x ≡ Dead) w.phase r.dead Off f.behalf (λ i. absurd (other i)) (λ i. o.dead);
              told = λ x i j. absurd (cc);
              rescuer = λ x i j. absurd (cc);
            }))
            q.source;
      }

  pub logged_finish : Logged (after w (Finish r))
  logged_finish = record {
    logs = finish_logs;
    apart = λ a b l. at_put (λ f. f l ≡ Some Sole → put w.holds r.dead (λ t. None) b l ≢ None → a ≡ b) w.holds r.dead (λ t. None) a
        (λ e m. absurd (cc))
        (λ n m. at_put (λ f. f l ≢ None → a ≡ b) w.holds r.dead (λ t. None) b (λ e i. absurd (i refl)) (λ e i. g.apart a b l m i));
    known = λ b. at_put (λ p. p ≢ Off → b < w.servers) w.phase r.dead Off b (λ e n. absurd (n refl)) (λ n. g.known b);
    leases = g.leases;
    ends = λ d. until_most (dropped r.dead (put w.taker r.dead None d)) (w.until d) (w.now + 30) (g.ends d);
    begun = λ d b e. at_put (λ o. o ≡ Some b → (put w.phase r.dead Off d ≡ Dead) × (w.expiry d < w.now)) w.taker r.dead None d (λ i j. absurd (cc)) (λ n j. let q = g.begun d b j in (put_other w.phase r.dead Off d n ∙ q.0, q.1)) (dropped_is r.dead (put w.taker r.dead None d) b e);
    off_free = λ b l. at_put (λ p. NoneIfOff p (put w.holds r.dead (λ t. None) b l)) w.phase r.dead Off b
        (λ e. at_put (λ f. f l ≡ None) w.holds r.dead (λ t. None) b (λ i. refl) (λ n. absurd (n e)))
        (λ n. at_put (λ f. NoneIfOff (w.phase b) (f l)) w.holds r.dead (λ t. None) b (λ i. absurd (n i)) (λ i. g.off_free b l));
    rested = λ b. at_put (λ p. p ≡ Off → put w.last r.dead (w.durable r.dead) b ≤ w.durable b) w.phase r.dead Off b
        (λ e i. at_put (λ x. x ≤ w.durable b) w.last r.dead (w.durable r.dead) b (λ j. le_of_eq (ap w.durable (sym j))) (λ n. absurd (n e)))
        (λ n i. at_put (λ x. x ≤ w.durable b) w.last r.dead (w.durable r.dead) b (λ j. absurd (n j)) (λ j. g.rested b i));
    not_up = λ b s. at_put (λ p. AbsentUnlessUp p (w.slot b s)) w.phase r.dead Off b (λ e. dead_slot b s e) (λ n. g.not_up b s);
    held = λ b s. by_slot_case (λ x. x ≡ w.slot b s → HeldIf x ((after w (Finish r)).holds b (cover (after w (Finish r)) s))) (w.slot b s) (λ e. tt)
        (λ n e. subst (λ m. HeldIf (w.slot b s) m) (sym (other_holds b s (slot_other b s n) (slot_held b s n))) (g.held b s)) refl;
    copies = λ b s. by_slot_case (λ x. x ≡ w.slot b s → IsCopy x (logical w.opening (rest w r.dead) s)) (w.slot b s) (λ e. tt)
        (λ n e. copy_by (w.slot b s) (now_of w s) (logical w.opening (rest w r.dead) s) (other_now s (not_dead b s (slot_other b s n) (slot_held b s n))) (g.copies b s)) refl;
    newer = g.newer;
    ahead = λ b s. by_slot_case (λ x. x ≡ w.slot b s → IsAhead (put w.last r.dead (w.durable r.dead) b) s b (rest w r.dead) x) (w.slot b s) (λ e. tt)
        (λ n e. subst (λ x. IsAhead x s b (rest w r.dead) (w.slot b s)) (sym (put_other w.last r.dead (w.durable r.dead) b (slot_other b s n))) (ahead_by (w.slot b s) (w.last b) s b (settled w.history) (rest w r.dead)
        (λ m. last_kept s b m (survives r.dead (w.durable r.dead)) (settled w.history) (other_stays s (not_dead b s (slot_other b s n) (slot_held b s n)))) (g.ahead b s))) refl;
    place = finish_place;
    firm = finish_firm;
    locked = each_map (λ c. (survives r.dead (w.durable r.dead) c ≡ true) × (w.durable c.by < c.op → (l : LockId) → IsTrue (has_lock l c.alone) → w.holds c.by l ≡ Some Sole))
        (λ e. w.durable e.by < e.op → (l : LockId) → IsTrue (has_lock l e.alone) → put w.holds r.dead (λ t. None) e.by l ≡ Some Sole)
        (λ e m n l i. ⊎_elim
        (λ q. let u : e.op ≤ w.durable r.dead = leb-true e.op (w.durable r.dead) (sym (survives_own r.dead (w.durable r.dead) e q) ∙ m.0) in
        let v : w.durable e.by ≡ w.durable r.dead = ap w.durable q in absurd (omega arith))
        (λ q. ap (λ x. x l) (put_other w.holds r.dead (λ t. None) e.by q) ∙ m.1 n l i)
        (cases_eq e.by r.dead))
        (rest w r.dead)
        (each_kept_with (λ c. w.durable c.by < c.op → (l : LockId) → IsTrue (has_lock l c.alone) → w.holds c.by l ≡ Some Sole) (survives r.dead (w.durable r.dead)) (settled w.history) g.locked);
    rising = λ s. rising_kept w.opening s (survives r.dead (w.durable r.dead)) (settled w.history) (g.rising s);
    ops = ops_kept (survives r.dead (w.durable r.dead)) (settled w.history) g.ops;
    below = each_map (λ c. (survives r.dead (w.durable r.dead) c ≡ true) × (c.op ≤ w.last c.by)) (λ c. c.op ≤ put w.last r.dead (w.durable r.dead) c.by)
        (λ c m. at_put (λ x. c.op ≤ x) w.last r.dead (w.durable r.dead) c.by (λ q. leb-true c.op (w.durable r.dead) (sym (survives_own r.dead (w.durable r.dead) c q) ∙ m.0)) (λ n. m.1)) (rest w r.dead) kept_below;
    reached = λ d. at_put (λ x. w.durable d ≤ x) w.last r.dead (w.durable r.dead) d (λ q. subst (λ y. w.durable y ≤ w.durable r.dead) (sym q) (le_refl (w.durable r.dead))) (λ n. g.reached d);
    acks = λ d. at_put (λ x. x ≤ w.durable d) w.acked r.dead (w.durable r.dead) d (λ q. subst (λ y. w.durable r.dead ≤ w.durable y) (sym q) (le_refl (w.durable r.dead))) (λ n. g.acks d);
    floored = λ e. at_put (λ x. x ≤ put w.last r.dead (w.durable r.dead) e) w.floor r.dead (w.durable r.dead) e
        (λ q. at_put (λ y. w.durable r.dead ≤ y) w.last r.dead (w.durable r.dead) e (λ i. le_refl (w.durable r.dead)) (λ n. absurd (n q)))
        (λ n. at_put (λ y. w.floor e ≤ y) w.last r.dead (w.durable r.dead) e (λ q. absurd (n q)) (λ i. g.floored e));
    unseen = λ e. unseen_kept e (w.durable e) (survives r.dead (w.durable r.dead)) (settled w.history) (g.unseen e);
    unmet = λ e. unmet_kept e (w.durable e) (survives r.dead (w.durable r.dead)) (settled w.history) (g.unmet e);
    unsynced = g.unsynced;
    was_kept = (g.unseen r.dead, g.unmet r.dead, g.unsynced r.dead, g.was_kept);
    flights = finish_flight;
    rescued = λ x e. absurd (cc);
  }
