-- The oldest records are given up, once their sectors are in place.
use Rattle.std.proofs.Common.{true, false, List, [], ◌∷◌, Bool, ⊎_elim, le_refl, ℕ, ◌<◌, ◌≤◌, ◌≡◌, ◌&&◌, inl, Option, Some, None, nat_lt, nat_le, refl, sym, ◌∙◌, ap, subst, arith}
use Rattle.std.proofs.lemmas.Bool.Decides.{nat_tests}
use Rattle.std.proofs.lemmas.Bool.{cases_eq, ne_eqb, eq-eqb, lt-ltb}
use Rattle.frang_base.specs.declared.change.Change.{Change}
use Rattle.sector_bytes.specs.Blocks.{Block, version_of}
use Rattle.frang_base.specs.declared.change.Redo.{Redo}
use Rattle.sector_bytes.specs.Replays.{change_at, redo_all, up_to, above}
use Rattle.frang_base.specs.Functions.{keep_if, put}
use Rattle.sector_world.specs.Histories.{Commit, Item, redo_of, settled, is_own, own, Each, Named}
use Rattle.sector_world.specs.Histories.Item.{Done, Doubt}
use Rattle.sector_world.specs.OnDisk.{OnDisk}
use Rattle.frang_base.proofs.Basics.{le_or_lt, at_put, by_keep}
use Rattle.sector_world.proofs.Removals.{named_keep}
use Rattle.sector_world.proofs.More.{IsAbove, on_disk_more}
use Rattle.sector_world.specs.World.{World, Flight, Rescue}
use Rattle.sector_world.specs.Guards.{IsBelow, AreBelow, CanReclaim}
use Rattle.sector_world.specs.Steps.{after}
use Rattle.sector_world.specs.Steps.Event.{Reclaim}
use Rattle.sector_world.specs.Logged.{Logged, Pending, FlightOk, ToldOk, RescueOk}

and_false : (a b : Bool) → b ≡ false → (a && b) ≡ b
and_false true b e = refl
and_false false b e = sym e

own_and : (a k f : ℕ) (c : Commit) → f ≤ k → (is_own a f c && nat_lt k c.op) ≡ is_own a k c
own_and a k f c le =
    ⊎_elim
    (λ e. rw (eq-eqb c.by a e) (⊎_elim
    (λ l. and_false (nat_lt f c.op) (nat_lt k c.op) (let m : nat_lt k c.op ≡ false = grind (arith, nat_tests) in m))
    (λ l. let m : f < c.op = omega arith in rw (lt-ltb f c.op m, lt-ltb k c.op l))
    (le_or_lt c.op k)))
    (λ n. rw (ne_eqb c.by a n))
    (cases_eq c.by a)

above_keep : (k : ℕ) (b : Bool) (r : Redo) (rs : List Redo) → above k (keep_if b r rs) ≡ keep_if (b && nat_lt k r.op.0) r (above k rs)
above_keep k true r rs = refl
above_keep k false r rs = refl

-- the log above k is of the operations above k
pub above_own : (a f k : ℕ) → f ≤ k → (h : List Item) → above k (own a f h) ≡ own a k h
above_own a f k le [] = refl
above_own a f k le (Done c ∷ h) = rw (above_keep k (is_own a f c) (redo_of c) (own a f h), own_and a k f c le, above_own a f k le h)
above_own a f k le (Doubt m ∷ h) = above_own a f k le h

own_true : (a f : ℕ) (c : Commit) → c.by ≡ a → f < c.op → is_own a f c ≡ true
own_true a f c e l = rw (eq-eqb c.by a e, lt-ltb f c.op l)

-- what is written of the records is written of the operations
below_each : (a f k s v : ℕ) (h : List Item) → AreBelow k (own a f h) s v → Each (λ c. c.by ≡ a → f < c.op → c.op ≤ k → IsBelow (change_at c.changes s) v) h
below_each a f k s v [] b = tt
below_each a f k s v (Done c ∷ h) b =
    by_keep (λ x. AreBelow k x s v → Each (λ c. c.by ≡ a → f < c.op → c.op ≤ k → IsBelow (change_at c.changes s) v) (Done c ∷ h)) (is_own a f c) (redo_of c) (own a f h)
    (λ e m. ((λ i j l. m.0 l), below_each a f k s v h m.1))
    (λ e m. ((λ i j l. let q : is_own a f c ≡ true = own_true a f c i j in absurd (cc)), below_each a f k s v h m)) b
below_each a f k s v (Doubt m ∷ h) b = below_each a f k s v h b

above_not_below : (o : Option Change) (n : ℕ) → IsAbove o n → IsBelow o n → ⊥
above_not_below None n a b = a
above_not_below (Some x) n a b = omega arith

named_not_below : (o : Option Change) (x : Change) (v n : ℕ) → o ≡ Some x → x.version ≡ v → n < v → IsBelow o n → ⊥
named_not_below None x v n e f l b = cc
named_not_below (Some y) x v n e f l b = let q : y.version ≡ x.version = ap (λ z. z.version) (let m : y ≡ x = cc in m) in omega arith

drop_named : (j : ℕ) (b : Bool) (r : Redo) (rs : List Redo) (s v : ℕ) → Named (up_to j rs) s v → Named (up_to j (keep_if b r rs)) s v
drop_named j true r rs s v n = named_keep (nat_le r.op.0 j) r (up_to j rs) s v n
drop_named j false r rs s v n = n

-- a record that names a sector with a version that isn't on the disk yet isn't given up
named_above : (j k : ℕ) (rs : List Redo) (s n v : ℕ) → AreBelow k rs s n → n < v → Named (up_to j rs) s v → Named (up_to j (above k rs)) s v
named_above j k [] s n v b l m = m
named_above j k (r ∷ rs) s n v b l m =
    by_keep (λ x. Named x s v → Named (up_to j (keep_if (nat_lt k r.op.0) r (above k rs))) s v) (nat_le r.op.0 j) r (up_to j rs)
    (λ e q. ⊎_elim
    (λ x. ⊎_elim
    (λ i. absurd (named_not_below (change_at r.changes s) x.0 v n x.1 x.2 l (b.0 i)))
    (λ i. rw (lt-ltb k r.op.0 i, e) (inl x))
    (le_or_lt r.op.0 k))
    (λ x. drop_named j (nat_lt k r.op.0) r (above k rs) s v (named_above j k rs s n v b.1 l x)) q)
    (λ e q. drop_named j (nat_lt k r.op.0) r (above k rs) s v (named_above j k rs s n v b.1 l q)) m

below_more : (o : Option Change) (n m : ℕ) → n ≤ m → IsBelow o n → IsBelow o m
below_more None n m l b = tt
below_more (Some x) n m l b = omega arith

module _ (w : World) (a k : ℕ) (can : CanReclaim w a k) (g : Logged w) where
  written : (s : ℕ) → Each (λ c. c.by ≡ a → w.floor a < c.op → c.op ≤ k → IsBelow (change_at c.changes s) (version_of (w.disk s))) (settled w.history)
  written s = below_each a (w.floor a) k s (version_of (w.disk s)) (settled w.history) (subst (λ l. AreBelow k l s (version_of (w.disk s))) (g.logs a) (can.written s))

  reclaim_goes : (s : ℕ) (block : Block) → (version_of (w.disk s)) ≤ (version_of block) → OnDisk w.opening w.durable s (Pending w s) block (settled w.history) → OnDisk w.opening w.durable s (Pending (after w (Reclaim a k)) s) block (settled w.history)
  reclaim_goes s block le o =
      on_disk_more w.opening w.durable s (Pending w s) (Pending (after w (Reclaim a k)) s) (λ c. c.by ≡ a → w.floor a < c.op → c.op ≤ k → IsBelow (change_at c.changes s) (version_of (w.disk s))) block
      (λ c b i n p. record {
        sole = p.sole;
        covered = p.covered;
        above = at_put (λ x. x < c.op) w.floor a k c.by
            (λ e. ⊎_elim (λ l. absurd (above_not_below (change_at c.changes s) (version_of block) n (below_more (change_at c.changes s) (version_of (w.disk s)) (version_of block) le (b e (subst (λ x. w.floor x < c.op) e p.above) l))))
            (λ l. l) (le_or_lt c.op k))
            (λ e. p.above);
      })
      (settled w.history) (written s) (g.rising s) o

  pub logged_reclaim : Logged (after w (Reclaim a k))
  logged_reclaim = let logs : (d' : ℕ) → (after w (Reclaim a k)).log d' ≡ own d' ((after w (Reclaim a k)).floor d') (settled (after w (Reclaim a k)).history) = λ d. at_put (λ x. x ≡ own d (put w.floor a k d) (settled w.history)) w.log a (above k (w.log a)) d
      (λ e. at_put (λ x. above k (w.log a) ≡ own d x (settled w.history)) w.floor a k d
      (λ i. ap (above k) (g.logs a) ∙ above_own a (w.floor a) k can.more (settled w.history) ∙ ap (λ x. own x k (settled w.history)) (sym e)) (λ n. absurd (n e)))
      (λ n. at_put (λ x. w.log d ≡ own d x (settled w.history)) w.floor a k d (λ i. absurd (n i)) (λ i. g.logs d)) in
      let place : (s' : ℕ) → OnDisk (after w (Reclaim a k)).opening (after w (Reclaim a k)).durable s' (Pending (after w (Reclaim a k)) s') ((after w (Reclaim a k)).disk s') (settled (after w (Reclaim a k)).history) = λ s. reclaim_goes s (w.disk s) (le_refl (version_of (w.disk s))) (g.place s) in
      let floored : (d' : ℕ) → (after w (Reclaim a k)).floor d' ≤ (after w (Reclaim a k)).last d' = λ e. at_put (λ x. x ≤ w.last e) w.floor a k e (λ i. subst (λ x. k ≤ w.last x) (sym i) can.there) (λ n. g.floored e) in
      let flights : (s' : ℕ) (f' : Flight) → (after w (Reclaim a k)).flight s' ≡ Some f' → (after w (Reclaim a k)).now ≤ f'.stamp → FlightOk (after w (Reclaim a k)) s' f' = λ s f e n. let q : FlightOk w s f = g.flights s f e n in
      record {
        place = reclaim_goes s f.block (let u : (version_of (w.disk s)) < (version_of f.block) = q.higher in omega arith) q.place;
        higher = q.higher;
        lease = q.lease;
        sole = q.sole;
        source = q.source;
        named = at_put (λ x. Named (up_to (w.durable f.behalf) x) s (version_of f.block)) w.log a (above k (w.log a)) f.behalf
            (λ i. named_above (w.durable f.behalf) k (w.log a) s (version_of (w.disk s)) (version_of f.block) (can.written s) q.higher (subst (λ x. Named (up_to (w.durable f.behalf) (w.log x)) s (version_of f.block)) i q.named))
            (λ i. q.named);
      } in
      let rescued : (r' : Rescue) → (after w (Reclaim a k)).rescue ≡ Some r' → RescueOk (after w (Reclaim a k)) r' = λ r e. let q : RescueOk w r = g.rescued r e in
      record {
        dead = q.dead;
        taker = q.taker;
        ended = q.ended;
        alive = q.alive;
        until = q.until;
        told = λ s. at_put (λ x. ToldOk (r.told s) (w.disk s) (redo_all (up_to (w.durable r.dead) x) s (w.disk s))) w.log a (above k (w.log a)) r.dead
            (λ i. let u = can.up in let v = q.dead in let z : w.phase r.dead ≡ w.phase a = ap w.phase i in absurd (cc)) (λ i. q.told s);
      } in
      search
