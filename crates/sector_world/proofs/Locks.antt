-- Taking and giving locks, fetching.
use Rattle.std.proofs.Common.{IsTrue, if◌then◌else◌, ⊎_elim, le_refl, ℕ, ◌<◌, ◌≤◌, ◌≡◌, ◌≢◌, inl, inr, Option, Some, None, refl, sym, ◌∙◌, ap, subst, arith, false}
use Rattle.std.proofs.lemmas.Option.{same_Some}
use Rattle.frang_base.specs.declared.lock.LockId.{LockId}
use Rattle.frang_base.specs.declared.lock.Mode.{Mode}
use Rattle.frang_base.specs.declared.lock.Mode.TheVariants.{Shared, Sole}
use Rattle.sector_bytes.specs.Blocks.{Block}
use Rattle.frang_base.specs.Locks.{same_lock, has_lock}
use Rattle.frang_base.specs.Functions.{put_lock}
use Rattle.sector_world.specs.Histories.{Commit, settled, Each}
use Rattle.sector_world.specs.OnDisk.{OnDisk}
use Rattle.sector_world.specs.Seen.{Alters}
use Rattle.frang_base.proofs.Basics.{by_test, lock_of, lock_not, at_put, at_put2, at_lock}
use Rattle.sector_world.proofs.HistoryLaws.{each_map, each_map2, on_disk_map, all_in_place}
use Rattle.sector_world.specs.World.{World, Phase, Slot, Flight, cover}
use Rattle.sector_world.specs.World.Phase.{Off, Up, Dead}
use Rattle.sector_world.specs.World.Slot.{Absent, Clean, Dirty}
use Rattle.sector_world.specs.Guards.{Fits, NotDirty, CanTake, CanGive, CanFetch}
use Rattle.sector_world.specs.Steps.{after}
use Rattle.sector_world.specs.Steps.Event.{Take, Give, Lower, Fetch}
use Rattle.sector_world.specs.Logged.{now_of, IsCopy, Logged, IsNewer, Covers, Pending, HeldIf, IsAhead, NoneIfOff, AbsentUnlessUp, Agrees, FlightOk}
use Rattle.sector_world.proofs.Doing.{up_only}

fits_sole_none : (m : Option Mode) → Fits Sole m → m ≢ None → ⊥
fits_sole_none None f n = n refl
fits_sole_none (Some Shared) f n = f
fits_sole_none (Some Sole) f n = f

fits_none : (m : Mode) → Fits m (Some Sole) → ⊥
fits_none Shared f = f
fits_none Sole f = f

held_more : (x : Slot) (old new : Option Mode) → old ≢ Some Sole → new ≢ None → HeldIf x old → HeldIf x new
held_more Absent old new n m h = tt
held_more (Clean block) old new n m h = m
held_more (Dirty block mark) old new n m h = absurd (n h)

none_if_up : (p : Phase) (m : Option Mode) → p ≡ Up → NoneIfOff p m
none_if_up Off m e = absurd (cc)
none_if_up Up m e = tt
none_if_up Dead m e = tt

pub logged_take : (w : World) (a : ℕ) (l : LockId) (mode : Mode) → CanTake w a l mode → Logged w → Logged (after w (Take a l mode))
logged_take w a l mode can g =
    let sole : (b : ℕ) (k : LockId) → w.holds b k ≡ Some Sole → put_lock w.holds a l (Some mode) b k ≡ Some Sole = λ b k h.
    at_lock (λ m. m ≡ Some Sole) w.holds a l (Some mode) b k (λ e f. absurd (can.more (cc))) (λ o. h) in
    let goes : (s : ℕ) (block : Block) → OnDisk w.opening w.durable s (Pending w s) block (settled w.history) → OnDisk w.opening w.durable s (Pending (after w (Take a l mode)) s) block (settled w.history) = λ s block o.
    on_disk_map w.opening w.durable w.durable s (Pending w s) (Pending (after w (Take a l mode)) s) block (λ d. le_refl (w.durable d))
    (λ c i q. record { sole = sole c.by (cover w s) q.sole; above = q.above; covered = q.covered }) (settled w.history) o in
    let apart : (a' b' : ℕ) (l' : LockId) → (after w (Take a l mode)).holds a' l' ≡ Some Sole → (after w (Take a l mode)).holds b' l' ≢ None → a' ≡ b' = λ b d t. at_lock (λ m. m ≡ Some Sole → put_lock w.holds a l (Some mode) d t ≢ None → b ≡ d) w.holds a l (Some mode) b t
    (λ e f m. at_lock (λ x. x ≢ None → b ≡ d) w.holds a l (Some mode) d t
    (λ i j n. e ∙ sym i)
    (λ o n. let other : d ≢ a = λ q. o q f in
    let fits : Fits Sole (w.holds d l) = subst (λ x. Fits x (w.holds d l)) (same_Some mode Sole m) (can.fits d other) in
    absurd (fits_sole_none (w.holds d l) fits (subst (λ x. w.holds d x ≢ None) f n))))
    (λ o m. at_lock (λ x. x ≢ None → b ≡ d) w.holds a l (Some mode) d t
    (λ i j n. let other : b ≢ a = λ q. o q j in
    let was : w.holds b l ≡ Some Sole = subst (λ x. w.holds b x ≡ Some Sole) j m in
    absurd (fits_none mode (subst (λ x. Fits mode x) was (can.fits b other))))
    (λ i n. g.apart b d t m n)) in
    let off_free : (a' : ℕ) (l' : LockId) → NoneIfOff ((after w (Take a l mode)).phase a') ((after w (Take a l mode)).holds a' l') = λ b t. at_lock (λ m. NoneIfOff (w.phase b) m) w.holds a l (Some mode) b t (λ e f. none_if_up (w.phase b) (Some mode) (ap w.phase e ∙ can.up)) (λ o. g.off_free b t) in
    let held : (a' s' : ℕ) → HeldIf ((after w (Take a l mode)).slot a' s') ((after w (Take a l mode)).holds a' (cover (after w (Take a l mode)) s')) = λ b s. at_lock (λ m. HeldIf (w.slot b s) m) w.holds a l (Some mode) b (cover w s)
    (λ e f. let was : w.holds b (cover w s) ≢ Some Sole = λ q. can.more (cc) in held_more (w.slot b s) (w.holds b (cover w s)) (Some mode) was (λ x. cc) (g.held b s))
    (λ o. g.held b s) in
    let place : (s' : ℕ) → OnDisk (after w (Take a l mode)).opening (after w (Take a l mode)).durable s' (Pending (after w (Take a l mode)) s') ((after w (Take a l mode)).disk s') (settled (after w (Take a l mode)).history) = λ s. goes s (w.disk s) (g.place s) in
    let locked : Each (λ e'. (after w (Take a l mode)).durable e'.by < e'.op → (l' : LockId) → IsTrue (has_lock l' e'.alone) → (after w (Take a l mode)).holds e'.by l' ≡ Some Sole) (settled (after w (Take a l mode)).history) = each_map (λ e. w.durable e.by < e.op → (k : LockId) → IsTrue (has_lock k e.alone) → w.holds e.by k ≡ Some Sole) (λ e. w.durable e.by < e.op → (k : LockId) → IsTrue (has_lock k e.alone) → put_lock w.holds a l (Some mode) e.by k ≡ Some Sole)
    (λ e m n k i. sole e.by k (m n k i)) (settled w.history) g.locked in
    let firm : (s' : ℕ) → Each (λ e'. Alters s' e' → (after w (Take a l mode)).durable e'.by < e'.op → (after w (Take a l mode)).holds e'.by (cover (after w (Take a l mode)) s') ≡ Some Sole) (settled (after w (Take a l mode)).history) = λ s. each_map (λ e. Alters s e → w.durable e.by < e.op → w.holds e.by (cover w s) ≡ Some Sole) (λ e. Alters s e → w.durable e.by < e.op → put_lock w.holds a l (Some mode) e.by (cover w s) ≡ Some Sole)
    (λ e m i n. sole e.by (cover w s) (m i n)) (settled w.history) (g.firm s) in
    let flights : (s' : ℕ) (f' : Flight) → (after w (Take a l mode)).flight s' ≡ Some f' → (after w (Take a l mode)).now ≤ f'.stamp → FlightOk (after w (Take a l mode)) s' f' = λ s f e n. let q : FlightOk w s f = g.flights s f e n in
    record { place = goes s f.block q.place; higher = q.higher; lease = q.lease; sole = sole f.behalf (cover w s) q.sole; named = q.named; source = q.source } in
    search

not_covered : (x : Slot) (op : ℕ) → NotDirty x → Covers Up x op → ⊥
not_covered Absent op n c = c
not_covered (Clean block) op n c = c
not_covered (Dirty block mark) op n c = n

free_ok : (p : Phase) → NoneIfOff p None
free_ok Off = refl
free_ok Up = tt
free_ok Dead = tt

absent_ok : (p : Phase) → AbsentUnlessUp p Absent
absent_ok Off = refl
absent_ok Up = tt
absent_ok Dead = refl

module _ (w : World) (a : ℕ) (l : LockId) (can : CanGive w a l) (g : Logged w) where
  -- a fact of a slot after the lock is given
  at_slot : (P : Slot → Type 0) (b s : ℕ) → (b ≡ a → cover w s ≡ l → P Absent) → ((b ≡ a → cover w s ≢ l) → P (w.slot b s)) → P ((after w (Give a l)).slot b s)
  at_slot P b s same other =
      at_put (λ f. P (f s)) w.slot a (λ t. if same_lock (cover w t) l then Absent else w.slot a t) b
      (λ e. by_test P Absent (w.slot a s) (same_lock (cover w s) l)
      (λ i. same e (lock_of (cover w s) l i))
      (λ i. subst (λ x. P (w.slot x s)) e (other (λ j. lock_not (cover w s) l i))))
      (λ n. other (λ e. absurd (n e)))

  sole : (b : ℕ) (k : LockId) → (b ≡ a → k ≢ l) → w.holds b k ≡ Some Sole → put_lock w.holds a l None b k ≡ Some Sole
  sole b k n h = at_lock (λ m. m ≡ Some Sole) w.holds a l None b k (λ e f. absurd (n e f)) (λ o. h)

  none : (s : ℕ) (c : Commit) → Pending w s c → c.by ≡ a → cover w s ≢ l
  none s c q e f =
      not_covered (w.slot a s) c.op (can.clean s f)
      (subst (λ x. Covers x (w.slot a s) c.op) can.up (subst (λ x. Covers (w.phase x) (w.slot x s) c.op) e q.covered))

  goes : (s : ℕ) (block : Block) → OnDisk w.opening w.durable s (Pending w s) block (settled w.history) → OnDisk w.opening w.durable s (Pending (after w (Give a l)) s) block (settled w.history)
  goes s block o =
      on_disk_map w.opening w.durable w.durable s (Pending w s) (Pending (after w (Give a l)) s) block (λ d. le_refl (w.durable d))
      (λ c i q. record {
        sole = sole c.by (cover w s) (none s c q) q.sole;
        above = q.above;
        covered = at_slot (λ x. Covers (w.phase c.by) x c.op) c.by s (λ e f. absurd (none s c q e f)) (λ n. q.covered);
      })
      (settled w.history) o

  give_firm : (s : ℕ) → Each (λ e. Alters s e → w.durable e.by < e.op → put_lock w.holds a l None e.by (cover w s) ≡ Some Sole) (settled w.history)
  give_firm s = each_map2 (λ e. Alters s e → w.durable e.by < e.op → w.holds e.by (cover w s) ≡ Some Sole) (λ e. e.op ≤ w.last e.by) (λ e. Alters s e → w.durable e.by < e.op → put_lock w.holds a l None e.by (cover w s) ≡ Some Sole)
      (λ e m b i n. sole e.by (cover w s)
      (λ j k. let h : w.holds a l ≡ Some Sole = subst (λ x. w.holds x l ≡ Some Sole) j (subst (λ x. w.holds e.by x ≡ Some Sole) k (m i n)) in
      let u : w.last a ≤ w.acked a = can.logged h in
      let v : w.acked a ≤ w.durable a = g.acks a in
      let x : w.last e.by ≡ w.last a = ap w.last j in
      let y : w.durable e.by ≡ w.durable a = ap w.durable j in absurd (omega arith))
      (m i n))
      (settled w.history) (g.firm s) g.below

  give_flight : (s : ℕ) (f : Flight) → w.flight s ≡ Some f → w.now ≤ f.stamp → FlightOk (after w (Give a l)) s f
  give_flight s f e n =
      let q : FlightOk w s f = g.flights s f e n in
      record {
        place = goes s f.block q.place;
        higher = q.higher;
        lease = q.lease;
        named = q.named;
        sole = sole f.behalf (cover w s) (λ i j. ⊎_elim (λ o. can.landed s f j e n o.same (o.same ∙ i)) (λ o. let u = can.up in let v = o.dead in let z : w.phase f.behalf ≡ w.phase a = ap w.phase i in cc) q.source) q.sole;
        source = ⊎_elim (λ o. inl (record {
          same = o.same;
          agrees = at_slot (λ x. Agrees (w.phase f.by) x f.block) f.by s (λ i j. absurd (can.landed s f j e n o.same i)) (λ i. o.agrees);
        })) (λ o. inr o) q.source;
      }

  pub logged_give : Logged (after w (Give a l))
  logged_give = let apart : (a' b' : ℕ) (l' : LockId) → (after w (Give a l)).holds a' l' ≡ Some Sole → (after w (Give a l)).holds b' l' ≢ None → a' ≡ b' = λ b d t. at_lock (λ m. m ≡ Some Sole → put_lock w.holds a l None d t ≢ None → b ≡ d) w.holds a l None b t
      (λ e f m. absurd (cc))
      (λ o m. at_lock (λ x. x ≢ None → b ≡ d) w.holds a l None d t (λ i j n. absurd (n refl)) (λ i n. g.apart b d t m n)) in
      let off_free : (a' : ℕ) (l' : LockId) → NoneIfOff ((after w (Give a l)).phase a') ((after w (Give a l)).holds a' l') = λ b t. at_lock (λ m. NoneIfOff (w.phase b) m) w.holds a l None b t (λ e f. free_ok (w.phase b)) (λ o. g.off_free b t) in
      let not_up : (a' s' : ℕ) → AbsentUnlessUp ((after w (Give a l)).phase a') ((after w (Give a l)).slot a' s') = λ b s. at_slot (λ x. AbsentUnlessUp (w.phase b) x) b s (λ e f. absent_ok (w.phase b)) (λ n. g.not_up b s) in
      let held : (a' s' : ℕ) → HeldIf ((after w (Give a l)).slot a' s') ((after w (Give a l)).holds a' (cover (after w (Give a l)) s')) = λ b s. at_slot (λ x. HeldIf x (put_lock w.holds a l None b (cover w s))) b s (λ e f. tt)
      (λ n. at_lock (λ m. HeldIf (w.slot b s) m) w.holds a l None b (cover w s) (λ e f. absurd (n e f)) (λ i. g.held b s)) in
      let copies : (a' s' : ℕ) → IsCopy ((after w (Give a l)).slot a' s') (now_of (after w (Give a l)) s') = λ b s. at_slot (λ x. IsCopy x (now_of w s)) b s (λ e f. tt) (λ n. g.copies b s) in
      let newer : (a' s' : ℕ) → (after w (Give a l)).sick a' ≡ false → IsNewer ((after w (Give a l)).disk s') ((after w (Give a l)).slot a' s') = λ b s k. at_slot (λ x. IsNewer (w.disk s) x) b s (λ e f. tt) (λ n. g.newer b s k) in
      let ahead : (a' s' : ℕ) → IsAhead ((after w (Give a l)).last a') s' a' (settled (after w (Give a l)).history) ((after w (Give a l)).slot a' s') = λ b s. at_slot (λ x. IsAhead (w.last b) s b (settled w.history) x) b s (λ e f. tt) (λ n. g.ahead b s) in
      let place : (s' : ℕ) → OnDisk (after w (Give a l)).opening (after w (Give a l)).durable s' (Pending (after w (Give a l)) s') ((after w (Give a l)).disk s') (settled (after w (Give a l)).history) = λ s. goes s (w.disk s) (g.place s) in
      let firm : (s' : ℕ) → Each (λ e'. Alters s' e' → (after w (Give a l)).durable e'.by < e'.op → (after w (Give a l)).holds e'.by (cover (after w (Give a l)) s') ≡ Some Sole) (settled (after w (Give a l)).history) = give_firm in
      let locked : Each (λ e'. (after w (Give a l)).durable e'.by < e'.op → (l' : LockId) → IsTrue (has_lock l' e'.alone) → (after w (Give a l)).holds e'.by l' ≡ Some Sole) (settled (after w (Give a l)).history) = each_map2 (λ e. w.durable e.by < e.op → (k : LockId) → IsTrue (has_lock k e.alone) → w.holds e.by k ≡ Some Sole) (λ e. e.op ≤ w.last e.by) (λ e. w.durable e.by < e.op → (k : LockId) → IsTrue (has_lock k e.alone) → put_lock w.holds a l None e.by k ≡ Some Sole)
      (λ e m b n k i. sole e.by k
      (λ j q. let h : w.holds a l ≡ Some Sole = subst (λ x. w.holds x l ≡ Some Sole) j (subst (λ x. w.holds e.by x ≡ Some Sole) q (m n k i)) in
      let u : w.last a ≤ w.acked a = can.logged h in
      let v : w.acked a ≤ w.durable a = g.acks a in
      let x : w.last e.by ≡ w.last a = ap w.last j in
      let y : w.durable e.by ≡ w.durable a = ap w.durable j in absurd (omega arith))
      (m n k i))
      (settled w.history) g.locked g.below in
      let flights : (s' : ℕ) (f' : Flight) → (after w (Give a l)).flight s' ≡ Some f' → (after w (Give a l)).now ≤ f'.stamp → FlightOk (after w (Give a l)) s' f' = give_flight in
      search

lower_held : (x : Slot) (m : Option Mode) → NotDirty x → HeldIf x m → HeldIf x (Some Shared)
lower_held Absent m n h = tt
lower_held (Clean z) m n h = λ e. cc
lower_held (Dirty z mark) m n h = absurd n

-- a lock that was held alone is held shared: as when it is given, but what is cached stays
module _ (w : World) (a : ℕ) (l : LockId) (can : CanGive w a l) (alone : w.holds a l ≡ Some Sole) (g : Logged w) where
  lower_sole : (b : ℕ) (k : LockId) → (b ≡ a → k ≢ l) → w.holds b k ≡ Some Sole → put_lock w.holds a l (Some Shared) b k ≡ Some Sole
  lower_sole b k n h = at_lock (λ m. m ≡ Some Sole) w.holds a l (Some Shared) b k (λ e f. absurd (n e f)) (λ o. h)

  lower_goes : (s : ℕ) (block : Block) → OnDisk w.opening w.durable s (Pending w s) block (settled w.history) → OnDisk w.opening w.durable s (Pending (after w (Lower a l)) s) block (settled w.history)
  lower_goes s block o =
      on_disk_map w.opening w.durable w.durable s (Pending w s) (Pending (after w (Lower a l)) s) block (λ d. le_refl (w.durable d))
      (λ c i q. record { sole = lower_sole c.by (cover w s) (none w a l can g s c q) q.sole; above = q.above; covered = q.covered }) (settled w.history) o

  not_durable : (e : Commit) → w.durable e.by < e.op → e.op ≤ w.last e.by → (k : LockId) → e.by ≡ a → k ≢ l
  not_durable e n b k j q =
      let u : w.last a ≤ w.acked a = can.logged alone in
      let v : w.acked a ≤ w.durable a = g.acks a in
      let x : w.last e.by ≡ w.last a = ap w.last j in
      let y : w.durable e.by ≡ w.durable a = ap w.durable j in absurd (omega arith)

  pub logged_lower : Logged (after w (Lower a l))
  logged_lower = let apart : (a' b' : ℕ) (l' : LockId) → (after w (Lower a l)).holds a' l' ≡ Some Sole → (after w (Lower a l)).holds b' l' ≢ None → a' ≡ b' = λ b d t. at_lock (λ m. m ≡ Some Sole → put_lock w.holds a l (Some Shared) d t ≢ None → b ≡ d) w.holds a l (Some Shared) b t
      (λ e f m. absurd (cc))
      (λ o m. at_lock (λ x. x ≢ None → b ≡ d) w.holds a l (Some Shared) d t
      (λ i j n. g.apart b d t m (λ q. let z : w.holds d t ≡ Some Sole = ap (λ x. w.holds x t) i ∙ ap (w.holds a) j ∙ alone in cc)) (λ i n. g.apart b d t m n)) in
      let off_free : (a' : ℕ) (l' : LockId) → NoneIfOff ((after w (Lower a l)).phase a') ((after w (Lower a l)).holds a' l') = λ b t. at_lock (λ m. NoneIfOff (w.phase b) m) w.holds a l (Some Shared) b t (λ e f. none_if_up (w.phase b) (Some Shared) (ap w.phase e ∙ can.up)) (λ o. g.off_free b t) in
      let held : (a' s' : ℕ) → HeldIf ((after w (Lower a l)).slot a' s') ((after w (Lower a l)).holds a' (cover (after w (Lower a l)) s')) = λ b s. at_lock (λ m. HeldIf (w.slot b s) m) w.holds a l (Some Shared) b (cover w s)
      (λ e f. lower_held (w.slot b s) (w.holds b (cover w s)) (subst (λ x. NotDirty (w.slot x s)) (sym e) (can.clean s f)) (g.held b s)) (λ i. g.held b s) in
      let place : (s' : ℕ) → OnDisk (after w (Lower a l)).opening (after w (Lower a l)).durable s' (Pending (after w (Lower a l)) s') ((after w (Lower a l)).disk s') (settled (after w (Lower a l)).history) = λ s. lower_goes s (w.disk s) (g.place s) in
      let firm : (s' : ℕ) → Each (λ e'. Alters s' e' → (after w (Lower a l)).durable e'.by < e'.op → (after w (Lower a l)).holds e'.by (cover (after w (Lower a l)) s') ≡ Some Sole) (settled (after w (Lower a l)).history) = λ s. each_map2 (λ e. Alters s e → w.durable e.by < e.op → w.holds e.by (cover w s) ≡ Some Sole) (λ e. e.op ≤ w.last e.by) (λ e. Alters s e → w.durable e.by < e.op → put_lock w.holds a l (Some Shared) e.by (cover w s) ≡ Some Sole)
      (λ e m b i n. lower_sole e.by (cover w s) (not_durable e n b (cover w s)) (m i n)) (settled w.history) (g.firm s) g.below in
      let locked : Each (λ e'. (after w (Lower a l)).durable e'.by < e'.op → (l' : LockId) → IsTrue (has_lock l' e'.alone) → (after w (Lower a l)).holds e'.by l' ≡ Some Sole) (settled (after w (Lower a l)).history) = each_map2 (λ e. w.durable e.by < e.op → (k : LockId) → IsTrue (has_lock k e.alone) → w.holds e.by k ≡ Some Sole) (λ e. e.op ≤ w.last e.by) (λ e. w.durable e.by < e.op → (k : LockId) → IsTrue (has_lock k e.alone) → put_lock w.holds a l (Some Shared) e.by k ≡ Some Sole)
      (λ e m b n k i. lower_sole e.by k (not_durable e n b k) (m n k i)) (settled w.history) g.locked g.below in
      let flights : (s' : ℕ) (f' : Flight) → (after w (Lower a l)).flight s' ≡ Some f' → (after w (Lower a l)).now ≤ f'.stamp → FlightOk (after w (Lower a l)) s' f' = λ s f e n. let q : FlightOk w s f = g.flights s f e n in
      record {
        place = lower_goes s f.block q.place;
        higher = q.higher;
        lease = q.lease;
        named = q.named;
        source = q.source;
        sole = lower_sole f.behalf (cover w s) (λ i j. ⊎_elim (λ o. can.landed s f j e n o.same (o.same ∙ i)) (λ o. let u = can.up in let v = o.dead in let z : w.phase f.behalf ≡ w.phase a = ap w.phase i in cc) q.source) q.sole;
      } in
      search

module _ (w : World) (a s : ℕ) (can : CanFetch w a s) (g : Logged w) where
  fetch_none : (c : Commit) → c.by ≡ a → Pending w s c → ⊥
  fetch_none c e p =
      let m : w.slot c.by s ≡ Absent = ap (λ x. w.slot x s) e ∙ can.absent in
      let u : w.phase c.by ≡ Up = ap w.phase e ∙ can.up in
      subst (λ x. Covers Up x c.op) m (subst (λ x. Covers x (w.slot c.by s) c.op) u p.covered)

  fetch_now : w.disk s ≡ now_of w s
  fetch_now = all_in_place w.opening w.durable s (Pending w s) (w.disk s) (λ c i p. fetch_none c (g.apart c.by a (cover w s) p.sole can.held) p) (settled w.history) (g.place s)

  fetch_goes : (t : ℕ) (block : Block) → OnDisk w.opening w.durable t (Pending w t) block (settled w.history) → OnDisk w.opening w.durable t (Pending (after w (Fetch a s)) t) block (settled w.history)
  fetch_goes t block o =
      on_disk_map w.opening w.durable w.durable t (Pending w t) (Pending (after w (Fetch a s)) t) block (λ d. le_refl (w.durable d))
      (λ c i q. record {
        sole = q.sole;
        above = q.above;
        covered = at_put2 (λ x. Covers (w.phase c.by) x c.op) w.slot a s (Clean (w.disk s)) c.by t (λ e f. absurd (fetch_none c e (subst (λ x. Pending w x c) f q))) (λ n. q.covered);
      })
      (settled w.history) o

  pub logged_fetch : Logged (after w (Fetch a s))
  logged_fetch = let not_up : (a' s' : ℕ) → AbsentUnlessUp ((after w (Fetch a s)).phase a') ((after w (Fetch a s)).slot a' s') = λ b t. at_put2 (λ x. AbsentUnlessUp (w.phase b) x) w.slot a s (Clean (w.disk s)) b t (λ e f. up_only (w.phase b) (Clean (w.disk s)) (ap w.phase e ∙ can.up)) (λ o. g.not_up b t) in
      let held : (a' s' : ℕ) → HeldIf ((after w (Fetch a s)).slot a' s') ((after w (Fetch a s)).holds a' (cover (after w (Fetch a s)) s')) = λ b t. at_put2 (λ x. HeldIf x (w.holds b (cover w t))) w.slot a s (Clean (w.disk s)) b t
      (λ e f. subst (λ x. w.holds x (cover w t) ≢ None) (sym e) (subst (λ x. w.holds a (cover w x) ≢ None) (sym f) can.held)) (λ o. g.held b t) in
      let copies : (a' s' : ℕ) → IsCopy ((after w (Fetch a s)).slot a' s') (now_of (after w (Fetch a s)) s') = λ b t. at_put2 (λ x. IsCopy x (now_of w t)) w.slot a s (Clean (w.disk s)) b t (λ e f. fetch_now ∙ ap (now_of w) (sym f)) (λ o. g.copies b t) in
      let newer : (a' s' : ℕ) → (after w (Fetch a s)).sick a' ≡ false → IsNewer ((after w (Fetch a s)).disk s') ((after w (Fetch a s)).slot a' s') = λ b t k. at_put2 (λ x. IsNewer (w.disk t) x) w.slot a s (Clean (w.disk s)) b t (λ e f. tt) (λ o. g.newer b t k) in
      let ahead : (a' s' : ℕ) → IsAhead ((after w (Fetch a s)).last a') s' a' (settled (after w (Fetch a s)).history) ((after w (Fetch a s)).slot a' s') = λ b t. at_put2 (λ x. IsAhead (w.last b) t b (settled w.history) x) w.slot a s (Clean (w.disk s)) b t (λ e f. tt) (λ o. g.ahead b t) in
      let place : (s' : ℕ) → OnDisk (after w (Fetch a s)).opening (after w (Fetch a s)).durable s' (Pending (after w (Fetch a s)) s') ((after w (Fetch a s)).disk s') (settled (after w (Fetch a s)).history) = λ t. fetch_goes t (w.disk t) (g.place t) in
      let flights : (s' : ℕ) (f' : Flight) → (after w (Fetch a s)).flight s' ≡ Some f' → (after w (Fetch a s)).now ≤ f'.stamp → FlightOk (after w (Fetch a s)) s' f' = λ t f e n. let q : FlightOk w t f = g.flights t f e n in
      record {
        place = fetch_goes t f.block q.place;
        higher = q.higher;
        lease = q.lease;
        sole = q.sole;
        named = q.named;
        source = ⊎_elim (λ o. inl (record {
          same = o.same;
          agrees = at_put2 (λ x. Agrees (w.phase f.by) x f.block) w.slot a s (Clean (w.disk s)) f.by t
              (λ i j. let u : w.phase f.by ≡ Up = ap w.phase i ∙ can.up in
              let v : w.slot f.by t ≡ Absent = ap (λ x. w.slot x t) i ∙ ap (w.slot a) j ∙ can.absent in
              absurd (subst (λ x. Agrees Up x f.block) v (subst (λ x. Agrees x (w.slot f.by t) f.block) u o.agrees)))
              (λ i. o.agrees);
        })) (λ o. inr o) q.source;
      } in
      search
