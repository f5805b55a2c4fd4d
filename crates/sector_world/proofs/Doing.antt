-- An operation is done: it changes the cache, the log, the history and the covers.
use Rattle.std.proofs.Common.{true, false, List, ◌∷◌, Bool, IsTrue, IsSome, is_some, if◌then◌else◌, ⊎_elim, le_refl, le_trans, ℕ, ◌<◌, ◌≤◌, ◌≡◌, ◌≢◌, inl, inr, Option, Some, None, nat_le, refl, sym, ◌∙◌, ap, subst, arith}
use Rattle.std.proofs.lemmas.Bool.{ne_eqb, eq-eqb, lt-ltb}
use Rattle.frang_base.specs.declared.change.Change.{Change}
use Rattle.frang_base.specs.declared.lock.LockId.{LockId}
use Rattle.frang_base.specs.declared.lock.Mode.{Mode}
use Rattle.frang_base.specs.declared.lock.Mode.TheVariants.{Sole}
use Rattle.sector_bytes.specs.Blocks.{Block, version_of}
use Rattle.sector_bytes.specs.Changes.{changed as changed_block}
use Rattle.sector_bytes.specs.Replays.{change_at, forced, redo_all, up_to}
use Rattle.frang_base.specs.Locks.{has_lock}
use Rattle.frang_base.specs.Functions.{put}
use Rattle.sector_world.specs.Histories.{Commit, Item, redo_of, settled, logical, own, Each, Changes, reaches, Named}
use Rattle.sector_world.specs.Histories.Item.{Done}
use Rattle.sector_world.specs.OnDisk.{Raises, OnDisk}
use Rattle.sector_world.specs.OnDisk.OnDisk.{pending}
use Rattle.sector_world.specs.Seen.{moved, Alters, IsLost, SawNone}
use Rattle.frang_base.proofs.Basics.{at_put}
use Rattle.sector_bytes.proofs.ChangeLaws.{version-changed}
use Rattle.sector_world.proofs.HistoryLaws.{each_map, on_disk_map, disk_version}
use Rattle.sector_world.proofs.Removals.{named_keep}
use Rattle.sector_world.specs.World.{World, Phase, Slot, Flight, Rescue, cover}
use Rattle.sector_world.specs.World.Phase.{Off, Up, Dead}
use Rattle.sector_world.specs.World.Slot.{Absent, Clean, Dirty}
use Rattle.sector_world.specs.Guards.{Based, Owned, MovesOwned, to_replay, CanDo}
use Rattle.sector_world.specs.Steps.{after, changed}
use Rattle.sector_world.specs.Steps.Event.{Do}
use Rattle.sector_world.specs.Logged.{now_of, IsCopy, Logged, IsNewer, Covers, Pending, HeldIf, IsAhead, AbsentUnlessUp, Agrees, FlightOk, ToldOk, RescueOk}
use Rattle.sector_world.proofs.Reaching.{sole_held}

held_changed : (o : Option Change) (op : ℕ) (x : Slot) (m : Option Mode) → Owned o m → HeldIf x m → HeldIf (changed o op x) m
held_changed None op x m q h = h
held_changed (Some x) op Absent m q h = tt
held_changed (Some x) op (Clean block) m q h = q
held_changed (Some x) op (Dirty block mark) m q h = h

pub up_only : (p : Phase) (x : Slot) → p ≡ Up → AbsentUnlessUp p x
up_only Off x e = absurd (cc)
up_only Up x e = tt
up_only Dead x e = absurd (cc)

copy_changed : (o : Option Change) (op : ℕ) (x : Slot) (block : Block) → IsCopy x block → IsCopy (changed o op x) (forced o block)
copy_changed None op x block h = h
copy_changed (Some y) op Absent block h = tt
copy_changed (Some y) op (Clean z) block h = ap (forced (Some y)) h
copy_changed (Some y) op (Dirty z mark) block h = ap (forced (Some y)) h

copy_other : (o : Option Change) (x : Slot) (mine other : Option Mode) (block : Block) → Owned o mine → HeldIf x other → (mine ≡ Some Sole → other ≢ None → ⊥) → IsCopy x block → IsCopy x (forced o block)
copy_other None x mine other block q h n i = i
copy_other (Some y) Absent mine other block q h n i = tt
copy_other (Some y) (Clean z) mine other block q h n i = absurd (n q h)
copy_other (Some y) (Dirty z mark) mine other block q h n i = absurd (n q (λ e. cc))

-- the changed sector is ahead of the disk
ahead_changed : (o : Option Change) (c : Commit) (x : Slot) (last s : ℕ) (h : List Item)
    → change_at c.changes s ≡ o → last < c.op
    → IsAhead last s c.by h x → IsAhead c.op s c.by (Done c ∷ h) (changed o c.op x)
ahead_changed None c Absent last s h e l a = tt
ahead_changed None c (Clean z) last s h e l a = tt
ahead_changed None c (Dirty z mark) last s h e l a =
    let m : mark ≤ last = a.0 in (omega arith, inr ((λ w. let q : IsSome {T = Change} None = subst IsSome e w in cc), a.1))
ahead_changed (Some y) c Absent last s h e l a = tt
ahead_changed (Some y) c (Clean z) last s h e l a = (omega arith, inl (refl, refl, subst IsSome (sym e) refl))
ahead_changed (Some y) c (Dirty z mark) last s h e l a = (omega arith, inl (refl, refl, subst IsSome (sym e) refl))

owned_sole : (o : Option Change) (m : Option Mode) → Owned o m → IsSome o → m ≡ Some Sole
owned_sole None m q w = absurd (cc)
owned_sole (Some x) m q w = q

ahead_other : (x : Slot) (mode : Option Mode) (c : Commit) (a : ℕ) (last s : ℕ) (h : List Item)
    → HeldIf x mode → (mode ≡ Some Sole → Changes s c → ⊥) → IsAhead last s a h x → IsAhead last s a (Done c ∷ h) x
ahead_other Absent mode c a last s h i n g = tt
ahead_other (Clean z) mode c a last s h i n g = tt
ahead_other (Dirty z mark) mode c a last s h i n g = (g.0, inr (n i, g.1))

-- the operation covers itself, and older ones as before
covers_new : (o : Option Change) (op : ℕ) (x : Slot) → IsSome o → Based o x → Covers Up (changed o op x) op
covers_new None op x w b = absurd (cc)
covers_new (Some y) op Absent w b = b
covers_new (Some y) op (Clean z) w b = omega arith
covers_new (Some y) op (Dirty z mark) w b = omega arith

covers_old : (o : Option Change) (older op last a s : ℕ) (h : List Item) (p : Phase) (x : Slot) → last < op → IsAhead last s a h x → Covers p x older → Covers p (changed o op x) older
covers_old o older op last a s h Off x l m c = c
covers_old o older op last a s h Dead x l m c = tt
covers_old o older op last a s h Up Absent l m c = absurd c
covers_old o older op last a s h Up (Clean z) l m c = absurd c
covers_old None older op last a s h Up (Dirty z mark) l m c = c
covers_old (Some y) older op last a s h Up (Dirty z mark) l m c = let n : mark ≤ last = m.0 in omega arith

raises_based : (o : Option Change) (x : Slot) (block : Block) → Based o x → IsCopy x block → Raises o block
raises_based None x block b i = tt
raises_based (Some y) Absent block b i = absurd b
raises_based (Some y) (Clean z) block b i = subst (λ r. (version_of r) < y.version) i b
raises_based (Some y) (Dirty z mark) block b i = subst (λ r. (version_of r) < y.version) i b

-- a write in flight is older than a change made now
agrees_changed : (o : Option Change) (op : ℕ) (p : Phase) (x : Slot) (f : Block) → Based o x → Agrees p x f → Agrees p (changed o op x) f
agrees_changed o op Off x f b g = g
agrees_changed o op Dead x f b g = tt
agrees_changed o op Up Absent f b g = absurd g
agrees_changed o op Up (Clean z) f b g = absurd g
agrees_changed None op Up (Dirty z mark) f b g = g
agrees_changed (Some y) op Up (Dirty z mark) f b g =
    let v : version_of (changed_block z y) ≡ y.version = version-changed z y in
    inr (⊎_elim (λ i. let u : version_of z ≡ version_of f = ap version_of i in omega arith) (λ i. omega arith) g)

newer_changed : (o : Option Change) (op : ℕ) (x : Slot) (old now : Block) → version_of old ≤ version_of now → IsCopy x now → Based o x → IsNewer old x → IsNewer old (changed o op x)
newer_changed None op x old now le i b n = n
newer_changed (Some y) op Absent old now le i b n = tt
newer_changed (Some y) op (Clean z) old now le i b n = let m : version_of z ≡ version_of now = ap version_of i in let v : version_of (changed_block z y) ≡ y.version = version-changed z y in omega arith
newer_changed (Some y) op (Dirty z mark) old now le i b n = let m : version_of z ≡ version_of now = ap version_of i in let v : version_of (changed_block z y) ≡ y.version = version-changed z y in omega arith

moves_sole : (o : Option LockId) (lock : LockId) (c b : ℕ) (holds : ℕ → LockId → Option Mode) → MovesOwned o (holds c lock) (holds c) → (holds c lock ≡ Some Sole → b ≡ c) → holds b lock ≡ Some Sole → holds b (moved o lock) ≡ Some Sole
moves_sole None lock c b holds m f h = h
moves_sole (Some new) lock c b holds m f h = subst (λ x. holds x new ≡ Some Sole) (sym (f m.0)) m.1

moves_held : (o : Option LockId) (lock : LockId) (c b : ℕ) (holds : ℕ → LockId → Option Mode) (x : Slot) → MovesOwned o (holds c lock) (holds c) → (holds c lock ≡ Some Sole → holds b lock ≢ None → b ≡ c) → HeldIf x (holds b lock) → HeldIf x (holds b (moved o lock))
moves_held None lock c b holds x m f h = h
moves_held (Some new) lock c b holds Absent m f h = tt
moves_held (Some new) lock c b holds (Clean z) m f h = subst (λ y. holds y new ≢ None) (sym (f m.0 h)) (λ e. let q = m.1 in cc)
moves_held (Some new) lock c b holds (Dirty z mark) m f h = subst (λ y. holds y new ≡ Some Sole) (sym (f m.0 (λ e. cc))) m.1

moves_some : (o : Option LockId) (mode : Option Mode) (holds : LockId → Option Mode) (lock : LockId) → MovesOwned o mode holds → IsSome o → (mode ≡ Some Sole) × (holds (moved o lock) ≡ Some Sole)
moves_some None mode holds lock m w = absurd (cc)
moves_some (Some new) mode holds lock m w = m

-- bytes are looked at and written under held locks
reached_by : (wr sees used : Bool) (P : Type 0) → sees ≡ used → (wr ≡ true → P) → (used ≡ true → P) → (if wr then true else sees) ≡ true → P
reached_by true sees used P e f g i = f refl
reached_by false sees used P e f g i = g (sym e ∙ i)

pub reaches_held : (w : World) (c : Commit) → CanDo w c → (t : ℕ) → IsTrue (reaches c t) → w.holds c.by (cover w t) ≢ None
reaches_held w c can t i =
    reached_by (is_some (c.writes t)) (c.sees t) (has_lock (cover w t) c.uses) (w.holds c.by (cover w t) ≢ None) (can.sees t)
    (λ e. sole_held (w.holds c.by (cover w t)) (can.written t e)) (λ e. can.used (cover w t) e) i

module _ (w : World) (c : Commit) (can : CanDo w c) (g : Logged w) where
  pub do_sole : (b t : ℕ) → w.holds b (cover w t) ≡ Some Sole → w.holds b (cover (after w (Do c)) t) ≡ Some Sole
  do_sole b t h = moves_sole (c.moves t) (cover w t) c.by b w.holds (can.moves t) (λ m. g.apart b c.by (cover w t) h (sole_held (w.holds c.by (cover w t)) m)) h

  do_logs : (d : ℕ) → put w.log c.by (redo_of c ∷ w.log c.by) d ≡ own d (w.floor d) (Done c ∷ settled w.history)
  do_logs d =
      at_put (λ x. x ≡ own d (w.floor d) (Done c ∷ settled w.history)) w.log c.by (redo_of c ∷ w.log c.by) d
      (λ e. let f : w.floor d ≤ w.last d = g.floored d in
      let q : w.last d ≡ w.last c.by = ap w.last e in
      let n : w.last c.by < c.op = can.number in
      let m : w.floor d < c.op = omega arith in
      rw (eq-eqb c.by d (sym e), lt-ltb (w.floor d) c.op m) (ap (λ x. redo_of c ∷ x) (ap w.log (sym e) ∙ g.logs d)))
      (λ n. rw (ne_eqb c.by d (λ e. n (sym e))) (g.logs d))

  -- a fact of a slot after the operation
  at_slot : (P : Slot → Type 0) (b t : ℕ) → (b ≡ c.by → P (changed (change_at c.changes t) c.op (w.slot c.by t))) → (b ≢ c.by → P (w.slot b t)) → P ((after w (Do c)).slot b t)
  at_slot P b t same other = at_put (λ f. P (f t)) w.slot c.by (λ s. changed (change_at c.changes s) c.op (w.slot c.by s)) b same other

  do_held : (b t : ℕ) → HeldIf ((after w (Do c)).slot b t) (w.holds b (cover (after w (Do c)) t))
  do_held b t =
      moves_held (c.moves t) (cover w t) c.by b w.holds ((after w (Do c)).slot b t) (can.moves t) (λ m n. sym (g.apart c.by b (cover w t) m n))
      (at_slot (λ x. HeldIf x (w.holds b (cover w t))) b t
      (λ e. subst (λ x. HeldIf (changed (change_at c.changes t) c.op (w.slot c.by t)) (w.holds x (cover w t))) (sym e)
      (held_changed (change_at c.changes t) c.op (w.slot c.by t) (w.holds c.by (cover w t)) (can.owned t) (g.held c.by t)))
      (λ n. g.held b t))

  do_copies : (b t : ℕ) → IsCopy ((after w (Do c)).slot b t) (logical w.opening (Done c ∷ settled w.history) t)
  do_copies b t =
      at_slot (λ x. IsCopy x (logical w.opening (Done c ∷ settled w.history) t)) b t
      (λ e. copy_changed (change_at c.changes t) c.op (w.slot c.by t) (now_of w t) (g.copies c.by t))
      (λ n. copy_other (change_at c.changes t) (w.slot b t) (w.holds c.by (cover w t)) (w.holds b (cover w t)) (now_of w t) (can.owned t) (g.held b t) (λ m f. n (sym (g.apart c.by b (cover w t) m f))) (g.copies b t))

  do_ahead : (b t : ℕ) → IsAhead (put w.last c.by c.op b) t b (Done c ∷ settled w.history) ((after w (Do c)).slot b t)
  do_ahead b t =
      at_slot (λ x. IsAhead (put w.last c.by c.op b) t b (Done c ∷ settled w.history) x) b t
      (λ e. subst (λ x. IsAhead (put w.last c.by c.op x) t x (Done c ∷ settled w.history) (changed (change_at c.changes t) c.op (w.slot c.by t))) (sym e)
      (at_put (λ l. IsAhead l t c.by (Done c ∷ settled w.history) (changed (change_at c.changes t) c.op (w.slot c.by t))) w.last c.by c.op c.by
      (λ q. ahead_changed (change_at c.changes t) c (w.slot c.by t) (w.last c.by) t (settled w.history) refl can.number (g.ahead c.by t))
      (λ n. absurd (n refl))))
      (λ n. at_put (λ l. IsAhead l t b (Done c ∷ settled w.history) (w.slot b t)) w.last c.by c.op b
      (λ e. absurd (n e))
      (λ m. ahead_other (w.slot b t) (w.holds b (cover w t)) c b (w.last b) t (settled w.history) (g.held b t)
      (λ q i. n (g.apart b c.by (cover w t) q (sole_held (w.holds c.by (cover w t)) (owned_sole (change_at c.changes t) (w.holds c.by (cover w t)) (can.owned t) i))))
      (g.ahead b t)))

  -- a sector goes on to have its place in the history, whether it is the disk's or one in flight
  do_goes : (t : ℕ) (block : Block) → OnDisk w.opening w.durable t (Pending w t) block (settled w.history) → OnDisk w.opening w.durable t (Pending (after w (Do c)) t) block (Done c ∷ settled w.history)
  do_goes t block o =
      pending
      (λ i. record {
        sole = do_sole c.by t (owned_sole (change_at c.changes t) (w.holds c.by (cover w t)) (can.owned t) i);
        above = (let f : w.floor c.by ≤ w.last c.by = g.floored c.by in let n : w.last c.by < c.op = can.number in omega arith);
        covered = at_slot (λ x. Covers (w.phase c.by) x c.op) c.by t
            (λ e. rw can.up (covers_new (change_at c.changes t) c.op (w.slot c.by t) i (can.based t)))
            (λ n. absurd (n refl));
      })
      (on_disk_map w.opening w.durable w.durable t (Pending w t) (Pending (after w (Do c)) t) block (λ d. le_refl (w.durable d))
      (λ e i p. record {
        sole = do_sole e.by t p.sole;
        above = p.above;
        covered = at_slot (λ x. Covers (w.phase e.by) x e.op) e.by t
            (λ q. covers_old (change_at c.changes t) e.op c.op (w.last c.by) c.by t (settled w.history) (w.phase e.by) (w.slot c.by t) can.number (g.ahead c.by t)
            (subst (λ x. Covers (w.phase e.by) (w.slot x t) e.op) q p.covered))
            (λ n. p.covered);
      })
      (settled w.history) o)

  do_firm : (t : ℕ) → Each (λ e. Alters t e → w.durable e.by < e.op → w.holds e.by (cover (after w (Do c)) t) ≡ Some Sole) (Done c ∷ settled w.history)
  do_firm t = (
    (λ i n. ⊎_elim (λ x. do_sole c.by t (owned_sole (change_at c.changes t) (w.holds c.by (cover w t)) (can.owned t) x))
        (λ x. ⊎_elim (λ y. (moves_some (c.moves t) (w.holds c.by (cover w t)) (w.holds c.by) (cover w t) (can.moves t) y).1) (λ y. do_sole c.by t (can.written t y)) x) i),
    each_map (λ e. Alters t e → w.durable e.by < e.op → w.holds e.by (cover w t) ≡ Some Sole) (λ e. Alters t e → w.durable e.by < e.op → w.holds e.by (cover (after w (Do c)) t) ≡ Some Sole)
        (λ e m i n. do_sole e.by t (m i n)) (settled w.history) (g.firm t),
  )

  do_ops : Each (λ e. e.by ≡ c.by → e.op < c.op) (settled w.history)
  do_ops = each_map (λ e. e.op ≤ w.last e.by) (λ e. e.by ≡ c.by → e.op < c.op)
      (λ e m q. let a : w.last e.by ≡ w.last c.by = ap w.last q in let n : w.last c.by < c.op = can.number in omega arith) (settled w.history) g.below

  last_up : (d : ℕ) → w.last d ≤ put w.last c.by c.op d
  last_up d = at_put (λ x. w.last d ≤ x) w.last c.by c.op d
      (λ e. let a : w.last d ≡ w.last c.by = ap w.last e in let n : w.last c.by < c.op = can.number in omega arith) (λ n. omega arith)

  do_below : Each (λ e. e.op ≤ put w.last c.by c.op e.by) (Done c ∷ settled w.history)
  do_below = (
    at_put (λ x. c.op ≤ x) w.last c.by c.op c.by (λ e. omega arith) (λ n. absurd (n refl)),
    each_map (λ e. e.op ≤ w.last e.by) (λ e. e.op ≤ put w.last c.by c.op e.by) (λ e m. le_trans m (last_up e.by)) (settled w.history) g.below,
  )

  do_unseen : (d : ℕ) → c.by ≢ d → SawNone d (w.durable d) c (settled w.history)
  do_unseen d n t i =
      let held : w.holds c.by (cover w t) ≢ None =
      ⊎_elim (λ x. can.looked t x) (λ x. ⊎_elim (λ y. sole_held (w.holds c.by (cover w t)) (moves_some (c.moves t) (w.holds c.by (cover w t)) (w.holds c.by) (cover w t) (can.moves t) y).0)
      (λ y. reaches_held w c can t y) x) i in
      each_map (λ e. Alters t e → w.durable e.by < e.op → w.holds e.by (cover w t) ≡ Some Sole) (λ e. IsLost d (w.durable d) e → Alters t e → ⊥)
      (λ e f l x. let a : w.durable d < e.op = l.above in
      let b : w.durable e.by ≡ w.durable d = ap w.durable l.of in
      n (sym (g.apart e.by c.by (cover w t) (f x (omega arith)) held) ∙ l.of))
      (settled w.history) (g.firm t)

  do_named : (d t v : ℕ) → Named (to_replay w d) t v → Named (to_replay (after w (Do c)) d) t v
  do_named d t v n = at_put (λ x. Named (up_to (w.durable d) x) t v) w.log c.by (redo_of c ∷ w.log c.by) d
      (λ e. named_keep (nat_le c.op (w.durable d)) (redo_of c) (up_to (w.durable d) (w.log c.by)) t v (subst (λ x. Named (up_to (w.durable d) (w.log x)) t v) e n))
      (λ i. n)

  do_flight : (s : ℕ) (f : Flight) → w.flight s ≡ Some f → w.now ≤ f.stamp → FlightOk (after w (Do c)) s f
  do_flight s f e n =
      let q : FlightOk w s f = g.flights s f e n in
      record {
        place = do_goes s f.block q.place;
        higher = q.higher;
        lease = q.lease;
        sole = do_sole f.behalf s q.sole;
        named = do_named f.behalf s (version_of f.block) q.named;
        source = ⊎_elim (λ o. inl (record {
          same = o.same;
          agrees = at_slot (λ x. Agrees (w.phase f.by) x f.block) f.by s
              (λ i. agrees_changed (change_at c.changes s) c.op (w.phase f.by) (w.slot c.by s) f.block (can.based s)
              (subst (λ x. Agrees (w.phase f.by) (w.slot x s) f.block) i o.agrees))
              (λ i. o.agrees);
        })) (λ o. inr o) q.source;
      }

  do_rescue : (r : Rescue) → w.rescue ≡ Some r → RescueOk (after w (Do c)) r
  do_rescue r e =
      let q : RescueOk w r = g.rescued r e in
      record {
        dead = q.dead;
        taker = q.taker;
        ended = q.ended;
        alive = q.alive;
        until = q.until;
        told = λ s. at_put (λ x. ToldOk (r.told s) (w.disk s) (redo_all (up_to (w.durable r.dead) x) s (w.disk s))) w.log c.by (redo_of c ∷ w.log c.by) r.dead
            (λ i. let u = can.up in let v = q.dead in let z : w.phase r.dead ≡ w.phase c.by = ap w.phase i in absurd (cc)) (λ i. q.told s);
      }

  pub logged_do : Logged (after w (Do c))
  logged_do = record {
    logs = do_logs;
    apart = g.apart;
    known = g.known;
    leases = g.leases;
    ends = g.ends;
    begun = g.begun;
    off_free = g.off_free;
    rested = λ b e. at_put (λ x. x ≤ w.durable b) w.last c.by c.op b (λ i. let p : w.phase b ≡ Up = ap w.phase i ∙ can.up in absurd (cc)) (λ n. g.rested b e);
    not_up = λ b t. at_slot (λ x. AbsentUnlessUp (w.phase b) x) b t (λ e. up_only (w.phase b) (changed (change_at c.changes t) c.op (w.slot c.by t)) (ap w.phase e ∙ can.up)) (λ n. g.not_up b t);
    held = do_held;
    copies = do_copies;
    ahead = do_ahead;
    newer = λ b t k. at_slot (λ x. IsNewer (w.disk t) x) b t
        (λ e. newer_changed (change_at c.changes t) c.op (w.slot c.by t) (w.disk t) (now_of w t)
        (disk_version w.opening w.durable t (Pending w t) (w.disk t) (settled w.history) (g.place t) (g.rising t)) (g.copies c.by t) (can.based t) (g.newer c.by t (subst (λ x. w.sick x ≡ false) e k)))
        (λ n. g.newer b t k);
    place = λ t. do_goes t (w.disk t) (g.place t);
    firm = do_firm;
    locked = ((λ n l i. can.alone l i), g.locked);
    rising = λ t. (raises_based (change_at c.changes t) (w.slot c.by t) (now_of w t) (can.based t) (g.copies c.by t), g.rising t);
    ops = (do_ops, g.ops);
    below = do_below;
    reached = λ d. le_trans (g.reached d) (last_up d);
    acks = g.acks;
    floored = λ d. le_trans (g.floored d) (last_up d);
    unseen = λ d. (do_unseen d, g.unseen d);
    unmet = λ d. (
      (λ n l i. each_map (λ e. w.durable e.by < e.op → (k : LockId) → IsTrue (has_lock k e.alone) → w.holds e.by k ≡ Some Sole) (λ e. IsLost d (w.durable d) e → IsTrue (has_lock l e.alone) → ⊥)
          (λ e f x j. let a : w.durable d < e.op = x.above in let b : w.durable e.by ≡ w.durable d = ap w.durable x.of in
          n (sym (g.apart e.by c.by l (f (omega arith) l j) (can.used l i)) ∙ x.of)) (settled w.history) g.locked),
      g.unmet d,
    );
    unsynced = g.unsynced;
    was_kept = g.was_kept;
    flights = do_flight;
    rescued = do_rescue;
  }
