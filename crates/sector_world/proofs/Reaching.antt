-- What comes to the disk: parts of logs, and writes of sectors that were in flight.
use Rattle.std.proofs.Common.{IsTrue, le_trans, ℕ, ◌-◌, ◌<◌, ◌≤◌, ◌≡◌, ◌≢◌, inl, Option, Some, None, refl, sym, ◌∙◌, ap, subst, arith}
use Rattle.std.proofs.lemmas.Option.{same_Some}
use Rattle.frang_base.specs.declared.lock.LockId.{LockId}
use Rattle.frang_base.specs.declared.lock.Mode.{Mode}
use Rattle.frang_base.specs.declared.lock.Mode.TheVariants.{Sole}
use Rattle.sector_bytes.specs.Blocks.{Block, version_of}
use Rattle.sector_bytes.specs.Replays.{redo_all, up_to}
use Rattle.frang_base.specs.Locks.{has_lock}
use Rattle.frang_base.specs.Functions.{put}
use Rattle.sector_world.specs.Histories.{settled, own, Named}
use Rattle.sector_world.specs.OnDisk.{AllDurable, OnDisk}
use Rattle.sector_world.specs.OnDisk.OnDisk.{in_place}
use Rattle.sector_world.specs.Seen.{Alters, Unsynced}
use Rattle.frang_base.proofs.Basics.{at_put}
use Rattle.sector_world.proofs.HistoryLaws.{each_map, on_disk_map, all_durable}
use Rattle.sector_world.proofs.Removals.{last_named}
use Rattle.sector_world.proofs.More.{last_pending, named_more}
use Rattle.sector_world.proofs.Seen.{unseen_more, unmet_more, unsynced_more}
use Rattle.sector_world.specs.World.{World, Slot, Flight, cover}
use Rattle.sector_world.specs.World.Phase.{Up}
use Rattle.sector_world.specs.World.Slot.{Dirty}
use Rattle.sector_world.specs.Guards.{to_replay, CanReach, CanAck, CanSync, CanIssue}
use Rattle.sector_world.specs.Steps.{after}
use Rattle.sector_world.specs.Steps.Event.{Reach, Ack, Sync, Issue, Fade}
use Rattle.sector_world.specs.Logged.{now_of, IsCopy, Logged, IsNewer, Covers, Pending, HeldIf, IsAhead, FlightOk, ToldOk, RescueOk}

module _ (w : World) (d k : ℕ) (can : CanReach w d k) (g : Logged w) where
  reach_up : (e : ℕ) → w.durable e ≤ put w.durable d k e
  reach_up e = at_put (λ x. w.durable e ≤ x) w.durable d k e (λ q. let a : w.durable d ≤ k = can.more in let b : w.durable e ≡ w.durable d = ap w.durable q in omega arith) (λ n. omega arith)

  reach_goes : (s : ℕ) (block : Block) → OnDisk w.opening w.durable s (Pending w s) block (settled w.history) → OnDisk w.opening (put w.durable d k) s (Pending w s) block (settled w.history)
  reach_goes s block o = on_disk_map w.opening w.durable (put w.durable d k) s (Pending w s) (Pending w s) block reach_up (λ c i p. p) (settled w.history) o

  pub logged_reach : Logged (after w (Reach d k))
  logged_reach = record {
    logs = g.logs;
    apart = g.apart;
    known = g.known;
    leases = g.leases;
    ends = g.ends;
    begun = g.begun;
    off_free = g.off_free;
    rested = λ e i. le_trans (g.rested e i) (reach_up e);
    not_up = g.not_up;
    held = g.held;
    copies = g.copies;
    ahead = g.ahead;
    newer = g.newer;
    place = λ s. reach_goes s (w.disk s) (g.place s);
    locked = each_map (λ e. w.durable e.by < e.op → (l : LockId) → IsTrue (has_lock l e.alone) → w.holds e.by l ≡ Some Sole) (λ e. put w.durable d k e.by < e.op → (l : LockId) → IsTrue (has_lock l e.alone) → w.holds e.by l ≡ Some Sole)
        (λ e m n. let u : w.durable e.by ≤ put w.durable d k e.by = reach_up e.by in m (omega arith)) (settled w.history) g.locked;
    firm = λ s. each_map (λ e. Alters s e → w.durable e.by < e.op → w.holds e.by (cover w s) ≡ Some Sole) (λ e. Alters s e → put w.durable d k e.by < e.op → w.holds e.by (cover w s) ≡ Some Sole)
        (λ e m i n. let u : w.durable e.by ≤ put w.durable d k e.by = reach_up e.by in m i (omega arith)) (settled w.history) (g.firm s);
    rising = g.rising;
    ops = g.ops;
    below = g.below;
    reached = λ e. at_put (λ x. x ≤ w.last e) w.durable d k e (λ q. let a : k ≤ w.last d = can.there in let b : w.last e ≡ w.last d = ap w.last q in omega arith) (λ n. g.reached e);
    acks = λ e. le_trans (g.acks e) (reach_up e);
    floored = g.floored;
    unseen = λ e. unseen_more e (w.durable e) (put w.durable d k e) (reach_up e) (settled w.history) (g.unseen e);
    unmet = λ e. unmet_more e (w.durable e) (put w.durable d k e) (reach_up e) (settled w.history) (g.unmet e);
    unsynced = λ e. unsynced_more e (w.durable e) (put w.durable d k e) (reach_up e) w.history (g.unsynced e);
    was_kept = g.was_kept;
    flights = λ s f e n. let q : FlightOk w s f = g.flights s f e n in
        record {
          place = reach_goes s f.block q.place;
          higher = q.higher;
          lease = q.lease;
          sole = q.sole;
          source = q.source;
          named = named_more (w.log f.behalf) (w.durable f.behalf) (put w.durable d k f.behalf) s (version_of f.block) (reach_up f.behalf) q.named;
        };
    rescued = λ r e. let q : RescueOk w r = g.rescued r e in
        record {
          dead = q.dead;
          taker = q.taker;
          ended = q.ended;
          alive = q.alive;
          until = q.until;
          told = λ s. at_put (λ x. ToldOk (r.told s) (w.disk s) (redo_all (up_to x (w.log r.dead)) s (w.disk s))) w.durable d k r.dead
              (λ i. let u : w.now ≤ w.expiry d = can.lease in let v : w.expiry r.dead < w.now = q.ended in let x : w.expiry r.dead ≡ w.expiry d = ap w.expiry i in absurd (omega arith)) (λ i. q.told s);
        };
  }

pub logged_ack : (w : World) (a k : ℕ) → CanAck w a k → Logged w → Logged (after w (Ack a k))
logged_ack w a k can g = let acks : (d' : ℕ) → (after w (Ack a k)).acked d' ≤ (after w (Ack a k)).durable d' = λ e. at_put (λ x. x ≤ w.durable e) w.acked a k e (λ q. subst (λ x. k ≤ w.durable x) (sym q) can.there) (λ n. g.acks e) in
    search

pub logged_sync : (w : World) (a : ℕ) → CanSync w a → Logged w → Logged (after w (Sync a))
logged_sync w a can g = let unsynced : (d' : ℕ) → Unsynced d' ((after w (Sync a)).durable d') (after w (Sync a)).history = λ d. ((λ e. let u : w.last a ≤ w.acked a = can.acknowledged in let v : w.acked a ≤ w.durable a = g.acks a in subst (λ x. w.last a ≤ w.durable x) e (omega arith)), g.unsynced d) in
    search

pub sole_held : (m : Option Mode) → m ≡ Some Sole → m ≢ None
sole_held m e f = cc

covered_mark : (x : Slot) (block : Block) (mark op : ℕ) → x ≡ Dirty block mark → Covers Up x op → op ≤ mark
covered_mark x block mark op e c = subst (λ y. Covers Up y op) e c

-- what a flight may be, with a new one in it
pub at_flight : (w v : World) (s : ℕ) (f0 : Flight) → FlightOk v s f0 → ((t : ℕ) (f : Flight) → w.flight t ≡ Some f → v.now ≤ f.stamp → FlightOk v t f)
    → (t : ℕ) (f : Flight) → put w.flight s (Some f0) t ≡ Some f → v.now ≤ f.stamp → FlightOk v t f
at_flight w v s f0 q old t f =
    at_put (λ x. x ≡ Some f → v.now ≤ f.stamp → FlightOk v t f) w.flight s (Some f0) t
    (λ e i n. subst (λ x. FlightOk v t x) (same_Some f0 f i) (subst (λ x. FlightOk v x f0) (sym e) q))
    (λ n. old t f)

module _ (w : World) (a s : ℕ) (block : Block) (mark : ℕ) (can : CanIssue w a s block mark) (g : Logged w) where
  issue_sole : w.holds a (cover w s) ≡ Some Sole
  issue_sole = subst (λ x. HeldIf x (w.holds a (cover w s))) can.dirty (g.held a s)

  issue_now : block ≡ now_of w s
  issue_now = subst (λ x. IsCopy x (now_of w s)) can.dirty (g.copies a s)

  issue_ahead : IsAhead (w.last a) s a (settled w.history) (Dirty block mark)
  issue_ahead = subst (λ x. IsAhead (w.last a) s a (settled w.history) x) can.dirty (g.ahead a s)

  issue_newer : (version_of (w.disk s)) < (version_of block)
  issue_newer = subst (IsNewer (w.disk s)) can.dirty (g.newer a s can.well)

  issue_mark : mark ≤ w.durable a
  issue_mark = le_trans can.log_first (g.acks a)

  issue_durable : AllDurable w.durable s (settled w.history)
  issue_durable = all_durable w.opening w.durable s (Pending w s) (w.disk s)
      (λ c p. let e : c.by ≡ a = g.apart c.by a (cover w s) p.sole (sole_held (w.holds a (cover w s)) issue_sole) in
      let q : c.op ≤ mark = covered_mark (w.slot c.by s) block mark c.op (ap (λ x. w.slot x s) e ∙ can.dirty) (subst (λ x. Covers x (w.slot c.by s) c.op) (ap w.phase e ∙ can.up) p.covered) in
      let l : mark ≤ w.durable a = issue_mark in
      let r : w.durable c.by ≡ w.durable a = ap w.durable e in omega arith)
      (settled w.history) (g.place s)

  issue_named : Named (to_replay w a) s (version_of block)
  issue_named =
      let less : (version_of (w.disk s)) < (version_of (now_of w s)) = subst (λ x. (version_of (w.disk s)) < (version_of x)) issue_now issue_newer in
      let p = last_pending w.opening w.durable s a mark (Pending w s) (w.disk s) (settled w.history) issue_ahead.1 less (g.place s) in
      let fl : w.floor a < mark = subst (λ x. w.floor a < x) p.3 (subst (λ x. w.floor x < p.0.op) p.2 p.1.above) in
      subst (λ l. Named (up_to (w.durable a) l) s (version_of block)) (sym (g.logs a))
      (subst (λ x. Named (up_to (w.durable a) (own a (w.floor a) (settled w.history))) s (version_of x)) (sym issue_now)
      (last_named w.opening s a mark (w.floor a) (w.durable a) fl issue_mark (settled w.history) issue_ahead.1))

  issue_flight : FlightOk (after w (Issue a s block mark)) s (record { by = a; behalf = a; stamp = w.expiry a - 15; block = block })
  issue_flight = record {
    place = in_place issue_now issue_durable;
    higher = issue_newer;
    lease = omega arith;
    sole = issue_sole;
    named = issue_named;
    source = inl (record { same = refl; agrees = rw (can.up, can.dirty) (inl refl) });
  }

  pub logged_issue : Logged (after w (Issue a s block mark))
  logged_issue = let flights : (s' : ℕ) (f' : Flight) → (after w (Issue a s block mark)).flight s' ≡ Some f' → (after w (Issue a s block mark)).now ≤ f'.stamp → FlightOk (after w (Issue a s block mark)) s' f' = at_flight w (after w (Issue a s block mark)) s (record { by = a; behalf = a; stamp = w.expiry a - 15; block = block }) issue_flight g.flights in
      search

pub logged_fade : (w : World) (s : ℕ) (f : Flight) → Logged w → Logged (after w (Fade s f))
logged_fade w s f g = let flights : (s' : ℕ) (f' : Flight) → (after w (Fade s f)).flight s' ≡ Some f' → (after w (Fade s f)).now ≤ f'.stamp → FlightOk (after w (Fade s f)) s' f' = λ t h. at_put (λ x. x ≡ Some h → w.now ≤ h.stamp → FlightOk w t h) w.flight s None t (λ e i n. absurd (cc)) (λ n. g.flights t h) in
    search
