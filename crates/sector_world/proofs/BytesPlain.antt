-- The plain events leave what holds of file bytes.
use Rattle.std.proofs.Common.{List, Bool, if◌then◌else◌, le_refl, le_trans, ℕ, ◌+◌, ◌≤◌, ◌≡◌, ◌≢◌, Option, Some, None, nat_eq, refl, sym, ◌∙◌, ap, subst, arith}
use Rattle.frang_base.specs.declared.lock.LockId.{LockId}
use Rattle.frang_base.specs.declared.lock.Mode.{Mode}
use Rattle.frang_base.specs.declared.lock.Mode.TheVariants.{Sole}
use Rattle.sector_bytes.specs.Blocks.{Block}
use Rattle.frang_base.specs.Functions.{put, put_lock}
use Rattle.sector_world.specs.Histories.{Commit, Item, in_doubt, synced_of, settled}
use Rattle.sector_world.specs.HistoryBytes.{is_free, OnData}
use Rattle.frang_base.proofs.Basics.{by_test, at_put, put_other, at_lock}
use Rattle.sector_world.proofs.Bytes.{data_map}
use Rattle.sector_world.specs.World.{World, Phase, Page, ByteFlight, cover}
use Rattle.sector_world.specs.World.Phase.{Off, Up, Dead}
use Rattle.sector_world.specs.World.Page.{NoPage, CleanPage, DirtyPage, FreedPage}
use Rattle.sector_world.specs.Guards.{CanRenew, CanMount, CanUnmount, CanTake, CanReach}
use Rattle.sector_world.specs.Steps.{after}
use Rattle.sector_world.specs.Steps.Event.{Tick, Renew, Mount, Unmount, Take, Reach, Crash, FadeBytes, BreakBytes}
use Rattle.sector_world.specs.Logged.{Logged, NoneIfOff}
use Rattle.sector_world.specs.Bytes.{IsLoose, CoversPage, PendingBytes, PageHeld, PageUnlessUp, IsCopyPage, IsDiskPage, IsMarked, ByteFlightOk, Bytes}
use Rattle.sector_world.proofs.Leases.{longer}

pub bytes_tick : (w : World) → Bytes w → Bytes (after w Tick)
bytes_tick w g =
    let flights : (s : ℕ) (f : ByteFlight) → w.byte_flight s ≡ Some f → w.now + 1 ≤ f.stamp → ByteFlightOk w s f = λ s f e n. g.flights s f e (omega arith) in
    search

pub bytes_renew : (w : World) (a : ℕ) → CanRenew w a → Bytes w → Bytes (after w (Renew a))
bytes_renew w a can g =
    let flights : (s : ℕ) (f : ByteFlight) → w.byte_flight s ≡ Some f → w.now ≤ f.stamp → ByteFlightOk (after w (Renew a)) s f = λ s f e n.
    let q : ByteFlightOk w s f = g.flights s f e n in
    record { place = q.place; sole = q.sole; lease = le_trans q.lease (longer w a can.later f.by); loose = q.loose } in
    search

-- who is off holds no lock alone
pub off_none : (p : Phase) (m : Option Mode) → p ≡ Off → NoneIfOff p m → m ≡ Some Sole → ⊥
off_none Off m e n s = cc
off_none Up m e n s = cc
off_none Dead m e n s = cc

pub bytes_mount : (w : World) (a : ℕ) → CanMount w a → Logged w → Bytes w → Bytes (after w (Mount a))
bytes_mount w a can l g =
    let sole : (b s : ℕ) → w.holds b (cover w s) ≡ Some Sole → b ≢ a = λ b s h e. off_none (w.phase b) (w.holds b (cover w s)) (ap w.phase e ∙ can.off) (l.off_free b (cover w s)) h in
    let same : (b : ℕ) → b ≢ a → put w.synced a (w.last a) b ≡ w.synced b = λ b n. put_other w.synced a (w.last a) b n in
    let pend : (s : ℕ) (c : Commit) (h : List Item) → PendingBytes w s c h → PendingBytes (after w (Mount a)) s c h = λ s c h p.
    let n : c.by ≢ a = sole c.by s p.sole in
    let q : put w.phase a Up c.by ≡ w.phase c.by = put_other w.phase a Up c.by n in
    record { sole = p.sole; loose = rw q p.loose; wrote = λ i. (rw (same c.by n) (p.wrote i).0, rw q (p.wrote i).1); read = λ i. rw (same c.by n) (p.read i) } in
    let goes : (s : ℕ) (v : Block) → OnData w.first w.durable s (PendingBytes w s) v (settled w.history) → OnData w.first w.durable s (PendingBytes (after w (Mount a)) s) v (settled w.history) = λ s v o.
    data_map w.first w.durable w.durable s (PendingBytes w s) (PendingBytes (after w (Mount a)) s) v (λ d. le_refl (w.durable d)) (λ c h t p. pend s c h p) (settled w.history) o in
    record {
      not_up = λ b s. at_put (λ p. PageUnlessUp p (w.page b s)) w.phase a Up b (λ e. tt) (λ n. g.not_up b s);
      held = g.held;
      copies = g.copies;
      clean = g.clean;
      dirtied = λ b s. at_put (λ n. IsMarked (w.page b s) (w.last b) (in_doubt b n (settled w.history) s) (is_free w.first (settled w.history) s)) w.synced a (w.last a) b
          (λ e. off_marked (w.phase b) (w.page b s) (w.last b) (in_doubt b (w.last a) (settled w.history) s) (is_free w.first (settled w.history) s) (ap w.phase e ∙ can.off) (g.not_up b s)) (λ n. g.dirtied b s);
      knows = g.knows;
      still = λ s fr f. g.still s fr (λ b h z. f b h (rw (put_other w.phase a Up b (sole b s h)) z));
      place = λ s. goes s (w.bytes s) (g.place s);
      synced = λ d. at_put (λ x. x ≤ w.last d) w.synced a (w.last a) d (λ e. subst (λ x. w.last a ≤ w.last x) (sym e) (le_refl (w.last a))) (λ n. g.synced d);
      counted = λ d. counted_by w a d (g.counted d);
      flights = λ s f e n. let q : ByteFlightOk w s f = g.flights s f e n in
          let ne : f.by ≢ a = sole f.by s q.sole in
          record { place = goes s f.block q.place; sole = q.sole; lease = rw (put_other w.expiry a (w.now + 30) f.by ne) q.lease; loose = rw (put_other w.phase a Up f.by ne) q.loose };
      live = g.live;
      by_plan = g.by_plan;
    }
  where
    off_marked : (p : Phase) (x : Page) (last : ℕ) (doubt free : Bool) → p ≡ Off → PageUnlessUp p x → IsMarked x last doubt free
    off_marked Off x last doubt free e n = subst (λ y. IsMarked y last doubt free) (sym n) tt
    off_marked Up x last doubt free e n = cc
    off_marked Dead x last doubt free e n = cc

    counted_by : (w : World) (a d : ℕ) → w.synced d ≡ synced_of d w.history → put w.synced a (w.last a) d ≡ (if nat_eq d a then w.last a else synced_of d w.history)
    counted_by w a d e = by_test (λ x. x ≡ (if nat_eq d a then w.last a else synced_of d w.history)) (w.last a) (w.synced d) (nat_eq d a) (λ i. rw i) (λ i. rw (i, e))

pub bytes_unmount : (w : World) (a : ℕ) → CanUnmount w a → Bytes w → Bytes (after w (Unmount a))
bytes_unmount w a can g =
    let sole : (b s : ℕ) → w.holds b (cover w s) ≡ Some Sole → b ≢ a = λ b s h e. let m : w.holds b (cover w s) ≡ None = ap (λ x. w.holds x (cover w s)) e ∙ can.given (cover w s) in cc in
    let same : (b : ℕ) → b ≢ a → put w.synced a (w.last a) b ≡ w.synced b = λ b n. put_other w.synced a (w.last a) b n in
    let none : (b s : ℕ) → b ≡ a → w.page b s ≡ NoPage = λ b s e. free_page (w.page b s) (w.holds b (cover w s)) (ap (λ x. w.holds x (cover w s)) e ∙ can.given (cover w s)) (g.held b s) in
    let pend : (s : ℕ) (c : Commit) (h : List Item) → PendingBytes w s c h → PendingBytes (after w (Unmount a)) s c h = λ s c h p.
    let n : c.by ≢ a = sole c.by s p.sole in
    let q : put w.phase a Off c.by ≡ w.phase c.by = put_other w.phase a Off c.by n in
    record { sole = p.sole; loose = rw q p.loose; wrote = λ i. (rw (same c.by n) (p.wrote i).0, rw q (p.wrote i).1); read = λ i. rw (same c.by n) (p.read i) } in
    let goes : (s : ℕ) (v : Block) → OnData w.first w.durable s (PendingBytes w s) v (settled w.history) → OnData w.first w.durable s (PendingBytes (after w (Unmount a)) s) v (settled w.history) = λ s v o.
    data_map w.first w.durable w.durable s (PendingBytes w s) (PendingBytes (after w (Unmount a)) s) v (λ d. le_refl (w.durable d)) (λ c h t p. pend s c h p) (settled w.history) o in
    record {
      not_up = λ b s. at_put (λ p. PageUnlessUp p (w.page b s)) w.phase a Off b (λ e. none b s e) (λ n. g.not_up b s);
      held = g.held;
      copies = g.copies;
      clean = g.clean;
      dirtied = λ b s. at_put (λ n. IsMarked (w.page b s) (w.last b) (in_doubt b n (settled w.history) s) (is_free w.first (settled w.history) s)) w.synced a (w.last a) b
          (λ e. subst (λ x. IsMarked x (w.last b) (in_doubt b (w.last a) (settled w.history) s) (is_free w.first (settled w.history) s)) (sym (none b s e)) tt) (λ n. g.dirtied b s);
      knows = g.knows;
      still = λ s fr f. g.still s fr (λ b h z. f b h (rw (put_other w.phase a Off b (sole b s h)) z));
      place = λ s. goes s (w.bytes s) (g.place s);
      synced = λ d. at_put (λ x. x ≤ w.last d) w.synced a (w.last a) d (λ e. subst (λ x. w.last a ≤ w.last x) (sym e) (le_refl (w.last a))) (λ n. g.synced d);
      counted = λ d. counted_by w a d (g.counted d);
      flights = λ s f e n. let q : ByteFlightOk w s f = g.flights s f e n in
          let ne : f.by ≢ a = sole f.by s q.sole in
          record { place = goes s f.block q.place; sole = q.sole; lease = q.lease; loose = rw (put_other w.phase a Off f.by ne) q.loose };
      live = g.live;
      by_plan = g.by_plan;
    }
  where
    free_page : (x : Page) (m : Option Mode) → m ≡ None → PageHeld x m → x ≡ NoPage
    free_page NoPage m e h = refl
    free_page (CleanPage b) m e h = absurd (h e)
    free_page (DirtyPage b k) m e h = cc
    free_page (FreedPage k) m e h = cc

    counted_by : (w : World) (a d : ℕ) → w.synced d ≡ synced_of d w.history → put w.synced a (w.last a) d ≡ (if nat_eq d a then w.last a else synced_of d w.history)
    counted_by w a d e = by_test (λ x. x ≡ (if nat_eq d a then w.last a else synced_of d w.history)) (w.last a) (w.synced d) (nat_eq d a) (λ i. rw i) (λ i. rw (i, e))

pub bytes_take : (w : World) (a : ℕ) (l : LockId) (mode : Mode) → CanTake w a l mode → Bytes w → Bytes (after w (Take a l mode))
bytes_take w a l mode can g =
    let sole : (b : ℕ) (k : LockId) → w.holds b k ≡ Some Sole → put_lock w.holds a l (Some mode) b k ≡ Some Sole = λ b k h.
    at_lock (λ m. m ≡ Some Sole) w.holds a l (Some mode) b k (λ e f. absurd (can.more (cc))) (λ o. h) in
    let goes : (t : ℕ) (v : Block) → OnData w.first w.durable t (PendingBytes w t) v (settled w.history) → OnData w.first w.durable t (PendingBytes (after w (Take a l mode)) t) v (settled w.history) = λ t v o.
    data_map w.first w.durable w.durable t (PendingBytes w t) (PendingBytes (after w (Take a l mode)) t) v (λ d. le_refl (w.durable d))
    (λ c h i p. record { sole = sole c.by (cover w t) p.sole; loose = p.loose; wrote = p.wrote; read = p.read }) (settled w.history) o in
    record {
      not_up = g.not_up;
      held = λ b t. at_lock (λ m. PageHeld (w.page b t) m) w.holds a l (Some mode) b (cover w t)
          (λ e f. let was : w.holds b (cover w t) ≢ Some Sole = λ q. can.more (cc) in held_more (w.page b t) (w.holds b (cover w t)) was (g.held b t)) (λ o. g.held b t);
      copies = g.copies;
      clean = g.clean;
      dirtied = g.dirtied;
      knows = g.knows;
      still = λ t fr f. g.still t fr (λ b h z. f b (sole b (cover w t) h) z);
      place = λ t. goes t (w.bytes t) (g.place t);
      synced = g.synced;
      counted = g.counted;
      flights = λ t f e n. let q : ByteFlightOk w t f = g.flights t f e n in
          record { place = goes t f.block q.place; sole = sole f.by (cover w t) q.sole; lease = q.lease; loose = q.loose };
      live = g.live;
      by_plan = g.by_plan;
    }
  where
    held_more : (x : Page) (old : Option Mode) → old ≢ Some Sole → PageHeld x old → PageHeld x (Some mode)
    held_more NoPage old n h = tt
    held_more (CleanPage b) old n h = λ e. cc
    held_more (DirtyPage b k) old n h = absurd (n h)
    held_more (FreedPage k) old n h = absurd (n h)

pub bytes_reach : (w : World) (d k : ℕ) → CanReach w d k → Bytes w → Bytes (after w (Reach d k))
bytes_reach w d k can g =
    let up : (e : ℕ) → w.durable e ≤ put w.durable d k e = λ e. at_put (λ x. w.durable e ≤ x) w.durable d k e (λ q. let a : w.durable d ≤ k = can.more in let b : w.durable e ≡ w.durable d = ap w.durable q in omega arith) (λ n. omega arith) in
    let goes : (t : ℕ) (v : Block) → OnData w.first w.durable t (PendingBytes w t) v (settled w.history) → OnData w.first (put w.durable d k) t (PendingBytes w t) v (settled w.history) = λ t v o.
    data_map w.first w.durable (put w.durable d k) t (PendingBytes w t) (PendingBytes w t) v up (λ c h i p. p) (settled w.history) o in
    record {
      not_up = g.not_up;
      held = g.held;
      copies = g.copies;
      clean = g.clean;
      dirtied = g.dirtied;
      knows = g.knows;
      still = g.still;
      place = λ t. goes t (w.bytes t) (g.place t);
      synced = g.synced;
      counted = g.counted;
      flights = λ t f e n. let q : ByteFlightOk w t f = g.flights t f e n in record { place = goes t f.block q.place; sole = q.sole; lease = q.lease; loose = q.loose };
      live = g.live;
      by_plan = g.by_plan;
    }

pub bytes_fade : (w : World) (s : ℕ) (f : ByteFlight) → Bytes w → Bytes (after w (FadeBytes s f))
bytes_fade w s f g =
    let flights : (t : ℕ) (k : ByteFlight) → put w.byte_flight s None t ≡ Some k → w.now ≤ k.stamp → ByteFlightOk w t k = λ t k.
    at_put (λ x. x ≡ Some k → w.now ≤ k.stamp → ByteFlightOk w t k) w.byte_flight s None t (λ e i n. absurd (cc)) (λ n. g.flights t k) in
    search

pub bytes_break : (w : World) (s : ℕ) (f : ByteFlight) → Bytes w → Bytes (after w (BreakBytes s f))
bytes_break w s f g = bytes_fade w s f g

pub bytes_crash : (w : World) (a : ℕ) → w.phase a ≡ Up → Bytes w → Bytes (after w (Crash a))
bytes_crash w a up g =
    let loose : (b t : ℕ) → IsLoose (w.phase b) (w.page b t) → IsLoose (put w.phase a Dead b) (put w.page a (λ s. NoPage) b t) = λ b t l.
    at_put (λ x. IsLoose x (put w.page a (λ s. NoPage) b t)) w.phase a Dead b (λ e. tt) (λ n. rw (put_other w.page a (λ s. NoPage) b n) l) in
    let pend : (t : ℕ) (c : Commit) (h : List Item) → PendingBytes w t c h → PendingBytes (after w (Crash a)) t c h = λ t c h p. record {
      sole = p.sole;
      read = p.read;
      loose = loose c.by t p.loose;
      wrote = λ i. ((p.wrote i).0, at_put (λ x. CoversPage x (put w.page a (λ s. NoPage) c.by t) c.op) w.phase a Dead c.by (λ e. tt) (λ n. rw (put_other w.page a (λ s. NoPage) c.by n) (p.wrote i).1));
    } in
    let goes : (t : ℕ) (v : Block) → OnData w.first w.durable t (PendingBytes w t) v (settled w.history) → OnData w.first w.durable t (PendingBytes (after w (Crash a)) t) v (settled w.history) = λ t v o.
    data_map w.first w.durable w.durable t (PendingBytes w t) (PendingBytes (after w (Crash a)) t) v (λ d. le_refl (w.durable d)) (λ c h i p. pend t c h p) (settled w.history) o in
    record {
      not_up = λ b t. at_put (λ p. PageUnlessUp p (put w.page a (λ s. NoPage) b t)) w.phase a Dead b
          (λ e. at_put (λ f. f t ≡ NoPage) w.page a (λ s. NoPage) b (λ e. refl) (λ n. absurd (n e)))
          (λ n. at_put (λ f. PageUnlessUp (w.phase b) (f t)) w.page a (λ s. NoPage) b (λ e. absurd (n e)) (λ n. g.not_up b t));
      held = λ b t. at_put (λ f. PageHeld (f t) (w.holds b (cover w t))) w.page a (λ s. NoPage) b (λ e. tt) (λ n. g.held b t);
      copies = λ b t. at_put (λ f. IsCopyPage (f t) (w.truth t)) w.page a (λ s. NoPage) b (λ e. tt) (λ n. g.copies b t);
      clean = λ b t. at_put (λ f. IsDiskPage (f t) (w.bytes t)) w.page a (λ s. NoPage) b (λ e. tt) (λ n. g.clean b t);
      dirtied = λ b t. at_put (λ f. IsMarked (f t) (w.last b) (in_doubt b (w.synced b) (settled w.history) t) (is_free w.first (settled w.history) t)) w.page a (λ s. NoPage) b (λ e. tt) (λ n. g.dirtied b t);
      knows = g.knows;
      still = λ t fr f. g.still t fr (λ b h l. f b h (loose b t l));
      place = λ t. goes t (w.bytes t) (g.place t);
      synced = g.synced;
      counted = g.counted;
      flights = λ t f e n. let q : ByteFlightOk w t f = g.flights t f e n in record { place = goes t f.block q.place; sole = q.sole; lease = q.lease; loose = loose f.by t q.loose };
      live = g.live;
      by_plan = g.by_plan;
    }
