-- Locks that are given or lowered, syncs, fetches and cleared sectors keep what holds of file bytes.
use Rattle.std.proofs.Common.{true, List, Bool, if◌then◌else◌, ⊎_elim, le_refl, le_trans, ℕ, ◌<◌, ◌≤◌, ◌≡◌, ◌≢◌, ◌⊎◌, inl, inr, Option, Some, None, nat_eq, refl, sym, ◌∙◌, ap, subst, arith}
use Rattle.frang_base.specs.declared.lock.LockId.{LockId}
use Rattle.frang_base.specs.declared.lock.Mode.{Mode}
use Rattle.frang_base.specs.declared.lock.Mode.TheVariants.{Shared, Sole}
use Rattle.sector_bytes.specs.Blocks.{Block}
use Rattle.frang_base.specs.Locks.{same_lock}
use Rattle.frang_base.specs.Functions.{put, put_lock}
use Rattle.sector_world.specs.Histories.{Commit, Item, in_doubt, synced_of, settled, Writes}
use Rattle.sector_world.specs.HistoryBytes.{is_free, AllWritten, OnData}
use Rattle.sector_world.specs.HistoryBytes.OnData.{here}
use Rattle.sector_world.specs.Seen.{Alters}
use Rattle.frang_base.proofs.Basics.{by_test, le_or_lt, true_or, lock_of, lock_same, lock_not, at_put, put_other, at_lock}
use Rattle.sector_world.proofs.HistoryLaws.{each_map2}
use Rattle.sector_world.proofs.Bytes.{data_map}
use Rattle.sector_world.specs.World.{World, Phase, Page, cover}
use Rattle.sector_world.specs.World.Phase.{Off, Up, Dead}
use Rattle.sector_world.specs.World.Page.{NoPage, CleanPage, DirtyPage, FreedPage}
use Rattle.sector_world.specs.Guards.{NoDirtyPage, DirtyIfFree, CanGive, CanLower, CanSync}
use Rattle.sector_world.specs.Steps.{after, page_lowered}
use Rattle.sector_world.specs.Steps.Event.{Give, Lower, Sync}
use Rattle.sector_world.specs.Logged.{Logged}
use Rattle.sector_world.specs.Bytes.{IsLoose, CoversPage, PendingBytes, PageHeld, PageUnlessUp, IsCopyPage, IsDiskPage, IsMarked, ByteFlightOk, Bytes}
use Rattle.sector_world.proofs.Reaching.{sole_held}

-- each write of a sector that a server holds alone is durable, where its whole log is
pub all_low : (w : World) → Logged w → (a t : ℕ) → w.holds a (cover w t) ≡ Some Sole → w.last a ≤ w.durable a → AllWritten w.durable t (settled w.history)
all_low w l a t sole low =
    each_map2 (λ e. Alters t e → w.durable e.by < e.op → w.holds e.by (cover w t) ≡ Some Sole) (λ e. e.op ≤ w.last e.by) (λ e. Writes t e → e.op ≤ w.durable e.by)
    (λ e m b i. ⊎_elim (λ x. x)
    (λ x. let q : e.by ≡ a = l.apart e.by a (cover w t) (m (inr (inr i)) x) (sole_held (w.holds a (cover w t)) sole) in
    let y : w.last e.by ≡ w.last a = ap w.last q in let z : w.durable e.by ≡ w.durable a = ap w.durable q in absurd (omega arith))
    (le_or_lt e.op (w.durable e.by)))
    (settled w.history) (l.firm t) l.below

-- so a free one has its place, whatever is pending
pub free_here : (w : World) → Logged w → (a t : ℕ) → w.holds a (cover w t) ≡ Some Sole → w.last a ≤ w.durable a → is_free w.first (settled w.history) t ≡ true
    → (Q : Commit → List Item → Type 0) (v : Block) → OnData w.first w.durable t Q v (settled w.history)
free_here w l a t sole low free Q v = here (λ u fr e. absurd (cc)) (all_low w l a t sole low)

-- a page that isn't dirty, or is of a free sector, isn't loose or its sector is free
page_or : (x : Page) (mode : Option Mode) (last : ℕ) (doubt free : Bool) → DirtyIfFree x free → PageHeld x mode → IsMarked x last doubt free
    → (IsLoose Up x → ⊥) ⊎ ((free ≡ true) × (mode ≡ Some Sole))
page_or NoPage mode last doubt free d h m = inl (λ l. l)
page_or (CleanPage b) mode last doubt free d h m = inl (λ l. l)
page_or (DirtyPage b k) mode last doubt free d h m = inr (d, h)
page_or (FreedPage k) mode last doubt free d h m = inr (m.1, h)

not_dirty_if : (x : Page) (free : Bool) → NoDirtyPage x → DirtyIfFree x free
not_dirty_if NoPage free n = tt
not_dirty_if (CleanPage b) free n = tt
not_dirty_if (DirtyPage b k) free n = absurd n
not_dirty_if (FreedPage k) free n = tt

absent_ok : (p : Phase) → PageUnlessUp p NoPage
absent_ok Off = refl
absent_ok Up = tt
absent_ok Dead = refl

-- what becomes of the pages under a lock that is given or lowered to this
abbrev pub IsLowering : Option Mode → (Page → Page) → Type 0
IsLowering mode new = (x : Page) → NoDirtyPage x → record {
  held : (old : Option Mode) → PageHeld x old → PageHeld (new x) mode;
  copies : (v : Block) → IsCopyPage x v → IsCopyPage (new x) v;
  clean : (v : Block) → IsDiskPage x v → IsDiskPage (new x) v;
  dirtied : (last : ℕ) (doubt free : Bool) → IsMarked (new x) last doubt free;
  not_up : (p : Phase) → PageUnlessUp p x → PageUnlessUp p (new x);
}

given : IsLowering None (λ x. NoPage)
given x n = record { held = λ old h. tt; copies = λ v c. tt; clean = λ v c. tt; dirtied = λ last doubt free. tt; not_up = λ p c. absent_ok p }

lowered : IsLowering (Some Shared) page_lowered
lowered NoPage n = record { held = λ old h. tt; copies = λ v c. tt; clean = λ v c. tt; dirtied = λ last doubt free. tt; not_up = λ p c. c }
lowered (CleanPage b) n = record { held = λ old h. λ e. cc; copies = λ v c. c; clean = λ v c. c; dirtied = λ last doubt free. tt; not_up = λ p c. c }
lowered (DirtyPage b k) n = absurd n
lowered (FreedPage k) n = record { held = λ old h. tt; copies = λ v c. tt; clean = λ v c. tt; dirtied = λ last doubt free. tt; not_up = λ p c. absent_ok p }

module _ (w : World) (a : ℕ) (l : LockId) (can : CanGive w a l) (k : Logged w) (g : Bytes w) (mode : Option Mode) (new : Page → Page) (law : IsLowering mode new) where
  abbrev next : World
  next = record w { holds = put_lock w.holds a l mode; page = put w.page a (λ s. if same_lock (cover w s) l then new (w.page a s) else w.page a s) }

  -- a fact of a page after the lock is given
  at_page : (P : Page → Type 0) (b s : ℕ) → (b ≡ a → cover w s ≡ l → P (new (w.page a s))) → ((b ≡ a → cover w s ≢ l) → P (w.page b s)) → P (next.page b s)
  at_page P b s same other =
      at_put (λ f. P (f s)) w.page a (λ t. if same_lock (cover w t) l then new (w.page a t) else w.page a t) b
      (λ e. by_test P (new (w.page a s)) (w.page a s) (same_lock (cover w s) l)
      (λ i. same e (lock_of (cover w s) l i))
      (λ i. subst (λ x. P (w.page x s)) e (other (λ j. lock_not (cover w s) l i))))
      (λ n. other (λ e. absurd (n e)))

  sole : (b : ℕ) (t : LockId) → (b ≡ a → t ≢ l) → w.holds b t ≡ Some Sole → put_lock w.holds a l mode b t ≡ Some Sole
  sole b t n h = at_lock (λ m. m ≡ Some Sole) w.holds a l mode b t (λ e f. absurd (n e f)) (λ o. h)

  -- a loose page under the lock is of a free sector, and the whole log is durable
  tight : (b t : ℕ) → b ≡ a → cover w t ≡ l → (IsLoose (w.phase b) (w.page b t) → ⊥) ⊎ ((is_free w.first (settled w.history) t ≡ true) × (w.holds a (cover w t) ≡ Some Sole) × (w.last a ≤ w.durable a))
  tight b t e f =
      ⊎_elim
      (λ n. inl (λ z. n (subst (λ x. IsLoose x (w.page a t)) (ap w.phase e ∙ can.up) (subst (λ x. IsLoose (w.phase b) (w.page x t)) e z))))
      (λ q. inr (q.0, q.1, le_trans (can.logged (subst (λ x. w.holds a x ≡ Some Sole) f q.1)) (k.acks a)))
      (page_or (w.page a t) (w.holds a (cover w t)) (w.last a) (in_doubt a (w.synced a) (settled w.history) t) (is_free w.first (settled w.history) t)
      (not_dirty_if (w.page a t) (is_free w.first (settled w.history) t) (can.clean_bytes t f)) (g.held a t) (g.dirtied a t))

  pend : (t : ℕ) (c : Commit) (h : List Item) → (c.by ≡ a → cover w t ≢ l) → PendingBytes w t c h → PendingBytes next t c h
  pend t c h n p = record {
    sole = sole c.by (cover w t) n p.sole;
    loose = at_page (λ x. IsLoose (w.phase c.by) x) c.by t (λ e f. absurd (n e f)) (λ o. p.loose);
    wrote = λ i. ((p.wrote i).0, at_page (λ x. CoversPage (w.phase c.by) x c.op) c.by t (λ e f. absurd (n e f)) (λ o. (p.wrote i).1));
    read = p.read;
  }

  goes : (t : ℕ) (v : Block) → OnData w.first w.durable t (PendingBytes w t) v (settled w.history) → OnData w.first w.durable t (PendingBytes next t) v (settled w.history)
  goes t v o =
      ⊎_elim
      (λ i. let f : cover w t ≡ l = lock_of (cover w t) l i in
      ⊎_elim
      (λ n. data_map w.first w.durable w.durable t (PendingBytes w t) (PendingBytes next t) v (λ d. le_refl (w.durable d))
      (λ c h x p. pend t c h (λ e. absurd (n (subst (λ y. IsLoose (w.phase y) (w.page y t)) e p.loose))) p) (settled w.history) o)
      (λ q. free_here w k a t q.1 q.2 q.0 (PendingBytes next t) v)
      (tight a t refl f))
      (λ i. data_map w.first w.durable w.durable t (PendingBytes w t) (PendingBytes next t) v (λ d. le_refl (w.durable d))
      (λ c h x p. pend t c h (λ e f. i (subst (λ y. same_lock y l ≡ true) (sym f) (lock_same l))) p) (settled w.history) o)
      (true_or (same_lock (cover w t) l))

  bytes_lowered : Bytes next
  bytes_lowered = record {
    not_up = λ b t. at_page (λ x. PageUnlessUp (w.phase b) x) b t (λ e f. (law (w.page a t) (can.clean_bytes t f)).not_up (w.phase b) (subst (λ x. PageUnlessUp (w.phase b) (w.page x t)) e (g.not_up b t))) (λ n. g.not_up b t);
    held = λ b t. at_page (λ x. PageHeld x (put_lock w.holds a l mode b (cover w t))) b t
        (λ e f. at_lock (λ m. PageHeld (new (w.page a t)) m) w.holds a l mode b (cover w t) (λ i j. (law (w.page a t) (can.clean_bytes t f)).held (w.holds a (cover w t)) (g.held a t)) (λ n. absurd (n e f)))
        (λ n. at_lock (λ m. PageHeld (w.page b t) m) w.holds a l mode b (cover w t) (λ e f. absurd (n e f)) (λ i. g.held b t));
    copies = λ b t. at_page (λ x. IsCopyPage x (w.truth t)) b t (λ e f. (law (w.page a t) (can.clean_bytes t f)).copies (w.truth t) (g.copies a t)) (λ n. g.copies b t);
    clean = λ b t. at_page (λ x. IsDiskPage x (w.bytes t)) b t (λ e f. (law (w.page a t) (can.clean_bytes t f)).clean (w.bytes t) (g.clean a t)) (λ n. g.clean b t);
    dirtied = λ b t. at_page (λ x. IsMarked x (w.last b) (in_doubt b (w.synced b) (settled w.history) t) (is_free w.first (settled w.history) t)) b t
        (λ e f. (law (w.page a t) (can.clean_bytes t f)).dirtied (w.last b) (in_doubt b (w.synced b) (settled w.history) t) (is_free w.first (settled w.history) t)) (λ n. g.dirtied b t);
    knows = g.knows;
    still = λ t fr f. g.still t fr (λ b h z.
        let n : b ≡ a → cover w t ≢ l = λ e i. ⊎_elim (λ x. x z) (λ x. absurd (cc)) (tight b t e i) in
        f b (sole b (cover w t) n h) (at_page (λ x. IsLoose (w.phase b) x) b t (λ e i. absurd (n e i)) (λ o. z)));
    place = λ t. goes t (w.bytes t) (g.place t);
    synced = g.synced;
    counted = g.counted;
    flights = λ t f e z. let q : ByteFlightOk w t f = g.flights t f e z in
        let n : f.by ≡ a → cover w t ≢ l = λ i j. can.landed_bytes t f j e z i in
        record { place = goes t f.block q.place; sole = sole f.by (cover w t) n q.sole; lease = q.lease; loose = at_page (λ x. IsLoose (w.phase f.by) x) f.by t (λ i j. absurd (n i j)) (λ o. q.loose) };
    live = g.live;
    by_plan = g.by_plan;
  }

pub bytes_give : (w : World) (a : ℕ) (l : LockId) → CanGive w a l → Logged w → Bytes w → Bytes (after w (Give a l))
bytes_give w a l can k g = bytes_lowered w a l can k g None (λ x. NoPage) given

pub bytes_lower : (w : World) (a : ℕ) (l : LockId) → CanLower w a l → Logged w → Bytes w → Bytes (after w (Lower a l))
bytes_lower w a l can k g = bytes_lowered w a l can.give k g (Some Shared) page_lowered lowered

pub bytes_sync : (w : World) (a : ℕ) → CanSync w a → Logged w → Bytes w → Bytes (after w (Sync a))
bytes_sync w a can k g =
    let same : (b : ℕ) → b ≢ a → put w.synced a (w.last a) b ≡ w.synced b = λ b n. put_other w.synced a (w.last a) b n in
    let low : w.last a ≤ w.durable a = le_trans can.acknowledged (k.acks a) in
    let goes : (t : ℕ) (v : Block) → OnData w.first w.durable t (PendingBytes w t) v (settled w.history) → OnData w.first w.durable t (PendingBytes (after w (Sync a)) t) v (settled w.history) = λ t v o.
    ⊎_elim
    (λ n. data_map w.first w.durable w.durable t (PendingBytes w t) (PendingBytes (after w (Sync a)) t) v (λ d. le_refl (w.durable d))
    (λ c h i p. let m : c.by ≢ a = λ e. n (subst (λ x. IsLoose x (w.page a t)) (ap w.phase e ∙ can.up) (subst (λ x. IsLoose (w.phase c.by) (w.page x t)) e p.loose)) in
    record { sole = p.sole; loose = p.loose; wrote = λ j. (rw (same c.by m) (p.wrote j).0, (p.wrote j).1); read = λ j. rw (same c.by m) (p.read j) }) (settled w.history) o)
    (λ q. free_here w k a t q.1 low q.0 (PendingBytes (after w (Sync a)) t) v)
    (page_or (w.page a t) (w.holds a (cover w t)) (w.last a) (in_doubt a (w.synced a) (settled w.history) t) (is_free w.first (settled w.history) t) (can.clean t) (g.held a t) (g.dirtied a t)) in
    record {
      not_up = g.not_up;
      held = g.held;
      copies = g.copies;
      clean = g.clean;
      dirtied = λ b t. at_put (λ n. IsMarked (w.page b t) (w.last b) (in_doubt b n (settled w.history) t) (is_free w.first (settled w.history) t)) w.synced a (w.last a) b
          (λ e. free_marked (w.page b t) (w.last b) (in_doubt b (w.synced b) (settled w.history) t) (in_doubt b (w.last a) (settled w.history) t) (is_free w.first (settled w.history) t) (subst (λ x. DirtyIfFree (w.page x t) (is_free w.first (settled w.history) t)) (sym e) (can.clean t)) (g.dirtied b t))
          (λ n. g.dirtied b t);
      knows = g.knows;
      still = g.still;
      place = λ t. goes t (w.bytes t) (g.place t);
      synced = λ d. at_put (λ x. x ≤ w.last d) w.synced a (w.last a) d (λ e. subst (λ x. w.last a ≤ w.last x) (sym e) (le_refl (w.last a))) (λ n. g.synced d);
      counted = λ d. by_test (λ x. x ≡ (if nat_eq d a then w.last a else synced_of d w.history)) (w.last a) (w.synced d) (nat_eq d a) (λ e. rw e) (λ e. rw (e, g.counted d));
      flights = λ t f e l. let q : ByteFlightOk w t f = g.flights t f e l in record { place = goes t f.block q.place; sole = q.sole; lease = q.lease; loose = q.loose };
      live = g.live;
      by_plan = g.by_plan;
    }
  where
    free_marked : (x : Page) (last : ℕ) (old new free : Bool) → DirtyIfFree x free → IsMarked x last old free → IsMarked x last new free
    free_marked NoPage last old new free n m = tt
    free_marked (CleanPage b) last old new free n m = tt
    free_marked (DirtyPage b k) last old new free n m = (m.0, inr n)
    free_marked (FreedPage k) last old new free n m = m
