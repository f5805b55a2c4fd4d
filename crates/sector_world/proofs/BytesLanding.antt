-- Bytes are fetched, cleared, written, and come to the disk.
use Rattle.std.proofs.Common.{true, false, List, Bool, ⊎_elim, le_refl, le_trans, ℕ, ◌-◌, ◌≤◌, ◌≡◌, ◌≢◌, ◌⊎◌, ◌&&◌, inl, inr, Option, Some, None, nat_le, refl, sym, ◌∙◌, ap, subst, arith}
use Rattle.frang_base.specs.declared.lock.Mode.{Mode}
use Rattle.frang_base.specs.declared.lock.Mode.TheVariants.{Sole}
use Rattle.sector_bytes.specs.Blocks.{Block, zero_block}
use Rattle.std.specs.Str.{bytes_eq}
use Rattle.std.proofs.lemmas.Bool.{and_parts, cases_eq, leb-true}
use Rattle.std.proofs.lemmas.Option.{same_Some}
use Rattle.frang_base.specs.Functions.{put, put2}
use Rattle.sector_world.specs.Histories.{Commit, Item, in_doubt, settled}
use Rattle.sector_world.specs.HistoryBytes.{is_free, Known, AllWritten, OnData}
use Rattle.sector_world.specs.HistoryBytes.OnData.{here}
use Rattle.frang_base.proofs.Basics.{by_test, at_put, put_same, at_put2}
use Rattle.sector_bytes.proofs.SameBytes.{same_bytes_is}
use Rattle.sector_world.proofs.Bytes.{data_map, data_durable}
use Rattle.sector_world.specs.World.{World, Phase, Page, ByteFlight, cover}
use Rattle.sector_world.specs.World.Phase.{Off, Up, Dead}
use Rattle.sector_world.specs.World.Page.{NoPage, CleanPage, DirtyPage, FreedPage}
use Rattle.sector_world.specs.Guards.{CanFetchBytes, CanClear, CanIssueBytes, CanLandBytes, CanSettle}
use Rattle.sector_world.specs.Steps.{after, page_landed}
use Rattle.sector_world.specs.Steps.Event.{FetchBytes, Clear, IssueBytes, LandBytes, BreakBytesNew, Settle}
use Rattle.sector_world.specs.Logged.{Logged}
use Rattle.sector_world.specs.Bytes.{IsLoose, CoversPage, PendingBytes, PageHeld, PageUnlessUp, IsCopyPage, IsDiskPage, IsMarked, ByteFlightOk, Bytes}
use Rattle.sector_world.proofs.Reaching.{sole_held}

pub up_ok : (p : Phase) (x : Page) → p ≡ Up → PageUnlessUp p x
up_ok Off x e = absurd (cc)
up_ok Up x e = tt
up_ok Dead x e = absurd (cc)

none_loose : (p : Phase) (x : Page) → p ≡ Up → x ≡ NoPage → IsLoose p x → ⊥
none_loose p x e n l = subst (λ y. IsLoose Up y) n (subst (λ q. IsLoose q x) e l)

pub bytes_fetch : (w : World) (a s : ℕ) → CanFetchBytes w a s → Logged w → Bytes w → Bytes (after w (FetchBytes a s))
bytes_fetch w a s can k g =
    let tight : (b t : ℕ) → b ≡ a → t ≡ s → IsLoose (w.phase b) (w.page b t) → ⊥ = λ b t e f z.
    none_loose (w.phase b) (w.page b t) (ap w.phase e ∙ can.up) (ap (λ x. w.page x t) e ∙ ap (w.page a) f ∙ can.absent) z in
    let there : w.bytes s ≡ w.truth s = g.still s can.filled (λ b h z. tight b s (k.apart b a (cover w s) h can.held) refl z) in
    let page : (b t : ℕ) → (b ≡ a → t ≢ s) → put2 w.page a s (CleanPage (w.bytes s)) b t ≡ w.page b t = λ b t n. at_put2 (λ x. x ≡ w.page b t) w.page a s (CleanPage (w.bytes s)) b t (λ e f. absurd (n e f)) (λ o. refl) in
    let pend : (t : ℕ) (c : Commit) (h : List Item) → PendingBytes w t c h → PendingBytes (after w (FetchBytes a s)) t c h = λ t c h p.
    let n : c.by ≡ a → t ≢ s = λ e f. tight c.by t e f p.loose in
    record { sole = p.sole; loose = rw (page c.by t n) p.loose; wrote = λ i. ((p.wrote i).0, rw (page c.by t n) (p.wrote i).1); read = p.read } in
    let goes : (t : ℕ) (v : Block) → OnData w.first w.durable t (PendingBytes w t) v (settled w.history) → OnData w.first w.durable t (PendingBytes (after w (FetchBytes a s)) t) v (settled w.history) = λ t v o.
    data_map w.first w.durable w.durable t (PendingBytes w t) (PendingBytes (after w (FetchBytes a s)) t) v (λ d. le_refl (w.durable d)) (λ c h i p. pend t c h p) (settled w.history) o in
    record {
      not_up = λ b t. at_put2 (λ x. PageUnlessUp (w.phase b) x) w.page a s (CleanPage (w.bytes s)) b t (λ e f. up_ok (w.phase b) (CleanPage (w.bytes s)) (ap w.phase e ∙ can.up)) (λ o. g.not_up b t);
      held = λ b t. at_put2 (λ x. PageHeld x (w.holds b (cover w t))) w.page a s (CleanPage (w.bytes s)) b t
          (λ e f. subst (λ x. w.holds x (cover w t) ≢ None) (sym e) (subst (λ x. w.holds a (cover w x) ≢ None) (sym f) can.held)) (λ o. g.held b t);
      copies = λ b t. at_put2 (λ x. IsCopyPage x (w.truth t)) w.page a s (CleanPage (w.bytes s)) b t (λ e f. there ∙ ap w.truth (sym f)) (λ o. g.copies b t);
      clean = λ b t. at_put2 (λ x. IsDiskPage x (w.bytes t)) w.page a s (CleanPage (w.bytes s)) b t (λ e f. ap w.bytes (sym f)) (λ o. g.clean b t);
      dirtied = λ b t. at_put2 (λ x. IsMarked x (w.last b) (in_doubt b (w.synced b) (settled w.history) t) (is_free w.first (settled w.history) t)) w.page a s (CleanPage (w.bytes s)) b t (λ e f. tt) (λ o. g.dirtied b t);
      knows = g.knows;
      still = λ t fr f. g.still t fr (λ b h z. let n : b ≡ a → t ≢ s = λ e i. tight b t e i z in f b h (rw (page b t n) z));
      place = λ t. goes t (w.bytes t) (g.place t);
      synced = g.synced;
      counted = g.counted;
      flights = λ t f e z. let q : ByteFlightOk w t f = g.flights t f e z in
          let n : f.by ≡ a → t ≢ s = λ i j. tight f.by t i j q.loose in
          record { place = goes t f.block q.place; sole = q.sole; lease = q.lease; loose = rw (page f.by t n) q.loose };
      live = g.live;
      by_plan = g.by_plan;
    }

-- who doesn't hold a sector's lock has no page of it
pub other_page : (P : Page → Type 0) (x : Page) (m : Option Mode) → (m ≢ None → ⊥) → PageHeld x m → P NoPage → P x
other_page P NoPage m n h p = p
other_page P (CleanPage b) m n h p = absurd (n h)
other_page P (DirtyPage b k) m n h p = absurd (n (λ e. cc))
other_page P (FreedPage k) m n h p = absurd (n (λ e. cc))

pub covers_last : (x : Page) (last op : ℕ) (doubt free : Bool) → IsMarked x last doubt free → CoversPage Up x op → op ≤ last
covers_last NoPage last op doubt free m c = absurd c
covers_last (CleanPage b) last op doubt free m c = absurd c
covers_last (DirtyPage b k) last op doubt free m c = le_trans c m.0
covers_last (FreedPage k) last op doubt free m c = le_trans c m.0

pub bytes_clear : (w : World) (a s : ℕ) → CanClear w a s → Logged w → Bytes w → Bytes (after w (Clear a s))
bytes_clear w a s can k g =
    let new : Page = DirtyPage zero_block (w.last a) in
    let loose : (b t : ℕ) → IsLoose (w.phase b) (w.page b t) → IsLoose (w.phase b) (put2 w.page a s (DirtyPage zero_block (w.last a)) b t) = λ b t z.
    at_put2 (λ x. IsLoose (w.phase b) x) w.page a s (DirtyPage zero_block (w.last a)) b t (λ e f. subst (λ p. IsLoose p (DirtyPage zero_block (w.last a))) (sym (ap w.phase e ∙ can.up)) tt) (λ o. z) in
    let pend : (t : ℕ) (c : Commit) (h : List Item) → PendingBytes w t c h → PendingBytes (after w (Clear a s)) t c h = λ t c h p. record {
      sole = p.sole;
      read = p.read;
      loose = loose c.by t p.loose;
      wrote = λ i. (
        (p.wrote i).0,
        at_put2 (λ x. CoversPage (w.phase c.by) x c.op) w.page a s (DirtyPage zero_block (w.last a)) c.by t
            (λ e f. subst (λ q. CoversPage q (DirtyPage zero_block (w.last a)) c.op) (sym (ap w.phase e ∙ can.up))
            (covers_last (w.page a t) (w.last a) c.op (in_doubt a (w.synced a) (settled w.history) t) (is_free w.first (settled w.history) t) (g.dirtied a t)
            (subst (λ q. CoversPage q (w.page a t) c.op) (ap w.phase e ∙ can.up) (subst (λ x. CoversPage (w.phase c.by) (w.page x t) c.op) e (p.wrote i).1))))
            (λ o. (p.wrote i).1),
      );
    } in
    let goes : (t : ℕ) (v : Block) → OnData w.first w.durable t (PendingBytes w t) v (settled w.history) → OnData w.first w.durable t (PendingBytes (after w (Clear a s)) t) v (settled w.history) = λ t v o.
    data_map w.first w.durable w.durable t (PendingBytes w t) (PendingBytes (after w (Clear a s)) t) v (λ d. le_refl (w.durable d)) (λ c h i p. pend t c h p) (settled w.history) o in
    let held : w.holds a (cover w s) ≢ None = sole_held (w.holds a (cover w s)) can.held in
    record {
      not_up = λ b t. at_put2 (λ x. PageUnlessUp (w.phase b) x) w.page a s (DirtyPage zero_block (w.last a)) b t (λ e f. up_ok (w.phase b) (DirtyPage zero_block (w.last a)) (ap w.phase e ∙ can.up)) (λ o. g.not_up b t);
      held = λ b t. at_put2 (λ x. PageHeld x (w.holds b (cover w t))) w.page a s (DirtyPage zero_block (w.last a)) b t
          (λ e f. subst (λ x. w.holds x (cover w t) ≡ Some Sole) (sym e) (subst (λ x. w.holds a (cover w x) ≡ Some Sole) (sym f) can.held)) (λ o. g.held b t);
      copies = λ b t. at_put2 (λ x. IsCopyPage x (put w.truth s zero_block t)) w.page a s (DirtyPage zero_block (w.last a)) b t
          (λ e f. sym (ap (put w.truth s zero_block) f ∙ put_same w.truth s zero_block))
          (λ o. at_put (λ v. IsCopyPage (w.page b t) v) w.truth s zero_block t
          (λ i. other_page (λ x. IsCopyPage x zero_block) (w.page b t) (w.holds b (cover w t))
          (λ n. o (sym (k.apart a b (cover w t) (subst (λ x. w.holds a (cover w x) ≡ Some Sole) (sym i) can.held) n)) i) (g.held b t) tt)
          (λ i. g.copies b t));
      clean = λ b t. at_put2 (λ x. IsDiskPage x (w.bytes t)) w.page a s (DirtyPage zero_block (w.last a)) b t (λ e f. tt) (λ o. g.clean b t);
      dirtied = λ b t. at_put2 (λ x. IsMarked x (w.last b) (in_doubt b (w.synced b) (settled w.history) t) (is_free w.first (settled w.history) t)) w.page a s (DirtyPage zero_block (w.last a)) b t
          (λ e f. (subst (λ x. w.last a ≤ w.last x) (sym e) (le_refl (w.last a)), inr (ap (λ x. is_free w.first (settled w.history) x) f ∙ can.free))) (λ o. g.dirtied b t);
      knows = λ t. at_put (λ v. Known w.first t v (settled w.history)) w.truth s zero_block t
          (λ e u fr i. let z : is_free w.first (settled w.history) t ≡ true = ap (λ x. is_free w.first (settled w.history) x) e ∙ can.free in absurd (cc)) (λ n. g.knows t);
      still = λ t fr f. at_put (λ v. w.bytes t ≡ v) w.truth s zero_block t
          (λ e. let z : is_free w.first (settled w.history) t ≡ true = ap (λ x. is_free w.first (settled w.history) x) e ∙ can.free in absurd (cc))
          (λ n. g.still t fr (λ b h z. f b h (loose b t z)));
      place = λ t. goes t (w.bytes t) (g.place t);
      synced = g.synced;
      counted = g.counted;
      flights = λ t f e z. let q : ByteFlightOk w t f = g.flights t f e z in record { place = goes t f.block q.place; sole = q.sole; lease = q.lease; loose = loose f.by t q.loose };
      live = g.live;
      by_plan = g.by_plan;
    }

covered_mark : (x : Page) (block : Block) (mark op : ℕ) → x ≡ DirtyPage block mark → CoversPage Up x op → op ≤ mark
covered_mark x block mark op e c = subst (λ y. CoversPage Up y op) e c

-- each write of a sector whose page is dirty is durable, where the log is known to be on the disk up to the mark
module _ (w : World) (a s : ℕ) (block : Block) (mark : ℕ) (up : w.phase a ≡ Up) (dirty : w.page a s ≡ DirtyPage block mark) (logged : mark ≤ w.acked a) (k : Logged w) (g : Bytes w) where
  pub dirty_sole : w.holds a (cover w s) ≡ Some Sole
  dirty_sole = subst (λ x. PageHeld x (w.holds a (cover w s))) dirty (g.held a s)

  pub dirty_truth : block ≡ w.truth s
  dirty_truth = subst (λ x. IsCopyPage x (w.truth s)) dirty (g.copies a s)

  pub dirty_durable : (v : Block) → OnData w.first w.durable s (PendingBytes w s) v (settled w.history) → AllWritten w.durable s (settled w.history)
  dirty_durable v o = data_durable w.first w.durable s (PendingBytes w s) v
      (λ c h i p. let e : c.by ≡ a = k.apart c.by a (cover w s) p.sole (sole_held (w.holds a (cover w s)) dirty_sole) in
      let q : c.op ≤ mark = covered_mark (w.page c.by s) block mark c.op (ap (λ x. w.page x s) e ∙ dirty) (subst (λ x. CoversPage x (w.page c.by s) c.op) (ap w.phase e ∙ up) (p.wrote i).1) in
      let l : mark ≤ w.durable a = le_trans logged (k.acks a) in
      let r : w.durable c.by ≡ w.durable a = ap w.durable e in omega arith)
      (settled w.history) o

  pub dirty_here : (Q : Commit → List Item → Type 0) → OnData w.first w.durable s Q block (settled w.history)
  dirty_here Q = here (subst (λ x. Known w.first s x (settled w.history)) (sym dirty_truth) (g.knows s)) (dirty_durable (w.bytes s) (g.place s))

pub bytes_issue : (w : World) (a s : ℕ) (block : Block) (mark : ℕ) → CanIssueBytes w a s block mark → Logged w → Bytes w → Bytes (after w (IssueBytes a s block mark))
bytes_issue w a s block mark can k g =
    let f0 : ByteFlight = record { by = a; stamp = w.expiry a - 15; block = block } in
    let ok : ByteFlightOk w s f0 = record {
      place = dirty_here w a s block mark can.up can.dirty can.log_before k g (PendingBytes w s);
      sole = dirty_sole w a s block mark can.up can.dirty can.log_before k g;
      lease = omega arith;
      loose = rw (can.up, can.dirty) tt;
    } in
    let flights : (t : ℕ) (f : ByteFlight) → put w.byte_flight s (Some f0) t ≡ Some f → w.now ≤ f.stamp → ByteFlightOk w t f = λ t f.
    at_put (λ x. x ≡ Some f → w.now ≤ f.stamp → ByteFlightOk w t f) w.byte_flight s (Some f0) t
    (λ e i n. subst (λ x. ByteFlightOk w t x) (same_Some f0 f i) (subst (λ x. ByteFlightOk w x f0) (sym e) ok)) (λ n. g.flights t f) in
    record {
      not_up = g.not_up;
      held = g.held;
      copies = g.copies;
      clean = g.clean;
      dirtied = g.dirtied;
      knows = g.knows;
      still = g.still;
      place = g.place;
      synced = g.synced;
      counted = g.counted;
      flights = flights;
      live = g.live;
      by_plan = g.by_plan;
    }

-- a page becomes clean that the disk has
pub bytes_settle : (w : World) (a s : ℕ) (block : Block) (mark : ℕ) → CanSettle w a s block mark → Logged w → Bytes w → Bytes (after w (Settle a s block mark))
bytes_settle w a s block mark can k g =
    let v : World = after w (Settle a s block mark) in
    let truth : block ≡ w.truth s = dirty_truth w a s block mark can.up can.dirty can.logged k g in
    let page : (b t : ℕ) → (b ≡ a → t ≢ s) → put2 w.page a s (CleanPage block) b t ≡ w.page b t = λ b t n. at_put2 (λ x. x ≡ w.page b t) w.page a s (CleanPage block) b t (λ e f. absurd (n e f)) (λ o. refl) in
    let goes : (t : ℕ) (x : Block) → t ≢ s → OnData w.first w.durable t (PendingBytes w t) x (settled w.history) → OnData w.first w.durable t (PendingBytes v t) x (settled w.history) = λ t x m o.
    data_map w.first w.durable w.durable t (PendingBytes w t) (PendingBytes v t) x (λ d. le_refl (w.durable d))
    (λ c h i p. let q : put2 w.page a s (CleanPage block) c.by t ≡ w.page c.by t = page c.by t (λ e. m) in
    record { sole = p.sole; loose = rw q p.loose; wrote = λ j. ((p.wrote j).0, rw q (p.wrote j).1); read = p.read }) (settled w.history) o in
    record {
      not_up = λ b t. at_put2 (λ x. PageUnlessUp (w.phase b) x) w.page a s (CleanPage block) b t (λ e f. up_ok (w.phase b) (CleanPage block) (ap w.phase e ∙ can.up)) (λ o. g.not_up b t);
      held = λ b t. at_put2 (λ x. PageHeld x (w.holds b (cover w t))) w.page a s (CleanPage block) b t
          (λ e f. subst (λ x. w.holds x (cover w t) ≢ None) (sym e) (subst (λ x. w.holds a (cover w x) ≢ None) (sym f) (sole_held (w.holds a (cover w s)) (dirty_sole w a s block mark can.up can.dirty can.logged k g)))) (λ o. g.held b t);
      copies = λ b t. at_put2 (λ x. IsCopyPage x (w.truth t)) w.page a s (CleanPage block) b t (λ e f. truth ∙ ap w.truth (sym f)) (λ o. g.copies b t);
      clean = λ b t. at_put2 (λ x. IsDiskPage x (w.bytes t)) w.page a s (CleanPage block) b t (λ e f. sym (ap w.bytes f ∙ can.there)) (λ o. g.clean b t);
      dirtied = λ b t. at_put2 (λ x. IsMarked x (w.last b) (in_doubt b (w.synced b) (settled w.history) t) (is_free w.first (settled w.history) t)) w.page a s (CleanPage block) b t (λ e f. tt) (λ o. g.dirtied b t);
      knows = g.knows;
      still = λ t fr f. ⊎_elim
          (λ e. ap w.bytes e ∙ can.there ∙ truth ∙ ap w.truth (sym e))
          (λ n. g.still t fr (λ b h z. f b h (rw (page b t (λ e. n)) z)))
          (cases_eq t s);
      place = λ t. ⊎_elim
          (λ e. subst (λ x. OnData w.first w.durable x (PendingBytes v x) (w.bytes x) (settled w.history)) (sym e)
          (subst (λ x. OnData w.first w.durable s (PendingBytes v s) x (settled w.history)) (sym can.there) (dirty_here w a s block mark can.up can.dirty can.logged k g (PendingBytes v s))))
          (λ n. goes t (w.bytes t) n (g.place t))
          (cases_eq t s);
      synced = g.synced;
      counted = g.counted;
      flights = λ t f e z. let q : ByteFlightOk w t f = g.flights t f e z in
          let n : t ≢ s = λ i. can.alone f (subst (λ x. w.byte_flight x ≡ Some f) i e) z in
          record { place = goes t f.block n q.place; sole = q.sole; lease = q.lease; loose = rw (page f.by t (λ i. n)) q.loose };
      live = g.live;
      by_plan = g.by_plan;
    }

-- the page stays, or it had what came and the log is known to be on the disk up to its mark
landed_or : (acked : ℕ) (f : Block) (x : Page) → (page_landed acked f x ≡ x) ⊎ ((mark : ℕ) × (x ≡ DirtyPage f mark) × (mark ≤ acked) × (page_landed acked f x ≡ CleanPage f))
landed_or acked f NoPage = inl refl
landed_or acked f (CleanPage b) = inl refl
landed_or acked f (FreedPage m) = inl refl
landed_or acked f (DirtyPage b m) =
    by_test (λ y. (y ≡ DirtyPage b m) ⊎ ((mark : ℕ) × (DirtyPage b m ≡ DirtyPage f mark) × (mark ≤ acked) × (y ≡ CleanPage f))) (CleanPage b) (DirtyPage b m) (bytes_eq b f && nat_le m acked)
    (λ e. let p = and_parts (bytes_eq b f) (nat_le m acked) e in let q : b ≡ f = same_bytes_is b f p.0 in inr (m, ap (λ x. DirtyPage x m) q, leb-true m acked p.1, ap CleanPage q))
    (λ e. inl refl)

dirty_up : (p : Phase) (x : Page) (block : Block) (mark : ℕ) → x ≡ DirtyPage block mark → PageUnlessUp p x → p ≡ Up
dirty_up Off x block mark e n = cc
dirty_up Up x block mark e n = refl
dirty_up Dead x block mark e n = cc

loose_disk : (p : Phase) (x : Page) (v : Block) → PageUnlessUp p x → IsLoose p x → IsDiskPage x v
loose_disk Off x v n l = absurd l
loose_disk Dead x v n l = subst (λ y. IsDiskPage y v) (sym n) tt
loose_disk Up NoPage v n l = tt
loose_disk Up (CleanPage b) v n l = absurd l
loose_disk Up (DirtyPage b k) v n l = tt
loose_disk Up (FreedPage k) v n l = tt

-- a page of a sector to which a write of f came: it is f's and loose, or there is none
pub disk_page : (w : World) (s : ℕ) (f : ByteFlight) (v : Block) → ByteFlightOk w s f → Logged w → Bytes w → (b : ℕ) → IsDiskPage (w.page b s) v
disk_page w s f v ok k g b =
    ⊎_elim
    (λ e. subst (λ x. IsDiskPage (w.page x s) v) (sym e) (loose_disk (w.phase f.by) (w.page f.by s) v (g.not_up f.by s) ok.loose))
    (λ n. other_page (λ x. IsDiskPage x v) (w.page b s) (w.holds b (cover w s)) (λ m. n (sym (k.apart f.by b (cover w s) ok.sole m))) (g.held b s) tt)
    (cases_eq b f.by)

module _ (w : World) (s : ℕ) (f : ByteFlight) (can : CanLandBytes w s f) (k : Logged w) (g : Bytes w) where
  ok : ByteFlightOk w s f
  ok = g.flights s f can.there can.in_time

  or : (page_landed (w.acked f.by) f.block (w.page f.by s) ≡ w.page f.by s) ⊎ ((mark : ℕ) × (w.page f.by s ≡ DirtyPage f.block mark) × (mark ≤ w.acked f.by) × (page_landed (w.acked f.by) f.block (w.page f.by s) ≡ CleanPage f.block))
  or = landed_or (w.acked f.by) f.block (w.page f.by s)

  -- a fact of a page after the write: as before, or of the clean one
  at_page : (P : Page → Type 0) (b t : ℕ) → P (w.page b t) → (b ≡ f.by → t ≡ s → (mark : ℕ) → w.page f.by s ≡ DirtyPage f.block mark → P (CleanPage f.block)) → P ((after w (LandBytes s f)).page b t)
  at_page P b t old new = at_put2 P w.page f.by s (page_landed (w.acked f.by) f.block (w.page f.by s)) b t
      (λ e i. ⊎_elim (λ q. subst P (sym (q ∙ ap (λ x. w.page x s) (sym e) ∙ ap (w.page b) (sym i))) old) (λ q. subst P (sym q.3) (new e i q.0 q.1)) or)
      (λ n. old)

  now : (mark : ℕ) → w.page f.by s ≡ DirtyPage f.block mark → f.block ≡ w.truth s
  now mark e = subst (λ x. IsCopyPage x (w.truth s)) e (g.copies f.by s)

  land_other : (t : ℕ) (v : Block) → t ≢ s → OnData w.first w.durable t (PendingBytes w t) v (settled w.history) → OnData w.first w.durable t (PendingBytes (after w (LandBytes s f)) t) v (settled w.history)
  land_other t v n o =
      data_map w.first w.durable w.durable t (PendingBytes w t) (PendingBytes (after w (LandBytes s f)) t) v (λ d. le_refl (w.durable d))
      (λ c h i p. let q : (after w (LandBytes s f)).page c.by t ≡ w.page c.by t = at_page (λ x. x ≡ w.page c.by t) c.by t refl (λ e j. absurd (n j)) in
      record { sole = p.sole; read = p.read; loose = rw q p.loose; wrote = λ x. ((p.wrote x).0, rw q (p.wrote x).1) }) (settled w.history) o

  land_here : OnData w.first w.durable s (PendingBytes (after w (LandBytes s f)) s) f.block (settled w.history)
  land_here =
      ⊎_elim
      (λ same. data_map w.first w.durable w.durable s (PendingBytes w s) (PendingBytes (after w (LandBytes s f)) s) f.block (λ d. le_refl (w.durable d))
      (λ c h i p. let q : (after w (LandBytes s f)).page c.by s ≡ w.page c.by s = at_put2 (λ x. x ≡ w.page c.by s) w.page f.by s (page_landed (w.acked f.by) f.block (w.page f.by s)) c.by s (λ e j. same ∙ ap (λ x. w.page x s) (sym e)) (λ n. refl) in
      record { sole = p.sole; read = p.read; loose = rw q p.loose; wrote = λ x. ((p.wrote x).0, rw q (p.wrote x).1) }) (settled w.history) ok.place)
      (λ q. dirty_here w f.by s f.block q.0 (dirty_up (w.phase f.by) (w.page f.by s) f.block q.0 q.1 (g.not_up f.by s)) q.1 q.2 k g (PendingBytes (after w (LandBytes s f)) s))
      or

  land_place : (t : ℕ) → OnData w.first w.durable t (PendingBytes (after w (LandBytes s f)) t) (put w.bytes s f.block t) (settled w.history)
  land_place t = at_put (λ x. OnData w.first w.durable t (PendingBytes (after w (LandBytes s f)) t) x (settled w.history)) w.bytes s f.block t
      (λ e. subst (λ x. OnData w.first w.durable x (PendingBytes (after w (LandBytes s f)) x) f.block (settled w.history)) (sym e) land_here)
      (λ n. land_other t (w.bytes t) n (g.place t))

  land_still : (t : ℕ) → is_free w.first (settled w.history) t ≡ false → ((b : ℕ) → w.holds b (cover w t) ≡ Some Sole → IsLoose (w.phase b) ((after w (LandBytes s f)).page b t) → ⊥) → put w.bytes s f.block t ≡ w.truth t
  land_still t fr h =
      at_put (λ x. x ≡ w.truth t) w.bytes s f.block t
      (λ e. ⊎_elim
      (λ same. absurd (h f.by (subst (λ x. w.holds f.by (cover w x) ≡ Some Sole) (sym e) ok.sole)
      (at_put2 (λ x. IsLoose (w.phase f.by) x) w.page f.by s (page_landed (w.acked f.by) f.block (w.page f.by s)) f.by t (λ i j. rw same ok.loose) (λ n. absurd (n refl e)))))
      (λ q. now q.0 q.1 ∙ ap w.truth (sym e)) or)
      (λ n. g.still t fr (λ b i l. h b i (at_page (λ x. IsLoose (w.phase b) x) b t l (λ e j. absurd (n j)))))

  pub bytes_land : Bytes (after w (LandBytes s f))
  bytes_land = record {
    not_up = λ b t. at_page (λ x. PageUnlessUp (w.phase b) x) b t (g.not_up b t)
        (λ e i mark q. up_ok (w.phase b) (CleanPage f.block) (dirty_up (w.phase b) (w.page b t) f.block mark (ap (λ x. w.page x t) e ∙ ap (w.page f.by) i ∙ q) (g.not_up b t)));
    held = λ b t. at_page (λ x. PageHeld x (w.holds b (cover w t))) b t (g.held b t)
        (λ e i mark q m. let z : w.holds b (cover w t) ≡ Some Sole = ap (λ x. w.holds x (cover w t)) e ∙ ap (λ x. w.holds f.by (cover w x)) i ∙ ok.sole in cc);
    copies = λ b t. at_page (λ x. IsCopyPage x (w.truth t)) b t (g.copies b t) (λ e i mark q. now mark q ∙ ap w.truth (sym i));
    clean = λ b t. at_page (λ x. IsDiskPage x (put w.bytes s f.block t)) b t
        (at_put (λ v. IsDiskPage (w.page b t) v) w.bytes s f.block t (λ i. subst (λ x. IsDiskPage (w.page b x) f.block) (sym i) (disk_page w s f f.block ok k g b)) (λ n. g.clean b t))
        (λ e i mark q. sym (ap (put w.bytes s f.block) i ∙ put_same w.bytes s f.block));
    dirtied = λ b t. at_page (λ x. IsMarked x (w.last b) (in_doubt b (w.synced b) (settled w.history) t) (is_free w.first (settled w.history) t)) b t (g.dirtied b t) (λ e i mark q. tt);
    knows = g.knows;
    still = land_still;
    place = land_place;
    synced = g.synced;
    counted = g.counted;
    flights = λ t h. at_put (λ x. x ≡ Some h → w.now ≤ h.stamp → ByteFlightOk (after w (LandBytes s f)) t h) w.byte_flight s None t (λ e i n. absurd (cc))
        (λ n i z. let q : ByteFlightOk w t h = g.flights t h i z in
        record { place = land_other t h.block n q.place; sole = q.sole; lease = q.lease; loose = at_page (λ x. IsLoose (w.phase h.by) x) h.by t q.loose (λ e j. absurd (n j)) });
    live = g.live;
    by_plan = g.by_plan;
  }

  -- a put failed and left the new sector
  pub bytes_break_new : Bytes (after w (BreakBytesNew s f))
  bytes_break_new = record {
    not_up = g.not_up;
    held = g.held;
    copies = g.copies;
    clean = λ b t. at_put (λ v. IsDiskPage (w.page b t) v) w.bytes s f.block t (λ i. subst (λ x. IsDiskPage (w.page b x) f.block) (sym i) (disk_page w s f f.block ok k g b)) (λ n. g.clean b t);
    dirtied = g.dirtied;
    knows = g.knows;
    still = λ t fr h. at_put (λ x. x ≡ w.truth t) w.bytes s f.block t
        (λ e. absurd (h f.by (subst (λ x. w.holds f.by (cover w x) ≡ Some Sole) (sym e) ok.sole) (subst (λ x. IsLoose (w.phase f.by) (w.page f.by x)) (sym e) ok.loose)))
        (λ n. g.still t fr h);
    place = λ t. at_put (λ x. OnData w.first w.durable t (PendingBytes w t) x (settled w.history)) w.bytes s f.block t
        (λ e. subst (λ x. OnData w.first w.durable x (PendingBytes w x) f.block (settled w.history)) (sym e) ok.place) (λ n. g.place t);
    synced = g.synced;
    counted = g.counted;
    flights = λ t h. at_put (λ x. x ≡ Some h → w.now ≤ h.stamp → ByteFlightOk w t h) w.byte_flight s None t (λ e i n. absurd (cc)) (λ n. g.flights t h);
    live = g.live;
    by_plan = g.by_plan;
  }
