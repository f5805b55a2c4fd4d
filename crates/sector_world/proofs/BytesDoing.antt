-- An operation on file bytes.
use Rattle.std.proofs.Common.{true, false, List, ◌∷◌, Bool, IsTrue, IsSome, is_some, if◌then◌else◌, ⊎_elim, le_refl, le_trans, ℕ, ◌<◌, ◌≤◌, ◌≡◌, ◌≢◌, ◌⊎◌, inl, inr, Option, Some, None, nat_eq, nat_lt, refl, sym, ◌∙◌, ap, subst, arith}
use Rattle.std.proofs.lemmas.Bool.{eq-eqb, lt-ltb}
use Rattle.frang_base.specs.declared.lock.LockId.{LockId}
use Rattle.frang_base.specs.declared.lock.Mode.{Mode}
use Rattle.frang_base.specs.declared.lock.Mode.TheVariants.{Sole}
use Rattle.sector_bytes.specs.Blocks.{Block, zero_block}
use Rattle.frang_base.specs.Functions.{put}
use Rattle.sector_world.specs.Histories.{Fill, Commit, Item, doubt_step, in_doubt, settled, Writes, reaches, is_logged}
use Rattle.sector_world.specs.Histories.Fill.{Written, Freed}
use Rattle.sector_world.specs.Histories.Item.{Done}
use Rattle.sector_world.specs.HistoryBytes.{filled, turned, value, is_free_by, is_free, Known, OnData}
use Rattle.sector_world.specs.HistoryBytes.OnData.{here, newer}
use Rattle.sector_world.specs.Seen.{moved}
use Rattle.frang_base.proofs.Basics.{true_or, at_put, put_same, put_other}
use Rattle.sector_world.proofs.Bytes.{none_writes, writes_reach, data_map, data_in_place, free_before}
use Rattle.sector_world.specs.World.{World, Phase, Page, ByteFlight, cover}
use Rattle.sector_world.specs.World.Phase.{Off, Up, Dead}
use Rattle.sector_world.specs.World.Page.{NoPage, CleanPage, DirtyPage, FreedPage}
use Rattle.sector_world.specs.Guards.{Shows, MovesOwned, CanDo}
use Rattle.sector_world.specs.Steps.{after, page_done, truth_filled}
use Rattle.sector_world.specs.Steps.Event.{Do}
use Rattle.sector_world.specs.Logged.{Logged}
use Rattle.sector_world.specs.Bytes.{IsLoose, CoversPage, PendingBytes, PageHeld, PageUnlessUp, IsCopyPage, IsDiskPage, IsMarked, ByteFlightOk, Bytes}
use Rattle.sector_world.proofs.BytesLanding.{other_page, up_ok, covers_last}
use Rattle.sector_world.proofs.Doing.{do_sole, reaches_held}

page_held_done : (claimed : Bool) (o : Option Fill) (op : ℕ) (x : Page) (m : Option Mode) → (IsSome o → m ≡ Some Sole) → PageHeld x m → PageHeld (page_done claimed o op x) m
page_held_done true o op x m f h = tt
page_held_done false None op x m f h = h
page_held_done false (Some (Written v)) op x m f h = f refl
page_held_done false (Some Freed) op x m f h = f refl

copy_done : (claimed : Bool) (o : Option Fill) (op : ℕ) (x : Page) (t : Block) → IsCopyPage x t → IsCopyPage (page_done claimed o op x) (truth_filled o t)
copy_done true o op x t c = tt
copy_done false None op x t c = c
copy_done false (Some (Written v)) op x t c = refl
copy_done false (Some Freed) op x t c = tt

disk_done : (claimed : Bool) (o : Option Fill) (op : ℕ) (x : Page) (v : Block) → IsDiskPage x v → IsDiskPage (page_done claimed o op x) v
disk_done true o op x v c = tt
disk_done false None op x v c = c
disk_done false (Some (Written b)) op x v c = tt
disk_done false (Some Freed) op x v c = tt

other_copy : (o : Option Fill) (x : Page) (m : Option Mode) (t : Block) → (IsSome o → m ≢ None → ⊥) → PageHeld x m → IsCopyPage x t → IsCopyPage x (truth_filled o t)
other_copy None x m t f h c = c
other_copy (Some v) x m t f h c = other_page (λ y. IsCopyPage y (truth_filled (Some v) t)) x m (f refl) h tt

loose_done : (claimed : Bool) (o : Option Fill) (op : ℕ) (p : Phase) (x : Page) → (claimed ≡ true → IsLoose p x → ⊥) → p ≡ Up → IsLoose p x → IsLoose p (page_done claimed o op x)
loose_done true o op p x f e l = absurd (f refl l)
loose_done false None op p x f e l = l
loose_done false (Some (Written v)) op p x f e l = subst (λ q. IsLoose q (DirtyPage v op)) (sym e) tt
loose_done false (Some Freed) op p x f e l = subst (λ q. IsLoose q (FreedPage op)) (sym e) tt

new_loose : (claimed : Bool) (o : Option Fill) (op : ℕ) (p : Phase) (x : Page) → (claimed ≡ true → IsSome o → ⊥) → p ≡ Up → IsSome o → IsLoose p (page_done claimed o op x) × CoversPage p (page_done claimed o op x) op
new_loose true o op p x f e w = absurd (f refl w)
new_loose false None op p x f e w = absurd (cc)
new_loose false (Some (Written v)) op p x f e w = (subst (λ q. IsLoose q (DirtyPage v op)) (sym e) tt, subst (λ q. CoversPage q (DirtyPage v op) op) (sym e) (le_refl op))
new_loose false (Some Freed) op p x f e w = (subst (λ q. IsLoose q (FreedPage op)) (sym e) tt, subst (λ q. CoversPage q (FreedPage op) op) (sym e) (le_refl op))

covers_loose : (p : Phase) (x : Page) (op : ℕ) → CoversPage p x op → IsLoose p x
covers_loose Off x op c = c
covers_loose Dead x op c = tt
covers_loose Up NoPage op c = c
covers_loose Up (CleanPage v) op c = c
covers_loose Up (DirtyPage v m) op c = tt
covers_loose Up (FreedPage m) op c = tt

covers_done : (claimed : Bool) (o : Option Fill) (op older last : ℕ) (doubt free : Bool) (p : Phase) (x : Page) → (claimed ≡ true → IsLoose p x → ⊥) → p ≡ Up → last < op → IsMarked x last doubt free → CoversPage p x older → CoversPage p (page_done claimed o op x) older
covers_done true o op older last doubt free p x f e l m c = absurd (f refl (covers_loose p x older c))
covers_done false None op older last doubt free p x f e l m c = c
covers_done false (Some (Written v)) op older last doubt free p x f e l m c =
    let q : older ≤ last = covers_last x last older doubt free m (subst (λ y. CoversPage y x older) e c) in subst (λ y. CoversPage y (DirtyPage v op) older) (sym e) (omega arith)
covers_done false (Some Freed) op older last doubt free p x f e l m c =
    let q : older ≤ last = covers_last x last older doubt free m (subst (λ y. CoversPage y x older) e c) in subst (λ y. CoversPage y (FreedPage op) older) (sym e) (omega arith)

-- what is known after an operation is the truth after it
step_known : (t : Bool) (wr : Option Fill) (sh old : Option Block) (free : Bool) (x : Page) (v : Block) → ((u : Block) → free ≡ false → old ≡ Some u → u ≡ v) → Shows sh x → IsCopyPage x v → ((wr ≡ None) ⊎ (t ≡ true))
    → (u : Block) → is_free_by wr free ≡ false → (if t then filled wr (turned sh old) else old) ≡ Some u → u ≡ truth_filled wr v
step_known true (Some (Written y)) sh old free x v k s c d u fr e = cc
step_known true (Some Freed) sh old free x v k s c d u fr e = cc
step_known true None None old free x v k s c d u fr e = k u fr e
step_known true None (Some y) (Some z) free x v k s c d u fr e = k u fr e
step_known true None (Some y) None free NoPage v k s c d u fr e = absurd s
step_known true None (Some y) None free (CleanPage z) v k s c d u fr e = cc
step_known true None (Some y) None free (DirtyPage z m) v k s c d u fr e = cc
step_known true None (Some y) None free (FreedPage m) v k s c d u fr e = absurd s
step_known false None sh old free x v k s c d u fr e = k u fr e
step_known false (Some y) sh old free x v k s c d u fr e = ⊎_elim (λ i. cc) (λ i. cc) d

reached_or : (wr : Option Fill) (lk : Bool) → (wr ≡ None) ⊎ ((if is_some wr then true else lk) ≡ true)
reached_or None lk = inl refl
reached_or (Some v) lk = inr refl

loose_or : (p : Phase) (x : Page) → p ≡ Up → (IsLoose p x) ⊎ (IsLoose p x → ⊥)
loose_or p NoPage e = inr (λ l. subst (λ q. IsLoose q NoPage) e l)
loose_or p (CleanPage v) e = inr (λ l. subst (λ q. IsLoose q (CleanPage v)) e l)
loose_or p (DirtyPage v m) e = inl (subst (λ q. IsLoose q (DirtyPage v m)) (sym e) tt)
loose_or p (FreedPage m) e = inl (subst (λ q. IsLoose q (FreedPage m)) (sym e) tt)

loose_marked : (p : Phase) (x : Page) (last : ℕ) (doubt free : Bool) → p ≡ Up → IsLoose p x → IsMarked x last doubt free → (doubt ≡ true) ⊎ (free ≡ true)
loose_marked p NoPage last doubt free e l m = absurd (subst (λ q. IsLoose q NoPage) e l)
loose_marked p (CleanPage v) last doubt free e l m = absurd (subst (λ q. IsLoose q (CleanPage v)) e l)
loose_marked p (DirtyPage v k) last doubt free e l m = m.1
loose_marked p (FreedPage k) last doubt free e l m = inr m.1

page_sole : (p : Phase) (x : Page) (m : Option Mode) → p ≡ Up → IsLoose p x → PageHeld x m → m ≡ Some Sole
page_sole p NoPage m e l h = absurd (subst (λ q. IsLoose q NoPage) e l)
page_sole p (CleanPage v) m e l h = absurd (subst (λ q. IsLoose q (CleanPage v)) e l)
page_sole p (DirtyPage v k) m e l h = h
page_sole p (FreedPage k) m e l h = h

pub clean_loose : (p : Phase) (x : Page) (v : Block) → p ≡ Up → x ≡ CleanPage v → IsLoose p x → ⊥
clean_loose p x v e c l = subst (λ y. IsLoose Up y) c (subst (λ q. IsLoose q x) e l)

none_or : (o : Option Fill) → (IsSome o → ⊥) ⊎ IsSome o
none_or None = inl (λ e. cc)
none_or (Some v) = inr refl

doubt_own : (wr lk un older : Bool) → (wr ≡ true → un ≡ true) → (wr ≡ false → older ≡ true) → doubt_step wr lk true un older ≡ true
doubt_own true lk un older f g = f refl
doubt_own false true un older f g = g refl
doubt_own false false un older f g = g refl

doubt_other : (wr lk own un older : Bool) → ((if wr then true else lk) ≡ true → ⊥) → older ≡ true → doubt_step wr lk own un older ≡ true
doubt_other true lk own un older n o = absurd (n refl)
doubt_other false true own un older n o = absurd (n refl)
doubt_other false false own un older n o = o

marked_done : (claimed : Bool) (o : Option Fill) (op last : ℕ) (x : Page) (old new free : Bool) → last < op → (IsSome o → new ≡ true) → (old ≡ true → new ≡ true) → IsMarked x last old free → IsMarked (page_done claimed o op x) op new (is_free_by o free)
marked_done true o op last x old new free l f g m = tt
marked_done false None op last NoPage old new free l f g m = tt
marked_done false None op last (CleanPage v) old new free l f g m = tt
marked_done false None op last (DirtyPage v k) old new free l f g m = let q : k ≤ last = m.0 in (omega arith, ⊎_elim (λ i. inl (g i)) (λ i. inr i) m.1)
marked_done false None op last (FreedPage k) old new free l f g m = let q : k ≤ last = m.0 in (omega arith, m.1)
marked_done false (Some (Written v)) op last x old new free l f g m = (le_refl op, inl (f refl))
marked_done false (Some Freed) op last x old new free l f g m = (le_refl op, refl)

marked_more : (x : Page) (last : ℕ) (old new free free' : Bool) (mode : Option Mode) → PageHeld x mode → (mode ≡ Some Sole → old ≡ true → new ≡ true) → (mode ≡ Some Sole → free ≡ true → free' ≡ true) → IsMarked x last old free → IsMarked x last new free'
marked_more NoPage last old new free free' mode h g f m = tt
marked_more (CleanPage v) last old new free free' mode h g f m = tt
marked_more (DirtyPage v k) last old new free free' mode h g f m = (m.0, ⊎_elim (λ i. inl (g h i)) (λ i. inr (f h i)) m.1)
marked_more (FreedPage k) last old new free free' mode h g f m = (m.0, f h m.1)

shows_truth : (o : Option Block) (x : Page) (v t : Block) → o ≡ Some v → Shows o x → IsCopyPage x t → v ≡ t
shows_truth None x v t e s c = cc
shows_truth (Some u) NoPage v t e s c = absurd s
shows_truth (Some u) (CleanPage z) v t e s c = cc
shows_truth (Some u) (DirtyPage z k) v t e s c = cc
shows_truth (Some u) (FreedPage k) v t e s c = absurd s

moves_page : (o : Option LockId) (lock : LockId) (c b : ℕ) (holds : ℕ → LockId → Option Mode) (x : Page) → MovesOwned o (holds c lock) (holds c) → (holds c lock ≡ Some Sole → holds b lock ≢ None → b ≡ c) → PageHeld x (holds b lock) → PageHeld x (holds b (moved o lock))
moves_page None lock c b holds x m f h = h
moves_page (Some new) lock c b holds NoPage m f h = tt
moves_page (Some new) lock c b holds (CleanPage z) m f h = subst (λ y. holds y new ≢ None) (sym (f m.0 h)) (λ e. let q = m.1 in cc)
moves_page (Some new) lock c b holds (DirtyPage z mark) m f h = subst (λ y. holds y new ≡ Some Sole) (sym (f m.0 (λ e. cc))) m.1
moves_page (Some new) lock c b holds (FreedPage mark) m f h = subst (λ y. holds y new ≡ Some Sole) (sym (f m.0 (λ e. cc))) m.1

claims_logged : (first : ℕ → Bool) (c : Commit) (h : List Item) (s : ℕ) → c.claims s ≡ true → is_logged first (Done c ∷ h) s ≡ false → ⊥
claims_logged first c h s e n = let q : (if c.claims s then true else is_logged first h s) ≡ true = rw e refl in cc

module _ (w : World) (a : Commit) (can : CanDo w a) (k : Logged w) (g : Bytes w) where
  at_page : (P : Page → Type 0) (b t : ℕ) → (b ≡ a.by → P (page_done (a.claims t) (a.writes t) a.op (w.page a.by t))) → (b ≢ a.by → P (w.page b t)) → P ((after w (Do a)).page b t)
  at_page P b t same other = at_put (λ f. P (f t)) w.page a.by (λ s. page_done (a.claims s) (a.writes s) a.op (w.page a.by s)) b same other

  -- a sector that becomes one with versions isn't loose, and isn't written as bytes
  claim_tight : (t : ℕ) → a.claims t ≡ true → IsLoose (w.phase a.by) (w.page a.by t) → ⊥
  claim_tight t e = clean_loose (w.phase a.by) (w.page a.by t) zero_block can.up (can.claims t e).cleared

  claim_plain : (t : ℕ) → a.claims t ≡ true → Writes t a → ⊥
  claim_plain t e i = claims_logged w.logged a (settled w.history) t e (can.plain t i)

  fresh : w.synced a.by < a.op
  fresh = let q : w.synced a.by ≤ w.last a.by = g.synced a.by in let r : w.last a.by < a.op = can.number in omega arith

  pend : (t : ℕ) (c : Commit) (h : List Item) → PendingBytes w t c h → PendingBytes (after w (Do a)) t c h
  pend t c h p = record {
    sole = do_sole w a can k c.by t p.sole;
    read = p.read;
    loose = at_page (λ x. IsLoose (w.phase c.by) x) c.by t
        (λ e. loose_done (a.claims t) (a.writes t) a.op (w.phase c.by) (w.page a.by t) (λ i l. claim_tight t i (subst (λ x. IsLoose (w.phase x) (w.page a.by t)) e l)) (ap w.phase e ∙ can.up) (subst (λ x. IsLoose (w.phase c.by) (w.page x t)) e p.loose)) (λ n. p.loose);
    wrote = λ i. (
      (p.wrote i).0,
      at_page (λ x. CoversPage (w.phase c.by) x c.op) c.by t
          (λ e. covers_done (a.claims t) (a.writes t) a.op c.op (w.last a.by) (in_doubt a.by (w.synced a.by) (settled w.history) t) (is_free w.first (settled w.history) t) (w.phase c.by) (w.page a.by t)
          (λ j l. claim_tight t j (subst (λ x. IsLoose (w.phase x) (w.page a.by t)) e l)) (ap w.phase e ∙ can.up) can.number (g.dirtied a.by t) (subst (λ x. CoversPage (w.phase c.by) (w.page x t) c.op) e (p.wrote i).1)) (λ n. (p.wrote i).1),
    );
  }

  do_known : (t : ℕ) (v : Block) → Known w.first t v (settled w.history) → IsCopyPage (w.page a.by t) v → Known w.first t (truth_filled (a.writes t) v) (Done a ∷ settled w.history)
  do_known t v kn c u fr e = step_known (reaches a t) (a.writes t) (a.shown t) (value w.first (settled w.history) t) (is_free w.first (settled w.history) t) (w.page a.by t) v (λ x f i. kn x f i) (can.shows t) c (reached_or (a.writes t) (a.sees t)) u fr e

  -- a place in the history goes on, for bytes that nobody reaches
  do_map : (t : ℕ) (v : Block) → (IsTrue (reaches a t) → PendingBytes (after w (Do a)) t a (settled w.history)) → OnData w.first w.durable t (PendingBytes w t) v (settled w.history) → OnData w.first w.durable t (PendingBytes (after w (Do a)) t) v (Done a ∷ settled w.history)
  do_map t v p o = newer p (data_map w.first w.durable w.durable t (PendingBytes w t) (PendingBytes (after w (Do a)) t) v (λ d. le_refl (w.durable d)) (λ c h i q. pend t c h q) (settled w.history) o)

  -- an operation of a server that may have bytes which the disk lacks, or that writes
  do_pending : (t : ℕ) → (Writes t a ⊎ (IsLoose (w.phase a.by) (w.page a.by t) × (w.holds a.by (cover w t) ≡ Some Sole))) → PendingBytes (after w (Do a)) t a (settled w.history)
  do_pending t d = record {
    sole = do_sole w a can k a.by t (⊎_elim (λ i. can.written t i) (λ i. i.1) d);
    loose = at_page (λ x. IsLoose (w.phase a.by) x) a.by t
        (λ e. ⊎_elim (λ i. (new_loose (a.claims t) (a.writes t) a.op (w.phase a.by) (w.page a.by t) (claim_plain t) can.up i).0) (λ i. loose_done (a.claims t) (a.writes t) a.op (w.phase a.by) (w.page a.by t) (claim_tight t) can.up i.0) d) (λ n. absurd (n refl));
    wrote = λ i. (fresh, at_page (λ x. CoversPage (w.phase a.by) x a.op) a.by t (λ e. (new_loose (a.claims t) (a.writes t) a.op (w.phase a.by) (w.page a.by t) (claim_plain t) can.up i).1) (λ n. absurd (n refl)));
    read = λ n. ⊎_elim (λ i. absurd (n i)) (λ i. loose_marked (w.phase a.by) (w.page a.by t) (w.last a.by) (in_doubt a.by (w.synced a.by) (settled w.history) t) (is_free w.first (settled w.history) t) can.up i.0 (g.dirtied a.by t)) d;
  }

  loose_sole : (t : ℕ) → IsLoose (w.phase a.by) (w.page a.by t) → w.holds a.by (cover w t) ≡ Some Sole
  loose_sole t l = page_sole (w.phase a.by) (w.page a.by t) (w.holds a.by (cover w t)) can.up l (g.held a.by t)

  do_place : (t : ℕ) → OnData w.first w.durable t (PendingBytes (after w (Do a)) t) (w.bytes t) (Done a ∷ settled w.history)
  do_place t =
      ⊎_elim
      (λ n. ⊎_elim
      (λ l. do_map t (w.bytes t) (λ i. do_pending t (inr (l, loose_sole t l))) (g.place t))
      (λ l. ⊎_elim
      (λ touched.
      let alone : (b : ℕ) → w.holds b (cover w t) ≡ Some Sole → IsLoose (w.phase b) (w.page b t) → ⊥ = λ b h q.
      let e : b ≡ a.by = k.apart b a.by (cover w t) h (reaches_held w a can t touched) in l (subst (λ x. IsLoose (w.phase x) (w.page x t)) e q) in
      let r = data_in_place w.first w.durable t (PendingBytes w t) (w.bytes t) (λ c h p. alone c.by p.sole p.loose) (settled w.history) (g.place t) in
      let none : a.writes t ≡ None = none_writes (a.writes t) n in
      here
      (λ u fr e. let old : is_free w.first (settled w.history) t ≡ false = free_before (a.writes t) (is_free w.first (settled w.history) t) n fr in
      let same : w.bytes t ≡ w.truth t = g.still t old alone in
      do_known t (w.truth t) (g.knows t) (g.copies a.by t) u fr e ∙ ap (λ o. truth_filled o (w.truth t)) none ∙ sym same)
      ((λ i. absurd (n i)), r.1))
      (λ untouched. do_map t (w.bytes t) (λ i. absurd (untouched i)) (g.place t))
      (true_or (reaches a t)))
      (loose_or (w.phase a.by) (w.page a.by t) can.up))
      (λ i. do_map t (w.bytes t) (λ j. do_pending t (inl i)) (g.place t))
      (none_or (a.writes t))

  do_still : (t : ℕ) → is_free_by (a.writes t) (is_free w.first (settled w.history) t) ≡ false
      → ((b : ℕ) → w.holds b (cover (after w (Do a)) t) ≡ Some Sole → IsLoose (w.phase b) ((after w (Do a)).page b t) → ⊥) → w.bytes t ≡ truth_filled (a.writes t) (w.truth t)
  do_still t fr f =
      ⊎_elim
      (λ n. g.still t (free_before (a.writes t) (is_free w.first (settled w.history) t) n fr) (λ b h l. f b (do_sole w a can k b t h) (at_page (λ x. IsLoose (w.phase b) x) b t
      (λ e. loose_done (a.claims t) (a.writes t) a.op (w.phase b) (w.page a.by t) (λ i z. claim_tight t i (subst (λ x. IsLoose (w.phase x) (w.page a.by t)) e z)) (ap w.phase e ∙ can.up) (subst (λ x. IsLoose (w.phase b) (w.page x t)) e l)) (λ m. l)))
      ∙ ap (λ o. truth_filled o (w.truth t)) (sym (none_writes (a.writes t) n)))
      (λ i. absurd (f a.by (do_sole w a can k a.by t (can.written t i)) (at_page (λ x. IsLoose (w.phase a.by) x) a.by t (λ e. (new_loose (a.claims t) (a.writes t) a.op (w.phase a.by) (w.page a.by t) (claim_plain t) can.up i).0) (λ n. absurd (n refl)))))
      (none_or (a.writes t))

  doubt_mine : (t : ℕ) → (Writes t a ⊎ (in_doubt a.by (w.synced a.by) (settled w.history) t ≡ true)) → in_doubt a.by (w.synced a.by) (Done a ∷ settled w.history) t ≡ true
  doubt_mine t d =
      subst (λ o. doubt_step (is_some (a.writes t)) (a.sees t) o (nat_lt (w.synced a.by) a.op) (in_doubt a.by (w.synced a.by) (settled w.history) t) ≡ true) (sym (eq-eqb a.by a.by refl))
      (doubt_own (is_some (a.writes t)) (a.sees t) (nat_lt (w.synced a.by) a.op) (in_doubt a.by (w.synced a.by) (settled w.history) t)
      (λ e. lt-ltb (w.synced a.by) a.op fresh) (λ e. ⊎_elim (λ i. absurd (cc)) (λ i. i) d))

  free_more : (t : ℕ) → (Writes t a → ⊥) → is_free w.first (settled w.history) t ≡ true → is_free_by (a.writes t) (is_free w.first (settled w.history) t) ≡ true
  free_more t n f = subst (λ o. is_free_by o (is_free w.first (settled w.history) t) ≡ true) (sym (none_writes (a.writes t) n)) f

  do_dirtied : (b t : ℕ) → IsMarked ((after w (Do a)).page b t) (put w.last a.by a.op b) (in_doubt b (w.synced b) (Done a ∷ settled w.history) t) (is_free w.first (Done a ∷ settled w.history) t)
  do_dirtied b t =
      at_page (λ x. IsMarked x (put w.last a.by a.op b) (in_doubt b (w.synced b) (Done a ∷ settled w.history) t) (is_free w.first (Done a ∷ settled w.history) t)) b t
      (λ e. subst (λ y. IsMarked (page_done (a.claims t) (a.writes t) a.op (w.page a.by t)) (put w.last a.by a.op y) (in_doubt y (w.synced y) (Done a ∷ settled w.history) t) (is_free w.first (Done a ∷ settled w.history) t)) (sym e)
      (subst (λ l. IsMarked (page_done (a.claims t) (a.writes t) a.op (w.page a.by t)) l (in_doubt a.by (w.synced a.by) (Done a ∷ settled w.history) t) (is_free w.first (Done a ∷ settled w.history) t)) (sym (put_same w.last a.by a.op))
      (marked_done (a.claims t) (a.writes t) a.op (w.last a.by) (w.page a.by t) (in_doubt a.by (w.synced a.by) (settled w.history) t) (in_doubt a.by (w.synced a.by) (Done a ∷ settled w.history) t) (is_free w.first (settled w.history) t)
      can.number (λ i. doubt_mine t (inl i)) (λ i. doubt_mine t (inr i)) (g.dirtied a.by t))))
      (λ n. subst (λ l. IsMarked (w.page b t) l (in_doubt b (w.synced b) (Done a ∷ settled w.history) t) (is_free w.first (Done a ∷ settled w.history) t)) (sym (put_other w.last a.by a.op b n))
      (let apart : w.holds b (cover w t) ≡ Some Sole → IsTrue (reaches a t) → ⊥ = λ m i. n (k.apart b a.by (cover w t) m (reaches_held w a can t i)) in
      marked_more (w.page b t) (w.last b) (in_doubt b (w.synced b) (settled w.history) t) (in_doubt b (w.synced b) (Done a ∷ settled w.history) t) (is_free w.first (settled w.history) t) (is_free w.first (Done a ∷ settled w.history) t) (w.holds b (cover w t)) (g.held b t)
      (λ m o. doubt_other (is_some (a.writes t)) (a.sees t) (nat_eq a.by b) (nat_lt (w.synced b) a.op) (in_doubt b (w.synced b) (settled w.history) t) (apart m) o)
      (λ m o. free_more t (λ i. apart m (writes_reach a t i)) o)
      (g.dirtied b t)))

  last_up : (d : ℕ) → w.last d ≤ put w.last a.by a.op d
  last_up d = at_put (λ x. w.last d ≤ x) w.last a.by a.op d
      (λ e. let q : w.last d ≡ w.last a.by = ap w.last e in let n : w.last a.by < a.op = can.number in omega arith) (λ n. omega arith)

  do_flight : (t : ℕ) (f : ByteFlight) → w.byte_flight t ≡ Some f → w.now ≤ f.stamp → ByteFlightOk (after w (Do a)) t f
  do_flight t f e l =
      let q : ByteFlightOk w t f = g.flights t f e l in
      let mine : IsTrue (reaches a t) → PendingBytes (after w (Do a)) t a (settled w.history) = λ i.
      let s : f.by ≡ a.by = k.apart f.by a.by (cover w t) q.sole (reaches_held w a can t i) in
      do_pending t (inr (subst (λ x. IsLoose (w.phase x) (w.page x t)) s q.loose, subst (λ x. w.holds x (cover w t) ≡ Some Sole) s q.sole)) in
      record {
        place = do_map t f.block mine q.place;
        sole = do_sole w a can k f.by t q.sole;
        lease = q.lease;
        loose = at_page (λ x. IsLoose (w.phase f.by) x) f.by t
            (λ i. loose_done (a.claims t) (a.writes t) a.op (w.phase f.by) (w.page a.by t) (λ j z. claim_tight t j (subst (λ x. IsLoose (w.phase x) (w.page a.by t)) i z)) (ap w.phase i ∙ can.up) (subst (λ x. IsLoose (w.phase f.by) (w.page x t)) i q.loose))
            (λ i. q.loose);
      }

  pub bytes_do : Bytes (after w (Do a))
  bytes_do = record {
    not_up = λ b t. at_page (λ x. PageUnlessUp (w.phase b) x) b t (λ e. up_ok (w.phase b) (page_done (a.claims t) (a.writes t) a.op (w.page a.by t)) (ap w.phase e ∙ can.up)) (λ n. g.not_up b t);
    held = λ b t. moves_page (a.moves t) (cover w t) a.by b w.holds ((after w (Do a)).page b t) (can.moves t) (λ m n. sym (k.apart a.by b (cover w t) m n))
        (at_page (λ x. PageHeld x (w.holds b (cover w t))) b t
        (λ e. subst (λ y. PageHeld (page_done (a.claims t) (a.writes t) a.op (w.page a.by t)) (w.holds y (cover w t))) (sym e) (page_held_done (a.claims t) (a.writes t) a.op (w.page a.by t) (w.holds a.by (cover w t)) (can.written t) (g.held a.by t))) (λ n. g.held b t));
    copies = λ b t. at_page (λ x. IsCopyPage x (truth_filled (a.writes t) (w.truth t))) b t
        (λ e. copy_done (a.claims t) (a.writes t) a.op (w.page a.by t) (w.truth t) (g.copies a.by t))
        (λ n. other_copy (a.writes t) (w.page b t) (w.holds b (cover w t)) (w.truth t) (λ i m. n (sym (k.apart a.by b (cover w t) (can.written t i) m))) (g.held b t) (g.copies b t));
    clean = λ b t. at_page (λ x. IsDiskPage x (w.bytes t)) b t (λ e. disk_done (a.claims t) (a.writes t) a.op (w.page a.by t) (w.bytes t) (g.clean a.by t)) (λ n. g.clean b t);
    dirtied = do_dirtied;
    knows = λ t. do_known t (w.truth t) (g.knows t) (g.copies a.by t);
    still = do_still;
    place = do_place;
    synced = λ d. le_trans (g.synced d) (last_up d);
    counted = g.counted;
    flights = do_flight;
    live = ((λ s u v t sh fr e. g.knows s u fr e ∙ sym (shows_truth (a.shown s) (w.page a.by s) v (w.truth s) sh (can.shows s) (g.copies a.by s))), g.live);
    by_plan = (record { shown = can.reads; noticed = can.noticed; made = can.makes }, g.by_plan);
  }
