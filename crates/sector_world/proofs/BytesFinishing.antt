-- The end of a recovery: what was not durable goes, and what was not synced is in doubt.
use Rattle.std.proofs.Common.{true, false, List, [], ◌∷◌, Bool, ⊎_elim, ℕ, ◌<◌, ◌≤◌, ◌≡◌, ◌≢◌, inl, inr, Option, Some, None, nat_eq, refl, sym, ◌∙◌, ap, subst, arith}
use Rattle.std.proofs.lemmas.Bool.{eqb-true}
use Rattle.frang_base.specs.declared.lock.Mode.{Mode}
use Rattle.frang_base.specs.declared.lock.Mode.TheVariants.{Shared, Sole}
use Rattle.sector_bytes.specs.Blocks.{Block}
use Rattle.frang_base.specs.Functions.{put}
use Rattle.sector_world.specs.Histories.{Item, Entry, kept, survives, in_doubt, synced_of, recovered, settled, Each, Writes}
use Rattle.sector_world.specs.Histories.Entry.{Did, Recovered, Synced, Mounted}
use Rattle.sector_world.specs.HistoryBytes.{is_free, Known, OnData}
use Rattle.sector_world.specs.HistoryBytes.OnData.{here, marked}
use Rattle.sector_world.specs.Plans.{IsByPlan}
use Rattle.sector_world.specs.Seen.{Alters, Unsynced}
use Rattle.frang_base.proofs.Basics.{by_test, le_or_lt, at_put, put_other}
use Rattle.sector_world.proofs.HistoryLaws.{each_map, each_kept}
use Rattle.sector_world.proofs.Seen.{each_kept_with}
use Rattle.sector_world.proofs.Bytes.{survives_up, free_kept, known_kept, doubt_kept, finish_known, recovered_known, agree_kept, data_kept}
use Rattle.sector_world.specs.World.{World, Phase, Page, ByteFlight, Rescue, cover}
use Rattle.sector_world.specs.World.Phase.{Off, Up, Dead}
use Rattle.sector_world.specs.World.Page.{NoPage, CleanPage, DirtyPage, FreedPage}
use Rattle.sector_world.specs.Guards.{CanFinish}
use Rattle.sector_world.specs.Steps.{after, truth_left}
use Rattle.sector_world.specs.Steps.Event.{Finish}
use Rattle.sector_world.specs.Logged.{Logged, RescueOk}
use Rattle.sector_world.specs.Bytes.{IsLoose, PendingBytes, PageHeld, PageUnlessUp, IsCopyPage, IsMarked, ByteFlightOk, Bytes}
use Rattle.sector_world.proofs.Reaching.{sole_held}
use Rattle.sector_world.proofs.Recovering.{sole_or_not}
use Rattle.sector_world.proofs.Finishing.{k, lost_sole, not_dead, other_holds}

left_sole : (m : Option Mode) (x y : Block) → m ≡ Some Sole → truth_left m x y ≡ x
left_sole None x y e = cc
left_sole (Some Shared) x y e = cc
left_sole (Some Sole) x y e = refl

left_other : (m : Option Mode) (x y : Block) → (m ≡ Some Sole → ⊥) → truth_left m x y ≡ y
left_other None x y n = refl
left_other (Some Shared) x y n = refl
left_other (Some Sole) x y n = absurd (n refl)

page_mode : (x : Page) (m : Option Mode) → PageHeld x m → x ≢ NoPage → m ≢ None
page_mode NoPage m h n = absurd (n refl)
page_mode (CleanPage z) m h n = h
page_mode (DirtyPage z mark) m h n = λ e. cc
page_mode (FreedPage mark) m h n = λ e. cc

dead_page : (p : Phase) (x : Page) → p ≡ Dead → PageUnlessUp p x → x ≡ NoPage
dead_page Off x e a = a
dead_page Up x e a = absurd (cc)
dead_page Dead x e a = a

by_page : (P : Page → Type 0) (x : Page) → P NoPage → (x ≢ NoPage → P x) → P x
by_page P NoPage a f = a
by_page P (CleanPage z) a f = f (λ e. cc)
by_page P (DirtyPage z mark) a f = f (λ e. cc)
by_page P (FreedPage mark) a f = f (λ e. cc)

marked_more : (x : Page) (last : ℕ) (old new free free' : Bool) → (old ≡ true → new ≡ true) → (free ≡ true → free' ≡ true) → IsMarked x last old free → IsMarked x last new free'
marked_more NoPage last old new free free' f g m = tt
marked_more (CleanPage v) last old new free free' f g m = tt
marked_more (DirtyPage v j) last old new free free' f g m = (m.0, ⊎_elim (λ i. inl (f i)) (λ i. inr (g i)) m.1)
marked_more (FreedPage j) last old new free free' f g m = (m.0, g m.1)

-- what is synced is durable
pub synced_low : (d n : ℕ) (h : List Entry) → Unsynced d n h → synced_of d h ≤ n
synced_low d n [] u = omega arith
synced_low d n (Did c ∷ h) u = synced_low d n h u
synced_low d n (Recovered e j ∷ h) u = synced_low d n h u
synced_low d n (Synced e op ∷ h) u = by_test (λ x. x ≤ n) op (synced_of d h) (nat_eq d e) (λ i. u.0 (sym (eqb-true d e i))) (λ i. synced_low d n h u.1)
synced_low d n (Mounted e op ∷ h) u = by_test (λ x. x ≤ n) op (synced_of d h) (nat_eq d e) (λ i. u.0 (sym (eqb-true d e i))) (λ i. synced_low d n h u.1)

module _ (w : World) (r : Rescue) (can : CanFinish w r) (l : Logged w) (g : Bytes w) where
  q : RescueOk w r
  q = k w r can l

  -- no write goes at a sector that the dead server doesn't hold alone
  writes_stay : (t : ℕ) → (w.holds r.dead (cover w t) ≡ Some Sole → ⊥) → Each (λ a. Writes t a → survives r.dead (w.durable r.dead) a ≡ true) (settled w.history)
  writes_stay t n = each_map (λ c. Alters t c → survives r.dead (w.durable r.dead) c ≡ true) (λ c. Writes t c → survives r.dead (w.durable r.dead) c ≡ true) (λ c m i. m (inr (inr i))) (settled w.history) (lost_sole w r can l t n)

  abbrev rest : List Item
  rest = recovered r.dead (w.durable r.dead) (synced_of r.dead w.history) (settled w.history)

  abbrev truth' : ℕ → Block
  truth' t = truth_left (w.holds r.dead (cover w t)) (w.bytes t) (w.truth t)

  free_same : (t : ℕ) → (w.holds r.dead (cover w t) ≡ Some Sole → ⊥) → is_free w.first rest t ≡ is_free w.first (settled w.history) t
  free_same t n = free_kept w.first t (survives r.dead (w.durable r.dead)) (settled w.history) (writes_stay t n)

  known_here : (t : ℕ) → w.holds r.dead (cover w t) ≡ Some Sole → Known w.first t (w.bytes t) rest
  known_here t e =
      recovered_known w.first t r.dead (w.durable r.dead) (synced_of r.dead w.history) (w.bytes t) (settled w.history)
      (finish_known w.first w.durable t r.dead (synced_of r.dead w.history) (PendingBytes w t) (w.bytes t)
      (λ a h p. let m : a.by ≡ r.dead = l.apart a.by r.dead (cover w t) p.sole (sole_held (w.holds r.dead (cover w t)) e) in
      let n : w.synced a.by ≡ synced_of r.dead w.history = ap w.synced m ∙ g.counted r.dead in
      (m, (λ i. subst (λ x. x < a.op) n (p.wrote i).0), (λ i. ⊎_elim (λ j. inl (subst (λ x. in_doubt x (synced_of r.dead w.history) h t ≡ true) m (subst (λ x. in_doubt a.by x h t ≡ true) n j))) (λ j. inr j) (p.read i))))
      (settled w.history) l.ops g.live (g.place t))

  finish_knows : (t : ℕ) → Known w.first t (truth' t) rest
  finish_knows t =
      ⊎_elim
      (λ e. subst (λ v. Known w.first t v rest) (sym (left_sole (w.holds r.dead (cover w t)) (w.bytes t) (w.truth t) e)) (known_here t e))
      (λ n. subst (λ v. Known w.first t v rest) (sym (left_other (w.holds r.dead (cover w t)) (w.bytes t) (w.truth t) n))
      (recovered_known w.first t r.dead (w.durable r.dead) (synced_of r.dead w.history) (w.truth t) (settled w.history)
      (λ x. known_kept w.first t (w.truth t) (survives r.dead (w.durable r.dead)) (settled w.history) (writes_stay t n) g.live (g.knows t))))
      (sole_or_not (w.holds r.dead (cover w t)))

  finish_goes : (t : ℕ) (v : Block) → (w.holds r.dead (cover w t) ≡ Some Sole → ⊥) → OnData w.first w.durable t (PendingBytes w t) v (settled w.history) → OnData w.first w.durable t (PendingBytes (after w (Finish r)) t) v rest
  finish_goes t v n o = marked (data_kept w.first w.durable t (PendingBytes w t) (PendingBytes (after w (Finish r)) t) v r.dead (w.durable r.dead)
      (λ c h stay p. let m : c.by ≢ r.dead = (λ x. n (ap (λ y. w.holds y (cover w t)) (sym x) ∙ p.sole)) in
      record {
        sole = other_holds w r can l c.by t m (sole_held (w.holds c.by (cover w t)) p.sole) ∙ p.sole;
        loose = rw (put_other w.phase r.dead Off c.by m) p.loose;
        wrote = λ i. ((p.wrote i).0, rw (put_other w.phase r.dead Off c.by m) (p.wrote i).1);
        read = λ i. ⊎_elim (λ j. inl (doubt_kept c.by (w.synced c.by) t r.dead (w.durable r.dead) m h j)) (λ j. inr (free_kept w.first t (survives r.dead (w.durable r.dead)) h stay ∙ j)) (p.read i);
      })
      (settled w.history) (writes_stay t n) g.live o)

  finish_place : (t : ℕ) → OnData w.first w.durable t (PendingBytes (after w (Finish r)) t) (w.bytes t) rest
  finish_place t =
      ⊎_elim
      (λ e. here (known_here t e)
      (each_map (λ a. (survives r.dead (w.durable r.dead) a ≡ true) × (Alters t a → w.durable a.by < a.op → w.holds a.by (cover w t) ≡ Some Sole)) (λ a. Writes t a → a.op ≤ w.durable a.by)
      (λ a m i. ⊎_elim (λ x. x)
      (λ x. let z : a.by ≡ r.dead = l.apart a.by r.dead (cover w t) (m.1 (inr (inr i)) x) (sole_held (w.holds r.dead (cover w t)) e) in
      let y : w.durable a.by ≡ w.durable r.dead = ap w.durable z in
      let u : a.op ≤ w.durable r.dead = survives_up r.dead (w.durable r.dead) a z m.0 in absurd (omega arith))
      (le_or_lt a.op (w.durable a.by)))
      (kept (survives r.dead (w.durable r.dead)) (settled w.history))
      (each_kept_with (λ a. Alters t a → w.durable a.by < a.op → w.holds a.by (cover w t) ≡ Some Sole) (survives r.dead (w.durable r.dead)) (settled w.history) (l.firm t))))
      (λ n. finish_goes t (w.bytes t) n (g.place t))
      (sole_or_not (w.holds r.dead (cover w t)))

  no_page : (b t : ℕ) → b ≡ r.dead → w.page b t ≡ NoPage
  no_page b t e = ap (λ x. w.page x t) e ∙ dead_page (w.phase r.dead) (w.page r.dead t) q.dead (g.not_up r.dead t)

  page_other : (b t : ℕ) → w.page b t ≢ NoPage → b ≢ r.dead
  page_other b t n e = n (no_page b t e)

  page_held : (b t : ℕ) → w.page b t ≢ NoPage → w.holds b (cover w t) ≢ None
  page_held b t n = page_mode (w.page b t) (w.holds b (cover w t)) (g.held b t) n

  page_sole : (b t : ℕ) → w.page b t ≢ NoPage → w.holds r.dead (cover w t) ≡ Some Sole → ⊥
  page_sole b t n = not_dead w r can l b t (page_other b t n) (page_held b t n)

  finish_still : (t : ℕ) → is_free w.first rest t ≡ false → ((b : ℕ) → (after w (Finish r)).holds b (cover (after w (Finish r)) t) ≡ Some Sole → IsLoose (put w.phase r.dead Off b) (w.page b t) → ⊥) → w.bytes t ≡ truth' t
  finish_still t fr f =
      ⊎_elim
      (λ e. sym (left_sole (w.holds r.dead (cover w t)) (w.bytes t) (w.truth t) e))
      (λ n. g.still t (sym (free_same t n) ∙ fr) (λ b h z. let m : b ≢ r.dead = (λ x. n (ap (λ y. w.holds y (cover w t)) (sym x) ∙ h)) in
      f b (other_holds w r can l b t m (sole_held (w.holds b (cover w t)) h) ∙ h) (rw (put_other w.phase r.dead Off b m) z))
      ∙ sym (left_other (w.holds r.dead (cover w t)) (w.bytes t) (w.truth t) n))
      (sole_or_not (w.holds r.dead (cover w t)))

  finish_flight : (t : ℕ) (f : ByteFlight) → w.byte_flight t ≡ Some f → w.now ≤ f.stamp → ByteFlightOk (after w (Finish r)) t f
  finish_flight t f e i =
      let p : ByteFlightOk w t f = g.flights t f e i in
      let n : f.by ≢ r.dead = (λ j. let u : f.stamp ≤ w.expiry f.by = p.lease in let y : w.expiry r.dead < w.now = q.ended in let z : w.expiry f.by ≡ w.expiry r.dead = ap w.expiry j in absurd (omega arith)) in
      let held : w.holds f.by (cover w t) ≢ None = sole_held (w.holds f.by (cover w t)) p.sole in
      record {
        place = finish_goes t f.block (not_dead w r can l f.by t n held) p.place;
        sole = other_holds w r can l f.by t n held ∙ p.sole;
        lease = p.lease;
        loose = rw (put_other w.phase r.dead Off f.by n) p.loose;
      }

  pub bytes_finish : Bytes (after w (Finish r))
  bytes_finish = record {
    not_up = λ b t. at_put (λ p. PageUnlessUp p (w.page b t)) w.phase r.dead Off b (λ e. no_page b t e) (λ n. g.not_up b t);
    held = λ b t. by_page (λ x. x ≡ w.page b t → PageHeld x ((after w (Finish r)).holds b (cover (after w (Finish r)) t))) (w.page b t) (λ e. tt)
        (λ n e. subst (λ m. PageHeld (w.page b t) m) (sym (other_holds w r can l b t (page_other b t n) (page_held b t n))) (g.held b t)) refl;
    copies = λ b t. by_page (λ x. x ≡ w.page b t → IsCopyPage x (truth' t)) (w.page b t) (λ e. tt)
        (λ n e. subst (λ v. IsCopyPage (w.page b t) v) (sym (left_other (w.holds r.dead (cover w t)) (w.bytes t) (w.truth t) (page_sole b t n))) (g.copies b t)) refl;
    clean = g.clean;
    dirtied = λ b t. by_page (λ x. x ≡ w.page b t → IsMarked x (put w.last r.dead (w.durable r.dead) b) (in_doubt b (w.synced b) rest t) (is_free w.first rest t)) (w.page b t) (λ e. tt)
        (λ n e. subst (λ x. IsMarked (w.page b t) x (in_doubt b (w.synced b) rest t) (is_free w.first rest t)) (sym (put_other w.last r.dead (w.durable r.dead) b (page_other b t n)))
        (marked_more (w.page b t) (w.last b) (in_doubt b (w.synced b) (settled w.history) t) (in_doubt b (w.synced b) rest t) (is_free w.first (settled w.history) t) (is_free w.first rest t)
        (doubt_kept b (w.synced b) t r.dead (w.durable r.dead) (page_other b t n) (settled w.history))
        (λ i. free_same t (page_sole b t n) ∙ i) (g.dirtied b t))) refl;
    knows = finish_knows;
    still = finish_still;
    place = finish_place;
    synced = λ d. at_put (λ x. w.synced d ≤ x) w.last r.dead (w.durable r.dead) d
        (λ e. subst (λ x. x ≤ w.durable r.dead) (sym (ap w.synced e ∙ g.counted r.dead)) (synced_low r.dead (w.durable r.dead) w.history (l.unsynced r.dead))) (λ n. g.synced d);
    counted = g.counted;
    flights = finish_flight;
    live = agree_kept w.first r.dead (w.durable r.dead) (settled w.history) l.ops (l.unseen r.dead) g.live;
    by_plan = each_kept IsByPlan (survives r.dead (w.durable r.dead)) (settled w.history) g.by_plan;
  }
