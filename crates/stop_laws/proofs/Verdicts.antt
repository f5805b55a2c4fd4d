-- A line over sectors whose bytes read as zeros has changes exactly where its entry is one that a removal may lose.
use Rattle.std.proofs.Common.{ℕ, ◌≡◌, ◌<◌, ◌^◌, ◌↔◌, ◌⊎◌, inl, inr, true, false, List, [], ◌∷◌, map, refl, sym, ◌∙◌, ap, subst}
use Rattle.std.proofs.lemmas.Bool.{not-true}
use Rattle.frang_base.specs.declared.op.Op.{Op}
use Rattle.frang_base.specs.declared.reply.Reply.{Reply}
use Rattle.frang_base.specs.Functions.{put, put2}
use Rattle.tree_definitions.specs.declared.history.Entry.{Entry}
use Rattle.tree_definitions.specs.Perform.{Step, Goes, Stops}
use Rattle.tree_definitions.specs.Perform as performs
use Rattle.tree_definitions.specs.Removal.{is_recorded}
use Rattle.tree_definitions.specs.Touched.{is_ok, shape_of, shaped}
use Rattle.tree_definitions.specs.Tree.{FileTree}
use Rattle.tree_definitions.specs.WellFormed.{IsNew}
use Rattle.tree_laws.proofs.ShapeNodes.{found}
use Rattle.sector_bytes.specs.Sectors.{Sectors}
use Rattle.disk_definitions.specs.Naming.{Naming}
use Rattle.disk_definitions.specs.Standing.{IsMetadata}
use Rattle.disk_definitions.specs.Store.{Store, Use, store_of}
use Rattle.disk_definitions.specs.Edits.{Edit, SetInode, SetBit, SetUse, SetPlace, SetLarge, SetBytes, SetLargeBytes, edited, edited_all}
use Rattle.disk_definitions.specs.Allowed.{IsAllowed}
use Rattle.disk_definitions.specs.Ask.{run}
use Rattle.disk_definitions.specs.Meets.{IsOfTree, IsHandOf}
use Rattle.disk_definitions.specs.PlanOf.{plan_of}
use Rattle.disk_definitions.specs.Plans.{Hand, Plan, Finish, Lacks, Clears, Finishes}
use Rattle.disk_definitions.specs.Ready.{IsReady, store_after}
use Rattle.disk_definitions.specs.Written.{changes_of}
use Rattle.disk_definitions.specs.Lines.{with_trail, plan_of_line}
use Rattle.line_laws.proofs.Running.{step_plan, run_performed}
use Rattle.line_laws.specs.Records.{IsEntryOfLine}
use Rattle.line_laws.proofs.Changing.{change_there}
use Rattle.line_laws.proofs.Recorded.{exactly, plan_verdict}
use Rattle.line_laws.proofs.Recording.{Verdict, refused_verdict}
use Rattle.line_laws.proofs.Stopping.{stops_well, resolved_well}
use Rattle.line_laws.proofs.Telling.{Apart, Dates}
use Rattle.line_laws.specs.Ready.{IsClearOn}
use Rattle.line_laws.proofs.Readiness.{lines_may_be_made}
use Rattle.line_histories.specs.LinePlans.{store_on}
use Rattle.line_histories.specs.Standing.{StandsForShape}
use Rattle.line_histories.proofs.Disks.{blank_of}

-- ---- a plan behind a trail: its locks alone are others

abbrev reply_or : Reply → Plan → Reply
reply_or other Lacks = other
reply_or other (Clears block locks) = other
reply_or other (Finishes f) = f.reply

abbrev edits_or : Plan → List Edit
edits_or Lacks = []
edits_or (Clears block locks) = []
edits_or (Finishes f) = f.edits

record HasInner (p : Plan) (f : Finish) : Type 0 where
  inner : Finish
  is : p ≡ Finishes inner
  reply : inner.reply ≡ f.reply
  edits : inner.edits ≡ f.edits

inner_of : (trail : List ℕ) (p : Plan) (f : Finish) → with_trail trail p ≡ Finishes f → HasInner p f
inner_of trail Lacks f e = absurd (cc)
inner_of trail (Clears block locks) f e = absurd (cc)
inner_of trail (Finishes g) f e = record { inner = g; is = refl; reply = ap (reply_or g.reply) e; edits = ap edits_or e }

verdict_by : (tree : FileTree) (e : Entry) (s : Store) (g f : Finish) → g.edits ≡ f.edits → Verdict tree e s g → Verdict tree e s f
verdict_by tree e s g f same (inl v) = inl (sym same ∙ v.0, v.1)
verdict_by tree e s g f same (inr v) = inr (v.0, subst (λ edits. Apart s (edited_all s edits) ⊎ Dates edits) same v.1)

module _ (h : Hand) (s : Store) (tree : FileTree) (n : Naming) (birth when : ℕ) (o : Op) (f : Finish) (e : Entry) (of : IsOfTree s tree n) (at : IsHandOf h s tree.segments)
    (new : IsNew tree birth)
    (entry : IsEntryOfLine birth when o f e) where
  by_step : (trail : List ℕ) (step : Step) → (performs.resolved tree o).step ≡ step → stops_well step ≡ true → step_plan h s birth when trail step ≡ Finishes f → Verdict tree e s f
  by_step trail (Goes p) comes well is =
      let own = inner_of trail (run (plan_of h birth when p) s) f is in
      let comes_too : (performs.resolved tree e.op).step ≡ Goes p = ap (λ q. (performs.resolved tree q).step) entry.operates ∙ comes in
      verdict_by tree e s own.inner f own.edits
      (plan_verdict h s tree n birth when p own.inner e of at new own.is (record { number = entry.number; time = entry.time; reply = entry.reply ∙ sym own.reply; comes = comes_too }))
  by_step trail (Stops r) comes well is =
      let said : f.reply ≡ r = sym (ap (reply_or r) is) in
      refused_verdict tree e s f (sym (ap edits_or is)) (ap is_ok (entry.reply ∙ said) ∙ not-true (is_ok r) well)

  line_verdict : run (plan_of_line h birth when o) s ≡ Finishes f → Verdict tree e s f
  line_verdict is =
      let walked = performs.resolved tree o in
      by_step (map n.inode walked.trail) walked.step refl (resolved_well tree o) (sym (run_performed h s birth when tree n of o) ∙ is)

-- ---- edits make the same but for bytes, whatever bytes there are

record SaysBesides (s t : Store) : Type 0 where
  inode : t.inode ≡ s.inode
  place : t.place ≡ s.place
  uses : t.use_of ≡ s.use_of

besides : (edits : List Edit) (s t : Store) → SaysBesides s t → SaysBesides (edited_all s edits) (edited_all t edits)
besides [] s t a = a
besides (SetInode i x dated ∷ edits) s t a =
    besides edits (edited s (SetInode i x dated)) (edited t (SetInode i x dated)) (record { inode = ap (λ z. put z i x) a.inode; place = a.place; uses = a.uses })
besides (SetBit i b ∷ edits) s t a = besides edits (edited s (SetBit i b)) (edited t (SetBit i b)) (record { inode = a.inode; place = a.place; uses = a.uses })
besides (SetUse k u ∷ edits) s t a =
    besides edits (edited s (SetUse k u)) (edited t (SetUse k u)) (record { inode = a.inode; place = a.place; uses = ap (λ z. put z k u) a.uses })
besides (SetPlace k p x ∷ edits) s t a =
    besides edits (edited s (SetPlace k p x)) (edited t (SetPlace k p x)) (record { inode = a.inode; place = ap (λ z. put2 z k p x) a.place; uses = a.uses })
besides (SetLarge g b ∷ edits) s t a = besides edits (edited s (SetLarge g b)) (edited t (SetLarge g b)) (record { inode = a.inode; place = a.place; uses = a.uses })
besides (SetBytes k part bytes ∷ edits) s t a =
    besides edits (edited s (SetBytes k part bytes)) (edited t (SetBytes k part bytes)) (record { inode = a.inode; place = a.place; uses = a.uses })
besides (SetLargeBytes g part bytes ∷ edits) s t a =
    besides edits (edited s (SetLargeBytes g part bytes)) (edited t (SetLargeBytes g part bytes)) (record { inode = a.inode; place = a.place; uses = a.uses })

apart_too : (s t s_then t_then : Store) → SaysBesides s t → SaysBesides s_then t_then → Apart t t_then → Apart s s_then
apart_too s t s_then t_then a b (inl other) = inl (record {
  number = other.number;
  differs = λ e. other.differs (ap (λ g. g other.number) b.inode ∙ e ∙ sym (ap (λ g. g other.number) a.inode));
})
apart_too s t s_then t_then a b (inr other) = inr (record {
  block = other.block;
  slot = other.slot;
  inside = other.inside;
  metadata = subst IsMetadata (ap (λ (g : ℕ → Use). g other.block) b.uses) other.metadata;
  differs = λ e. other.differs (ap (λ g. g other.block other.slot) b.place ∙ e ∙ sym (ap (λ g. g other.block other.slot) a.place));
})

-- ---- over sectors that stand for a shape

module _ (disk : Sectors) (tree : FileTree) (stands : StandsForShape tree.segments disk tree) (h : Hand) (at : IsHandOf h (store_on tree.segments disk) tree.segments)
    (clear : IsClearOn disk h) (birth when : ℕ) (o : Op) (may : IsAllowed o) (new : IsNew tree birth) (small_birth : birth < 2 ^ 64) (small_time : when < 2 ^ 64)
    (f : Finish) (is : run (plan_of_line h birth when o) (store_on tree.segments disk) ≡ Finishes f) (e : Entry) (entry : IsEntryOfLine birth when o f e) where
  abbrev on : Store
  on = store_on tree.segments disk

  own : Verdict (shape_of tree) e on f
  own =
      line_verdict h on (shape_of tree) stands.below.stands.naming birth when o f e (blank_of disk tree stands) at (found tree birth ∙ ap shaped new) entry is

  ready : IsReady stands.below.most tree.segments disk f.edits
  ready =
      (lines_may_be_made o h disk (shape_of tree) (λ block index. 0) (λ large index. 0) birth when f may stands.below at clear small_birth small_time is).ready

  there : Apart on (edited_all on f.edits) ⊎ Dates f.edits → Apart (store_of tree.segments disk) (store_after tree.segments disk f.edits) ⊎ Dates f.edits
  there (inl apart) =
      let now : SaysBesides (store_of tree.segments disk) on = record { inode = refl; place = refl; uses = refl } in
      inl (apart_too (store_of tree.segments disk) on (store_after tree.segments disk f.edits) (edited_all on f.edits) now (besides f.edits (store_of tree.segments disk) on now) apart)
  there (inr dates) = inr dates

  pub changes_exactly : (changes_of disk f.edits ≡ []) ↔ (is_recorded (shape_of tree) e ≡ false)
  changes_exactly =
      exactly (shape_of tree) e on f (changes_of disk f.edits ≡ []) (λ none. ap (changes_of disk) none)
      (λ none apart. change_there stands.below.most tree.segments disk f.edits ready none (there apart)) own
