-- A line has a record exactly where its entry is one that a removal may lose.
use Rattle.std.proofs.Common.{◌≡◌, ◌<◌, ◌^◌, ◌↔◌, ◌⊎◌, inl, inr, ℕ, Bool, true, false, List, [], map, refl, sym, ◌∙◌, ap, subst}
use Rattle.std.proofs.lemmas.Bool.{not-true}
use Rattle.std.specs.Prelude.{filter}
use Rattle.frang_base.specs.declared.op.Op.{Op}
use Rattle.frang_base.specs.declared.reply.Reply.{Reply}
use Rattle.tree_definitions.specs.declared.history.Entry.{Entry}
use Rattle.tree_definitions.specs.Tree.{FileTree}
use Rattle.tree_definitions.specs.Perform.{Step, Goes, Stops}
use Rattle.tree_definitions.specs.Perform as performs
use Rattle.tree_definitions.specs.Touched.{is_ok}
use Rattle.tree_definitions.specs.Removal.{is_recorded}
use Rattle.tree_definitions.specs.WellFormed.{IsNew}
use Rattle.sector_bytes.specs.Sectors.{Sectors}
use Rattle.disk_definitions.specs.Store.{Store, store_of}
use Rattle.disk_definitions.specs.Naming.{Naming}
use Rattle.disk_definitions.specs.Standing.{IsMetadata}
use Rattle.disk_definitions.specs.Edits.{Edit, edited_all}
use Rattle.disk_definitions.specs.Held.{Segments}
use Rattle.disk_definitions.specs.Allowed.{IsAllowed}
use Rattle.disk_definitions.specs.Ask.{run}
use Rattle.disk_definitions.specs.Plans.{Hand, Plan, Finish, Lacks, Clears, Finishes}
use Rattle.disk_definitions.specs.PlanOf.{plan_of}
use Rattle.disk_definitions.specs.Meets.{IsOfTree, IsHandOf}
use Rattle.disk_definitions.specs.Written.{Cached, hand_of, is_metadata, changes_of}
use Rattle.disk_definitions.specs.FitEdits.{AreFit}
use Rattle.disk_definitions.specs.FitPlans.{IsFitFinish, PlanIsFit}
use Rattle.disk_definitions.specs.OnDisk.{AreOfDisk, StandsBelow}
use Rattle.plan_fit.proofs.Refusing.{refuse_fits}
use Rattle.line_laws.proofs.Edited.{hand}
use Rattle.line_laws.proofs.OfDisk.{of_tree}
use Rattle.disk_definitions.specs.Lines.{with_trail, plan_of_line}
use Rattle.line_laws.specs.Planned.{StepIsAllowed}
use Rattle.line_laws.proofs.Allowed.{stay_allowed}
use Rattle.line_laws.proofs.Comes.{comes_to}
use Rattle.line_laws.proofs.Running.{step_plan, run_performed}
use Rattle.line_laws.specs.Records.{IsEntryOfLine, LinesRecordShapes, LineChangesAreShapes}
use Rattle.line_laws.proofs.Telling.{Apart, Dates}
use Rattle.line_laws.proofs.Recording.{Verdict, refused_verdict}
use Rattle.line_laws.proofs.Changing.{metadata_there}
use Rattle.line_laws.proofs.Recorded.{exactly, plan_verdict, fit_of, fit_changes}
use Rattle.line_laws.proofs.Stopping.{stops_well, resolved_well}

-- ---- a plan and its edits
abbrev edits_of : Plan → List Edit
edits_of Lacks = []
edits_of (Clears block locks) = []
edits_of (Finishes f) = f.edits

abbrev reply_or : Reply → Plan → Reply
reply_or r Lacks = r
reply_or r (Clears block locks) = r
reply_or r (Finishes f) = f.reply

-- a finished plan behind a trail: its locks alone are others
record IsBehind (p : Plan) (f : Finish) : Type 0 where
  finish : Finish
  is : p ≡ Finishes finish
  reply : finish.reply ≡ f.reply
  edits : finish.edits ≡ f.edits

behind : (trail : List ℕ) (p : Plan) (f : Finish) → with_trail trail p ≡ Finishes f → IsBehind p f
behind trail Lacks f e = absurd (cc)
behind trail (Clears block locks) f e = absurd (cc)
behind trail (Finishes g) f e = record { finish = g; is = refl; reply = ap (reply_or g.reply) e; edits = ap edits_of e }

-- what may be said of a finish goes by its edits
fits_by : (h : Hand) (segments : ℕ) (s : Store) (g f : Finish) → g.edits ≡ f.edits → IsFitFinish h segments s g → IsFitFinish h segments s f
fits_by h segments s g f e fit = record {
  edits = subst (λ edits. AreFit segments (edited_all s edits) edits) e fit.edits;
  clear = subst (λ edits. (block : ℕ) → IsMetadata ((edited_all s edits).use_of block) → IsMetadata (s.use_of block) ⊎ (h.zeroed block ≡ true)) e fit.clear;
}

verdict_by : (tree : FileTree) (e : Entry) (s : Store) (g f : Finish) → g.edits ≡ f.edits → Verdict tree e s g → Verdict tree e s f
verdict_by tree e s g f same (inl v) = inl (sym same ∙ v.0, v.1)
verdict_by tree e s g f same (inr v) = inr (v.0, subst (λ edits. Apart s (edited_all s edits) ⊎ Dates edits) same v.1)

-- ---- the verdict on a line
module _ (h : Hand) (s : Store) (tree : FileTree) (n : Naming) (birth when : ℕ) (o : Op) (f : Finish) (e : Entry) (of : IsOfTree s tree n) (at : IsHandOf h s tree.segments) (new : IsNew tree birth)
    (entry : IsEntryOfLine birth when o f e) where
  step_verdict : (trail : List ℕ) (step : Step) → (performs.resolved tree o).step ≡ step → stops_well step ≡ true → step_plan h s birth when trail step ≡ Finishes f → Verdict tree e s f
  step_verdict trail (Goes p) comes well is =
      let inner = behind trail (run (plan_of h birth when p) s) f is in
      let comes_too : (performs.resolved tree e.op).step ≡ Goes p = ap (λ q. (performs.resolved tree q).step) entry.operates ∙ comes in
      verdict_by tree e s inner.finish f inner.edits
      (plan_verdict h s tree n birth when p inner.finish e of at new inner.is (record { number = entry.number; time = entry.time; reply = entry.reply ∙ sym inner.reply; comes = comes_too }))
  step_verdict trail (Stops r) comes well is =
      let said : f.reply ≡ r = sym (ap (reply_or r) is) in
      refused_verdict tree e s f (sym (ap edits_of is)) (ap is_ok (entry.reply ∙ said) ∙ not-true (is_ok r) well)

  line_verdict : run (plan_of_line h birth when o) s ≡ Finishes f → Verdict tree e s f
  line_verdict is =
      let walked = performs.resolved tree o in
      step_verdict (map n.inode walked.trail) walked.step refl (resolved_well tree o) (sym (run_performed h s birth when tree n of o) ∙ is)

pub lines_record_shapes : LinesRecordShapes
lines_record_shapes h s tree n birth when o f e of at new is entry =
    exactly tree e s f (filter is_metadata f.edits ≡ []) (λ none. ap (filter is_metadata) none) (λ none there. metadata_there s f.edits none there)
    (line_verdict h s tree n birth when o f e of at new entry is)

-- ---- the changes of a line
module _ (cached : Cached) (held : Segments) (all : Bool) (sectors : Sectors) (tree : FileTree) (birth when : ℕ) (o : Op) (f : Finish) (e : Entry) (allowed : IsAllowed o)
    (of : AreOfDisk cached held all tree.segments sectors) (below : StandsBelow sectors tree) (new : IsNew tree birth) (small_birth : birth < 2 ^ 64) (small_time : when < 2 ^ 64)
    (is : run (plan_of_line (hand_of cached held all) birth when o) (store_of tree.segments sectors) ≡ Finishes f) (entry : IsEntryOfLine birth when o f e) where
  abbrev s : Store
  s = store_of tree.segments sectors

  abbrev h : Hand
  h = hand_of cached held all

  abbrev n : Naming
  n = below.stands.naming

  may : StepIsAllowed (performs.resolved tree o).step
  may = subst (λ (w : performs.Resolved). StepIsAllowed w.step) (comes_to o s tree n (of_tree sectors tree below)) (stay_allowed o s allowed)

  step_fits : (trail : List ℕ) (step : Step) → StepIsAllowed step → step_plan h s birth when trail step ≡ Finishes f → IsFitFinish h tree.segments s f
  step_fits trail (Goes p) may_be from =
      let inner = behind trail (run (plan_of h birth when p) s) f from in
      fits_by h tree.segments s inner.finish f inner.edits
      (subst (PlanIsFit h tree.segments s) inner.is (fit_of cached held all sectors tree birth when p inner.finish e may_be of below new small_birth small_time p may_be))
  step_fits trail (Stops r) may_be from = subst (PlanIsFit h tree.segments s) from (refuse_fits h tree.segments s r trail)

  line_changes : (changes_of sectors f.edits ≡ []) ↔ (is_recorded tree e ≡ false)
  line_changes =
      let walked = performs.resolved tree o in
      fit_changes cached held all sectors tree birth when o f e allowed of below new small_birth small_time
      (step_fits (map n.inode walked.trail) walked.step may (sym (run_performed h s birth when tree n (of_tree sectors tree below) o) ∙ is))
      (line_verdict h s tree n birth when o f e (of_tree sectors tree below) (hand o cached held all sectors tree birth when of below) new entry is)

pub line_changes_are_shapes : LineChangesAreShapes
line_changes_are_shapes cached held all sectors tree birth when o f e allowed of below new small_birth small_time is entry =
    line_changes cached held all sectors tree birth when o f e allowed of below new small_birth small_time is entry
