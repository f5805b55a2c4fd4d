-- A record is there exactly where the entry is one that a removal may lose.
use Rattle.std.proofs.Common.{◌≡◌, ◌<◌, ◌^◌, ◌↔◌, ◌⊎◌, inl, inr, ℕ, Bool, true, false, Option, Some, None, [], refl, sym, ◌∙◌, ap, ap₂, subst}
use Rattle.std.specs.Prelude.{filter}
use Rattle.frang_base.specs.declared.op.Op.{Op}
use Rattle.frang_base.specs.declared.op.Op.TheVariants as op
use Rattle.frang_base.specs.declared.reply.Reply.TheVariants as reply
use Rattle.tree_definitions.specs.declared.history.Entry.{Entry}
use Rattle.tree_definitions.specs.Tree.{FileTree}
use Rattle.tree_definitions.specs.Apply.{apply}
use Rattle.tree_definitions.specs.History.{told_blocks}
use Rattle.tree_definitions.specs.Removal.{writes_file, is_recorded}
use Rattle.tree_definitions.specs.WellFormed.{IsNew}
use Rattle.sector_bytes.specs.Sectors.{Sectors}
use Rattle.disk_definitions.specs.Store.{Store, store_of}
use Rattle.disk_definitions.specs.Naming.{Naming}
use Rattle.disk_definitions.specs.Held.{Segments}
use Rattle.disk_definitions.specs.Edits.{edited_all}
use Rattle.disk_definitions.specs.Allowed.{IsAllowed}
use Rattle.disk_definitions.specs.Ask.{Sector, Ask, AtHand, Has, run, looks, meet}
use Rattle.disk_definitions.specs.Plans.{Hand, Plan, Finish, Finishes}
use Rattle.disk_definitions.specs.PlanOf.{plan_of}
use Rattle.disk_definitions.specs.Meets.{IsOfTree, IsHandOf}
use Rattle.disk_definitions.specs.Missing.{first_missing, unless_missing}
use Rattle.disk_definitions.specs.Written.{Cached, at_hand, hand_of, sectors_at_hand, is_metadata, changes_of}
use Rattle.disk_definitions.specs.FitPlans.{IsFitFinish, PlanIsFit}
use Rattle.disk_definitions.specs.OnDisk.{AreOfDisk, StandsBelow}
use Rattle.plan_fit.proofs.Refusing.{refuse_fits}
use Rattle.plan_laws.proofs.AllInside.{all_inside}
use Rattle.plan_laws.proofs.Deciding.{meets_where}
use Rattle.line_laws.specs.Laws.{HasPath}
use Rattle.line_laws.proofs.AtHand.{agrees}
use Rattle.line_laws.proofs.Edited.{hand, where_edited}
use Rattle.line_laws.proofs.OfDisk.{of_tree}
use Rattle.line_laws.proofs.Operations.{all_fit}
use Rattle.line_laws.proofs.SameChanges.{same_changes}
use Rattle.line_laws.proofs.Written.{fit_store, ready}
use Rattle.line_laws.specs.Records.{IsEntryOf, RecordsAreShapes, ChangesAreShapes, ChangesAtHandAreShapes}
use Rattle.line_laws.proofs.Telling.{Apart, Dates, PlanTells}
use Rattle.line_laws.proofs.AllTold.{all_told}
use Rattle.line_laws.proofs.Recording.{Verdict, verdict}
use Rattle.line_laws.proofs.Changing.{metadata_there, change_there}

-- what is none exactly where nothing is recorded, by the verdict on the plan
module _ (tree : FileTree) (e : Entry) (s : Store) (f : Finish) where
  pub exactly : (P : Type 0) → (f.edits ≡ [] → P) → (P → Apart s (edited_all s f.edits) ⊎ Dates f.edits → ⊥) → Verdict tree e s f → P ↔ (is_recorded tree e ≡ false)
  exactly P none there (inl v) = (λ p. v.1, λ r. none v.0)
  exactly P none there (inr v) = (λ p. absurd (there p v.1), λ r. absurd (let z : true ≡ false = sym v.0 ∙ r in cc))

-- the verdict on a finished plan
pub plan_verdict : (h : Hand) (s : Store) (tree : FileTree) (n : Naming) (birth when : ℕ) (o : Op) (f : Finish) (e : Entry) → IsOfTree s tree n → IsHandOf h s tree.segments → IsNew tree birth
    → run (plan_of h birth when o) s ≡ Finishes f → IsEntryOf tree birth when o f e → Verdict tree e s f
plan_verdict h s tree n birth when o f e of hand new is entry =
    let new_entry : IsNew tree e.number.0 = subst (IsNew tree) (sym entry.number) new in
    let here : run (plan_of h e.number.0 e.when o) s ≡ Finishes f = ap₂ (λ b w. run (plan_of h b w o) s) entry.number entry.time ∙ is in
    verdict tree e o entry.comes s f entry.reply
    (subst (PlanTells (writes_file o) tree (apply tree o e.number.0 e.when (told_blocks tree e.reply)) s) here (all_told h s tree n of hand e.number.0 new_entry e.when (told_blocks tree e.reply) o))

pub records_are_shapes : RecordsAreShapes
records_are_shapes h s tree n birth when o f e of hand new is entry =
    exactly tree e s f (filter is_metadata f.edits ≡ []) (λ none. ap (filter is_metadata) none) (λ none there. metadata_there s f.edits none there)
    (plan_verdict h s tree n birth when o f e of hand new is entry)

-- ---- over a disk
module _ (cached : Cached) (held : Segments) (all : Bool) (sectors : Sectors) (tree : FileTree) (birth when : ℕ) (o : Op) (f : Finish) (e : Entry) (allowed : IsAllowed o)
    (of : AreOfDisk cached held all tree.segments sectors) (below : StandsBelow sectors tree) (new : IsNew tree birth) (small_birth : birth < 2 ^ 64) (small_time : when < 2 ^ 64) where
  abbrev s : Store
  s = store_of tree.segments sectors

  abbrev h : Hand
  h = hand_of cached held all

  abbrev plan : Ask Plan
  plan = plan_of h birth when o

  abbrev at : IsHandOf h s tree.segments
  at = hand o cached held all sectors tree birth when of below

  -- by a verdict, where the edits may be made
  pub fit_changes : IsFitFinish h tree.segments s f → Verdict tree e s f → (changes_of sectors f.edits ≡ []) ↔ (is_recorded tree e ≡ false)
  fit_changes fit found =
      exactly tree e s f (changes_of sectors f.edits ≡ []) (λ none. ap (changes_of sectors) none)
      (λ none there. change_there below.most tree.segments sectors f.edits (ready cached held all sectors tree of below f fit) none there) found

  -- its edits may be made: an operation without a path has none
  with_path : (p : Op) → HasPath p → IsAllowed p → PlanIsFit h tree.segments s (run (plan_of h birth when p) s)
  with_path p path may =
      all_fit p path h s tree below.stands.naming birth when (of_tree sectors tree below) at (fit_store cached held all sectors tree of below) small_birth small_time may

  pub fit_of : (p : Op) → IsAllowed p → PlanIsFit h tree.segments s (run (plan_of h birth when p) s)
  fit_of (op.Create path) may = with_path (op.Create path) tt may
  fit_of (op.Mkdir path) may = with_path (op.Mkdir path) tt may
  fit_of (op.Symlink path target) may = with_path (op.Symlink path target) tt may
  fit_of (op.Link path to) may = with_path (op.Link path to) tt may
  fit_of (op.Unlink path) may = with_path (op.Unlink path) tt may
  fit_of (op.Rmdir path) may = with_path (op.Rmdir path) tt may
  fit_of (op.Rename path to) may = with_path (op.Rename path to) tt may
  fit_of (op.Write path off bytes) may = with_path (op.Write path off bytes) tt may
  fit_of (op.Fill path off len byte) may = with_path (op.Fill path off len byte) tt may
  fit_of (op.Truncate path len) may = with_path (op.Truncate path len) tt may
  fit_of (op.Read path off len) may = with_path (op.Read path off len) tt may
  fit_of (op.Stat path) may = with_path (op.Stat path) tt may
  fit_of (op.List path) may = with_path (op.List path) tt may
  fit_of (op.Readlink path) may = with_path (op.Readlink path) tt may
  fit_of (op.Time path) may = with_path (op.Time path) tt may
  fit_of _ may = refuse_fits h tree.segments s reply.Ok []

  pub changes_exactly : run plan s ≡ Finishes f → IsEntryOf tree birth when o f e → (changes_of sectors f.edits ≡ []) ↔ (is_recorded tree e ≡ false)
  changes_exactly is entry =
      fit_changes (subst (PlanIsFit h tree.segments s) is (fit_of o allowed)) (plan_verdict h s tree below.stands.naming birth when o f e (of_tree sectors tree below) at new is entry)

  -- ---- with the sectors at hand
  abbrev c : AtHand
  c = at_hand cached held

  by_missing : (x : Option Sector) → first_missing c (looks plan s) ≡ x → unless_missing x (run plan s) ≡ Has (Finishes f) → IsEntryOf tree birth when o f e
      → (changes_of (sectors_at_hand cached held) f.edits ≡ []) ↔ (is_recorded tree e ≡ false)
  by_missing (Some sector) missing has entry = absurd (cc)
  by_missing None missing has entry =
      let is : run plan s ≡ Finishes f = cc in
      let same : changes_of (sectors_at_hand cached held) f.edits ≡ changes_of sectors f.edits =
      same_changes (sectors_at_hand cached held) sectors f.edits (where_edited o cached held all sectors tree birth when of below missing f is f.edits (λ d among. among)) in
      subst (λ changes. (changes ≡ []) ↔ (is_recorded tree e ≡ false)) (sym same) (changes_exactly is entry)

  pub at_hand_exactly : meet plan c ≡ Has (Finishes f) → IsEntryOf tree birth when o f e → (changes_of (sectors_at_hand cached held) f.edits ≡ []) ↔ (is_recorded tree e ≡ false)
  at_hand_exactly has entry =
      by_missing (first_missing c (looks plan s)) refl
      (sym (meets_where plan c s (agrees cached held tree.segments sectors of.as_cached below.whole (looks plan s) (all_inside o h s tree below.stands.naming birth when (of_tree sectors tree below) at))) ∙ has) entry

pub changes_are_shapes : ChangesAreShapes
changes_are_shapes cached held all sectors tree birth when o f e allowed of below new small_birth small_time is entry =
    changes_exactly cached held all sectors tree birth when o f e allowed of below new small_birth small_time is entry

pub changes_at_hand_are_shapes : ChangesAtHandAreShapes
changes_at_hand_are_shapes cached held all sectors tree birth when o f e allowed of below new small_birth small_time has entry =
    at_hand_exactly cached held all sectors tree birth when o f e allowed of below new small_birth small_time has entry
