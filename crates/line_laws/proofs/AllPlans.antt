-- The plan of each operation stands on the disk.
use Rattle.std.proofs.Common.{◌≡◌, ℕ, ◌^◌, ◌<◌, Bool, Option, Some, None, refl, sym, subst}
use Rattle.frang_base.specs.declared.op.Op.{Op}
use Rattle.tree_definitions.specs.Tree.{FileTree}
use Rattle.tree_definitions.specs.Apply.{apply}
use Rattle.tree_definitions.specs.WellFormed.{IsNew}
use Rattle.sector_bytes.specs.Sectors.{Sectors}
use Rattle.disk_definitions.specs.Store.{Store, store_of}
use Rattle.disk_definitions.specs.Held.{Segments}
use Rattle.disk_definitions.specs.Ask.{Sector, Ask, AtHand, run, looks, meet}
use Rattle.disk_definitions.specs.Plans.{Hand, Plan, Lacks, Clears, Finishes}
use Rattle.disk_definitions.specs.PlanOf.{plan_of}
use Rattle.disk_definitions.specs.Meets.{IsHandOf, directory_blocks_in}
use Rattle.disk_definitions.specs.Written.{hand_of, Cached, at_hand, sectors_at_hand}
use Rattle.disk_definitions.specs.Missing.{first_missing, unless_missing}
use Rattle.plan_laws.specs.FilesPlanned.{IsPlannedForFiles}
use Rattle.plan_laws.specs.Keeping.{PlanKeeps}
use Rattle.plan_laws.proofs.Deciding.{meets_where}
use Rattle.plan_laws.proofs.AllInside.{all_inside}
use Rattle.plan_fit.proofs.AllBudgets.{small_records}
use Rattle.disk_definitions.specs.Allowed.{IsAllowed}
use Rattle.disk_definitions.specs.FitPlans.{HasFitPlan, PlanIsFit}
use Rattle.disk_definitions.specs.SmallRecords.{PlanIsSmall}
use Rattle.disk_definitions.specs.OnDisk.{AreOfDisk, StandsBelow, PlanStands, MetStands}
use Rattle.line_laws.proofs.OfDisk.{of_tree}
use Rattle.line_laws.proofs.AtHand.{agrees}
use Rattle.line_laws.proofs.SameChanges.{same_changes}
use Rattle.line_laws.proofs.Edited.{hand, where_edited}
use Rattle.line_laws.proofs.Written.{fit_store, files_fit_now, finish_stands}

module _ (o : Op) (planned : IsPlannedForFiles o) (fit : HasFitPlan o) (cached : Cached) (held : Segments) (all : Bool) (sectors : Sectors) (tree : FileTree) (birth when m : ℕ) (allowed : IsAllowed o) (of : AreOfDisk cached held all tree.segments sectors)
    (below : StandsBelow sectors tree) (new : IsNew tree birth) (small_birth : birth < 2 ^ 64) (small_time : when < 2 ^ 64) (count : m ≡ directory_blocks_in (store_of tree.segments sectors) tree.segments) where
  abbrev s : Store
  s = store_of tree.segments sectors

  abbrev h : Hand
  h = hand_of cached held all

  abbrev plan : Ask Plan
  plan = plan_of h birth when o

  abbrev c : AtHand
  c = at_hand cached held

  abbrev at : IsHandOf h s tree.segments
  at = hand o cached held all sectors tree birth when of below

  by_plan : first_missing c (looks plan s) ≡ None → (p : Plan) → run plan s ≡ p → PlanKeeps h s tree below.stands.naming (apply tree o birth when m) p → PlanIsFit h tree.segments s p → PlanIsSmall below.most tree.segments sectors p → PlanStands cached held all sectors (apply tree o birth when m) p
  by_plan none Lacks is meets fits small = meets
  by_plan none (Clears k locks) is meets fits small = meets
  by_plan none (Finishes f) is meets fits small =
      finish_stands cached held all sectors tree of below f fits o birth when m new meets.meets small (same_changes (sectors_at_hand cached held) sectors f.edits (where_edited o cached held all sectors tree birth when of below none f is f.edits (λ e h. h)))

  by_missing : (x : Option Sector) → first_missing c (looks plan s) ≡ x → MetStands cached held all sectors (apply tree o birth when m) x (unless_missing x (run plan s))
  by_missing (Some sector) e = refl
  by_missing None e = (
    refl,
    by_plan e (run plan s) refl
        (planned h s tree below.stands.naming birth when m (of_tree sectors tree below) at new (record { fit = files_fit_now cached held all sectors tree of below; directories = count }))
        (fit h s tree below.stands.naming birth when (of_tree sectors tree below) at (fit_store cached held all sectors tree of below) small_birth small_time allowed)
        (small_records o h below.most tree.segments sectors birth when (fit_store cached held all sectors tree of below)),
  )

  pub one_stands : MetStands cached held all sectors (apply tree o birth when m) (first_missing c (looks plan s)) (meet plan c)
  one_stands = subst (MetStands cached held all sectors (apply tree o birth when m) (first_missing c (looks plan s)))
      (sym (meets_where plan c s (agrees cached held tree.segments sectors of.as_cached below.whole (looks plan s) (all_inside o h s tree below.stands.naming birth when (of_tree sectors tree below) at))))
      (by_missing (first_missing c (looks plan s)) refl)
