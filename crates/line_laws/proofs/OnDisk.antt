-- The plan of a line stands on the disk, as what it comes to does.
use Rattle.std.proofs.Common.{◌≡◌, ◌<◌, ◌^◌, inl, ℕ, Bool, Option, Some, None, List, [], map, refl, sym, ◌∙◌, ap, subst}
use Rattle.frang_base.specs.declared.op.Op.{Op}
use Rattle.frang_base.specs.declared.op.Op.TheVariants as op
use Rattle.frang_base.specs.declared.reply.Reply.{Reply}
use Rattle.frang_base.specs.declared.reply.Reply.TheVariants as reply
use Rattle.tree_definitions.specs.Apply.{Applied, says, apply}
use Rattle.tree_definitions.specs.Perform.{Step, Goes, Stops, Resolved, perform, perform_step, resolved as tree_resolved}
use Rattle.tree_definitions.specs.Tree.{FileTree}
use Rattle.tree_definitions.specs.WellFormed.{IsNew}
use Rattle.sector_bytes.specs.Sectors.{Sectors}
use Rattle.disk_definitions.specs.Store.{Store, store_of}
use Rattle.disk_definitions.specs.Naming.{Naming}
use Rattle.disk_definitions.specs.Held.{Segments}
use Rattle.disk_definitions.specs.Allowed.{IsAllowed}
use Rattle.disk_definitions.specs.Ask.{Sector, Ask, AtHand, Has, run, looks, meet}
use Rattle.disk_definitions.specs.Missing.{first_missing, unless_missing}
use Rattle.disk_definitions.specs.Plans.{Hand, Plan, Lacks, Clears, Finishes, refuse}
use Rattle.disk_definitions.specs.PlanOf.{plan_of}
use Rattle.disk_definitions.specs.Meets.{IsOfTree, IsHandOf, directory_blocks_in}
use Rattle.disk_definitions.specs.Written.{Cached, at_hand, hand_of}
use Rattle.disk_definitions.specs.OnDisk.{AreOfDisk, StandsBelow, PlanStands, MetStands, StandsWhenPlanned}
use Rattle.plan_laws.specs.Inside.{AreInside}
use Rattle.plan_laws.proofs.AllInside.{all_inside}
use Rattle.plan_laws.proofs.Deciding.{meets_where}
use Rattle.line_laws.proofs.AtHand.{agrees}
use Rattle.line_laws.proofs.Edited.{hand}
use Rattle.line_laws.proofs.OfDisk.{of_tree}
use Rattle.line_laws.proofs.Operations.{all_stand}
use Rattle.disk_definitions.specs.Lines.{with_trail, plan_of_line, resolved}
use Rattle.line_laws.specs.OnDisk.{LinesStandOnDisks}
use Rattle.line_laws.specs.Planned.{StepIsAllowed}
use Rattle.line_laws.proofs.Allowed.{stay_allowed}
use Rattle.line_laws.proofs.Comes.{comes_to}
use Rattle.line_laws.proofs.Inside.{lines_inside}
use Rattle.line_laws.proofs.Running.{step_plan, step_looks, run_performed, looks_performed}
use Rattle.line_laws.proofs.LineAtHand.{none_later}

module _ (cached : Cached) (held : Segments) (all : Bool) (sectors : Sectors) (tree : FileTree) (of : AreOfDisk cached held all tree.segments sectors) (below : StandsBelow sectors tree) where
  abbrev s : Store
  s = store_of tree.segments sectors

  abbrev h : Hand
  h = hand_of cached held all

  abbrev c : AtHand
  c = at_hand cached held

  abbrev n : Naming
  n = below.stands.naming

  is_of : IsOfTree s tree n
  is_of = of_tree sectors tree below

  -- what changes nothing stands
  plain_stands : (r : Reply) (touched : List ℕ) → PlanStands cached held all sectors (says tree r) (refuse r touched)
  plain_stands r touched = record { answer = refl; recorded = inl refl; stands = below.stands }

  -- more locks do no harm
  trail_stands : (a : Applied) (trail : List ℕ) (p : Plan) → PlanStands cached held all sectors a p → PlanStands cached held all sectors a (with_trail trail p)
  trail_stands a trail Lacks m = m
  trail_stands a trail (Clears k locks) m = m
  trail_stands a trail (Finishes f) m = record { answer = m.answer; recorded = m.recorded; stands = m.stands }

  module _ (birth when m : ℕ) (new : IsNew tree birth) (small_birth : birth < 2 ^ 64) (small_time : when < 2 ^ 64) (count : m ≡ directory_blocks_in s tree.segments) where
    abbrev hand_is : IsHandOf h s tree.segments
    hand_is = hand op.Sync cached held all sectors tree birth when of below

    -- what is met is the value over the disk, where no sector is missing
    is_met : (p : Ask Plan) → AreInside tree.segments (looks p s) → meet p c ≡ unless_missing (first_missing c (looks p s)) (run p s)
    is_met p inside = meets_where p c s (agrees cached held tree.segments sectors of.as_cached below.whole (looks p s) inside)

    abbrev Stands : Op → Type 0
    Stands o = MetStands cached held all sectors (apply tree o birth when m) (first_missing c (looks (plan_of h birth when o) s)) (meet (plan_of h birth when o) c)

    by_law : (o : Op) → IsAllowed o → StandsWhenPlanned o → Stands o
    by_law o allowed law = law cached held all sectors tree birth when m allowed of below new small_birth small_time count

    -- every operation over paths without links stands
    each_stands : (o : Op) → IsAllowed o → Stands o
    each_stands (op.Create path) a = by_law (op.Create path) a (all_stand (op.Create path) tt)
    each_stands (op.Mkdir path) a = by_law (op.Mkdir path) a (all_stand (op.Mkdir path) tt)
    each_stands (op.Symlink path target) a = by_law (op.Symlink path target) a (all_stand (op.Symlink path target) tt)
    each_stands (op.Link path to) a = by_law (op.Link path to) a (all_stand (op.Link path to) tt)
    each_stands (op.Unlink path) a = by_law (op.Unlink path) a (all_stand (op.Unlink path) tt)
    each_stands (op.Rmdir path) a = by_law (op.Rmdir path) a (all_stand (op.Rmdir path) tt)
    each_stands (op.Rename path to) a = by_law (op.Rename path to) a (all_stand (op.Rename path to) tt)
    each_stands (op.Write path off bytes) a = by_law (op.Write path off bytes) a (all_stand (op.Write path off bytes) tt)
    each_stands (op.Fill path off len byte) a = by_law (op.Fill path off len byte) a (all_stand (op.Fill path off len byte) tt)
    each_stands (op.Truncate path len) a = by_law (op.Truncate path len) a (all_stand (op.Truncate path len) tt)
    each_stands (op.Read path off len) a = by_law (op.Read path off len) a (all_stand (op.Read path off len) tt)
    each_stands (op.Stat path) a = by_law (op.Stat path) a (all_stand (op.Stat path) tt)
    each_stands (op.List path) a = by_law (op.List path) a (all_stand (op.List path) tt)
    each_stands (op.Readlink path) a = by_law (op.Readlink path) a (all_stand (op.Readlink path) tt)
    each_stands (op.Time path) a = by_law (op.Time path) a (all_stand (op.Time path) tt)
    each_stands op.Sync a = (refl, plain_stands reply.Ok [])
    each_stands op.Mount a = (refl, plain_stands reply.Ok [])
    each_stands op.Unmount a = (refl, plain_stands reply.Ok [])
    each_stands op.Crash a = (refl, plain_stands reply.Ok [])
    each_stands (op.CrashAt k) a = (refl, plain_stands reply.Ok [])
    each_stands (op.CutAt k) a = (refl, plain_stands reply.Ok [])
    each_stands op.Stall a = (refl, plain_stands reply.Ok [])

    -- and its value stands, where nothing is missing
    value_stands : (o : Op) → IsAllowed o → first_missing c (looks (plan_of h birth when o) s) ≡ None → PlanStands cached held all sectors (apply tree o birth when m) (run (plan_of h birth when o) s)
    value_stands o a none =
        let plan : Ask Plan = plan_of h birth when o in
        let met : meet plan c ≡ Has (run plan s) = is_met plan (all_inside o h s tree n birth when is_of hand_is) ∙ ap (λ x. unless_missing x (run plan s)) none in
        let stands : MetStands cached held all sectors (apply tree o birth when m) None (Has (run plan s)) =
        subst (λ x. MetStands cached held all sectors (apply tree o birth when m) x (Has (run plan s))) none
        (subst (MetStands cached held all sectors (apply tree o birth when m) (first_missing c (looks plan s))) met (each_stands o a)) in
        stands.1

    -- what a line comes to stands
    step_stands : (trail : List ℕ) (step : Step) → StepIsAllowed step → first_missing c (step_looks h s birth when step) ≡ None → PlanStands cached held all sectors (perform_step tree step birth when m) (step_plan h s birth when trail step)
    step_stands trail (Goes o) a none = trail_stands (apply tree o birth when m) trail (run (plan_of h birth when o) s) (value_stands o a none)
    step_stands trail (Stops r) a none = plain_stands r trail

    module _ (o : Op) (allowed : IsAllowed o) where
      abbrev line : Ask Plan
      line = plan_of_line h birth when o

      abbrev applied : Applied
      applied = perform tree o birth when m

      line_value : first_missing c (looks line s) ≡ None → PlanStands cached held all sectors applied (run line s)
      line_value none =
          let w = tree_resolved tree o in
          subst (PlanStands cached held all sectors applied) (sym (run_performed h s birth when tree n is_of o))
          (step_stands (map n.inode w.trail) w.step (subst (λ (w : Resolved). StepIsAllowed w.step) (comes_to o s tree n is_of) (stay_allowed o s allowed))
          (none_later c (looks (resolved o) s) (step_looks h s birth when w.step) (ap (first_missing c) (sym (looks_performed h s birth when tree n is_of o)) ∙ none)))

      by_missing : (x : Option Sector) → first_missing c (looks line s) ≡ x → MetStands cached held all sectors applied x (unless_missing x (run line s))
      by_missing (Some sector) e = refl
      by_missing None e = (refl, line_value e)

      line_stands : MetStands cached held all sectors applied (first_missing c (looks line s)) (meet line c)
      line_stands = subst (MetStands cached held all sectors applied (first_missing c (looks line s))) (sym (is_met line (lines_inside o h s tree n birth when is_of hand_is))) (by_missing (first_missing c (looks line s)) refl)

pub lines_stand : LinesStandOnDisks
lines_stand o cached held all sectors tree birth when m allowed of below new small_birth small_time count = line_stands cached held all sectors tree of below birth when m new small_birth small_time count o allowed
