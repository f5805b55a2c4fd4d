-- The stage that is read off a kept plan is the definition's, end by end.
use Rattle.std.proofs.Common.{◌≡◌, ℕ, Bool, true, false, if◌then◌else◌, Option, List, [], ◌∷◌, refl, sym, ap, ◌∙◌, subst}
use Rattle.std.specs.List.{list_any}
use Rattle.std.specs.List.Sorted.{IsStrictlySortedBy}
use Rattle.std.specs.Map.{keys_of}
use Rattle.frang_base.specs.declared.lock.LockId.{LockId}
use Rattle.frang_base.specs.declared.op.Op.{Op}
use Rattle.frang_base.specs.declared.sector.Sector.{Sector as CodeSector}
use Rattle.lock_definitions.specs.Order.{lock_cmp}
use Rattle.cache_definitions.specs.Caches.{Cache}
use Rattle.disk_definitions.specs.Ask.{Met}
use Rattle.disk_definitions.specs.Plans.{Lock, Plan}
use Rattle.set_definitions.specs.Seen.{SeenSectors, seen_more}
use Rattle.set_definitions.specs.Sets.{LockSet, has_lock, joined_all, lacks}
use Rattle.set_laws.proofs.Joining.{joins_as_its_locks}
use Rattle.set_laws.proofs.Lacking.{lacked_as_its_locks}
use Rattle.core_definitions.specs.Lines.{Stage, Fetching, Moving, Stopping, Growing, Clearing, Finishing, Under, needed_mode, needing, once_through, or_grown, sole_segment, stage_by, stage_in_sight, stage_over}
use Rattle.core_definitions.specs.Plans as core
use Rattle.core_definitions.specs.Plans.{clear_needs, finish_needs, needed_cover, outcome_of}
use Rattle.core_definitions.specs.Settings.{Setting}
use Rattle.kept_plans.specs.Bases.{Basis, basis_of, examined_on, nodes_on, plan_on, program_on, sight_on}
use Rattle.kept_plans.specs.Kept.{EndsSo, IsPlanOf, unmoved}
use Rattle.kept_plans.specs.declared.kept.FinishedLine.{FinishedLine}
use Rattle.kept_plans.specs.declared.kept.KeptEnd.{KeptEnd}
use Rattle.kept_plans.specs.declared.kept.KeptEnd.TheVariants as ends
use Rattle.kept_plans.specs.declared.kept.KeptPlan.{KeptPlan}
use Rattle.kept_plans.specs.declared.kept.KeptPlan.TheVariants as kept
use Rattle.line_stages.specs.Growing.{end_grown}
use Rattle.line_stages.specs.Reading.{end_stage, if_through, plan_stage}
use Rattle.line_stages.specs.Stages.{PlanComesTo}
use Rattle.line_stages.specs.declared.stage.Stage.{Stage as CodeStage}
use Rattle.line_stages.specs.declared.stage.Stage.TheVariants as stages

-- ---- what a stage that is read off a plan is, with what the set becomes that grows

abbrev pub seen_then : KeptPlan → SeenSectors
seen_then kept.Moved = []
seen_then (kept.Planned plan) = plan.seen

abbrev pub set_then : LockSet → Option ℕ → KeptPlan → LockSet
set_then set next kept.Moved = set
set_then set next (kept.Planned plan) = end_grown set next plan.end

pub record GrowsBy (set : LockSet) (next : Option ℕ) (plan : KeptPlan) (at : Stage) : Type 0 where
  pub needs : List Lock
  pub is : at ≡ Growing needs (seen_then plan)
  pub becomes : IsStrictlySortedBy lock_cmp (keys_of set) → set_then set next plan ≡ joined_all set needs

pub record FinishesBy (plan : KeptPlan) (at : Stage) : Type 0 where
  pub outcome : core.Outcome
  pub is : at ≡ Finishing outcome
  pub comes : PlanComesTo plan outcome

abbrev pub IsReadAs : LockSet → Option ℕ → KeptPlan → CodeStage → Stage → Type 0
IsReadAs set next plan (stages.Asking lock mode) at = ⊥
IsReadAs set next plan stages.Bitmaps at = ⊥
IsReadAs set next plan (stages.Fetching sector cover) at = at ≡ Fetching ((sector.0, cover) ∷ [])
IsReadAs set next plan stages.Moving at = at ≡ Moving
IsReadAs set next plan stages.Stopping at = at ≡ Stopping
IsReadAs set next plan stages.Growing at = GrowsBy set next plan at
IsReadAs set next plan (stages.Clearing block) at = at ≡ Clearing block
IsReadAs set next plan stages.Finishing at = FinishesBy plan at

-- ---- end by end

module _ (set : LockSet) (next : Option ℕ) (through : Bool) (seen : SeenSectors) where
  abbrev planned : KeptEnd → KeptPlan
  planned end = kept.Planned (record { through = through; seen = seen; end = end })

  abbrev Reads : KeptEnd → Stage → Type 0
  Reads end at = IsReadAs set next (planned end) (end_stage set through end) at

  needs_read : (sector : CodeSector) (cover : LockId) → Reads (ends.Need sector cover) (needing (unmoved through) set seen sector.0 cover)
  needs_read sector cover = go (has_lock set cover) through
    where
      go : (h t : Bool) → IsReadAs set next (planned (ends.Need sector cover)) (if h then stages.Fetching sector cover else if_through t stages.Growing)
          (if h then Fetching ((sector.0, cover) ∷ []) else once_through (unmoved t) (Growing ((cover, needed_mode cover) ∷ []) seen))
      go true t = refl
      go false true = record { needs = (cover, needed_mode cover) ∷ []; is = refl; becomes = λ sorted. refl }
      go false false = refl

  lacks_read : Reads ends.Segments (once_through (unmoved through) (Growing (sole_segment next) seen))
  lacks_read = go through
    where
      go : (t : Bool) → IsReadAs set next (planned ends.Segments) (if_through t stages.Growing) (once_through (unmoved t) (Growing (sole_segment next) seen))
      go true = record { needs = sole_segment next; is = refl; becomes = λ sorted. refl }
      go false = refl

  -- the set that is kept says whether these locks are lacked, and what they make of the line's set
  clears_read : (block : ℕ) (locks : LockSet) (needs : List Lock) → locks ≡ joined_all [] needs
      → Reads (ends.Clear block locks) (once_through (unmoved through) (or_grown set needs seen (Clearing block)))
  clears_read block locks needs found =
      subst (λ b. IsReadAs set next (planned (ends.Clear block locks)) (if_through through (if b then stages.Growing else stages.Clearing block)) (once_through (unmoved through) (or_grown set needs seen (Clearing block))))
      (sym (ap (list_any (lacks set)) found ∙ lacked_as_its_locks set needs)) (go (list_any (lacks set) needs) through)
    where
      go : (g t : Bool) → IsReadAs set next (planned (ends.Clear block locks)) (if_through t (if g then stages.Growing else stages.Clearing block))
          (once_through (unmoved t) (if g then Growing needs seen else Clearing block))
      go true true = record { needs = needs; is = refl; becomes = λ sorted. ap (joined_all set) found ∙ joins_as_its_locks set needs sorted }
      go true false = refl
      go false true = refl
      go false false = refl

  finishes_read : (done : FinishedLine) (needs : List Lock) (outcome : core.Outcome) → done.locks ≡ joined_all [] needs → PlanComesTo (planned (ends.Done done)) outcome
      → Reads (ends.Done done) (once_through (unmoved through) (or_grown set needs seen (Finishing outcome)))
  finishes_read done needs outcome found comes =
      subst (λ b. IsReadAs set next (planned (ends.Done done)) (if_through through (if b then stages.Growing else stages.Finishing)) (once_through (unmoved through) (or_grown set needs seen (Finishing outcome))))
      (sym (ap (list_any (lacks set)) found ∙ lacked_as_its_locks set needs)) (go (list_any (lacks set) needs) through)
    where
      go : (g t : Bool) → IsReadAs set next (planned (ends.Done done)) (if_through t (if g then stages.Growing else stages.Finishing))
          (once_through (unmoved t) (if g then Growing needs seen else Finishing outcome))
      go true true = record { needs = needs; is = refl; becomes = λ sorted. ap (joined_all set) found ∙ joins_as_its_locks set needs sorted }
      go true false = refl
      go false true = record { outcome = outcome; is = refl; comes = comes }
      go false false = refl

-- ---- by the plan

module _ (setting : Setting) (under : Under) (operation : Op) (cache : Cache) (next : Option ℕ) where
  abbrev basis : Basis
  basis = basis_of setting under operation cache

  abbrev at_end : Bool → SeenSectors → Met Plan → Stage
  at_end through seen met = stage_by setting under.line operation (sight_on basis) under.set next (unmoved through) seen (nodes_on basis) met

  end_reads : (through : Bool) (seen : SeenSectors) (end : KeptEnd) → EndsSo basis end
      → IsReadAs under.set next (planned under.set next through seen end) (end_stage under.set through end) (at_end through seen (plan_on basis))
  end_reads through seen (ends.Need sector cover) is =
      subst (IsReadAs under.set next (planned under.set next through seen (ends.Need sector cover)) (end_stage under.set through (ends.Need sector cover)))
      (sym (ap (at_end through seen) is.met
      ∙ ap (λ n. needing (unmoved through) under.set seen n (needed_cover setting.segments (nodes_on basis) (sight_on basis) is.sector)) is.numbered
      ∙ ap (needing (unmoved through) under.set seen sector.0) is.covered))
      (needs_read under.set next through seen sector cover)
  end_reads through seen ends.Segments is =
      subst (IsReadAs under.set next (planned under.set next through seen ends.Segments) (end_stage under.set through ends.Segments)) (sym (ap (at_end through seen) is)) (lacks_read under.set next through seen)
  end_reads through seen (ends.Clear block locks) is =
      subst (IsReadAs under.set next (planned under.set next through seen (ends.Clear block locks)) (end_stage under.set through (ends.Clear block locks))) (sym (ap (at_end through seen) is.met))
      (clears_read under.set next through seen block locks (clear_needs operation (nodes_on basis) (sight_on basis) block) is.found)
  end_reads through seen (ends.Done done) is =
      subst (IsReadAs under.set next (planned under.set next through seen (ends.Done done)) (end_stage under.set through (ends.Done done))) (sym (ap (at_end through seen) is.met))
      (finishes_read under.set next through seen done (finish_needs (nodes_on basis) (sight_on basis) is.finish) (outcome_of setting under.line (nodes_on basis) (sight_on basis) is.finish) is.found
      (is.is setting under.line refl refl))

  over_unmoved : (through : Bool) →
      stage_over setting under operation next (sight_on basis) (unmoved through) (program_on basis) ≡ at_end through (seen_more (sight_on basis).cached under.seen (examined_on basis)) (plan_on basis)
  over_unmoved true = refl
  over_unmoved false = refl

  pub plan_reads : (plan : KeptPlan) → IsPlanOf setting under operation cache plan
      → IsReadAs under.set next plan (plan_stage under.set plan) (stage_in_sight setting under operation next (sight_on basis))
  plan_reads kept.Moved is = ap (λ c. stage_over setting under operation next (sight_on basis) c (program_on basis)) is
  plan_reads (kept.Planned plan) is =
      subst (IsReadAs under.set next (kept.Planned plan) (end_stage under.set plan.through plan.end))
      (sym (ap (λ c. stage_over setting under operation next (sight_on basis) c (program_on basis)) is.compares ∙ over_unmoved plan.through
      ∙ ap (λ s. at_end plan.through s (plan_on basis)) (sym is.sees)))
      (end_reads plan.through plan.seen plan.end is.ends)
