-- The plan that code makes of a line is that of its basis, end by end.
use Rattle.std.proofs.Common.{◌≡◌, ℕ, Option, Some, None, sym, ap, ◌∙◌, subst}
use Rattle.std.specs.Option.{option_map, unwrap_or}
use Rattle.frang_base.specs.declared.lock.LockId.{LockId}
use Rattle.disk_definitions.specs.Ask.{Ask, Sector, number_of}
use Rattle.disk_definitions.specs.Lines.{plan_of_line}
use Rattle.disk_definitions.specs.Numbered.{sector_at}
use Rattle.disk_definitions.specs.Plans.{Plan}
use Rattle.disk_definitions.specs.Written.{hand_of}
use Rattle.set_definitions.specs.Sets.{LockSet}
use Rattle.core_definitions.specs.Plans.{Sight, cover_of, examined_in, nodes_looked_at}
use Rattle.lock_sets.specs.Seen.{numbers}
use Rattle.planned_lines.specs.Ends.{EndsAs, IsCleared, IsDone, IsNeeded}
use Rattle.planned_lines.specs.Outcomes.{outcome_as}
use Rattle.planned_lines.specs.declared.finished.Finished.{Finished}
use Rattle.planned_lines.specs.declared.finished.Planned.{Planned}
use Rattle.server_core.specs.declared.outcome.Outcome.{Outcome}
use Rattle.kept_plans.specs.Bases.{Basis, nodes_on, program_on, sight_on}
use Rattle.kept_plans.specs.Kept.{ClearsWith, FinishesWith, NeedsAt}
use Rattle.plan_keeping.specs.Making.{PlansOn}
use Rattle.kept_plans.specs.Outcomes.{IsOutcomeOf}

-- ---- what is planned over a sight is planned over the basis that comes to it

abbrev program_by : Basis → Sight → Ask Plan
program_by basis sight = plan_of_line (hand_of sight.cached sight.held sight.all) basis.number basis.when basis.operation

pub record PlansBy (basis : Basis) (sight : Sight) (plan : Planned) : Type 0 where
  pub examined : numbers plan.examined.items ≡ examined_in (program_by basis sight) sight
  pub ends : EndsAs basis.segments basis.number (nodes_looked_at basis.segments (program_by basis sight) sight) basis.operation sight (program_by basis sight) plan.end

pub plans_on : (basis : Basis) (sight : Sight) (plan : Planned) → sight_on basis ≡ sight → PlansBy basis sight plan → PlansOn basis plan
plans_on basis sight plan same by =
    let is : PlansBy basis (sight_on basis) plan = subst (λ s. PlansBy basis s plan) (sym same) by in
    record { examined = is.examined; ends = is.ends }

-- ---- the ends

covered_so : (cover : Sector → LockId) (o : Option Sector) (sector : Sector) (lock : LockId) → option_map cover o ≡ Some lock → cover (unwrap_or o sector) ≡ lock
covered_so cover None sector lock e = absurd (cc)
covered_so cover (Some found) sector lock e = cc

module _ (basis : Basis) where
  pub needed_so : (number : ℕ) (cover : LockId) → IsNeeded basis.segments (nodes_on basis) (sight_on basis) (program_on basis) number cover → NeedsAt basis number cover
  needed_so number cover is =
      let here : option_map (cover_of (nodes_on basis) (sight_on basis)) (sector_at basis.segments (number_of is.sector)) ≡ Some cover
      = ap (λ n. option_map (cover_of (nodes_on basis) (sight_on basis)) (sector_at basis.segments n)) is.numbered ∙ is.covered in
      record { sector = is.sector; met = is.met; numbered = is.numbered; covered = covered_so (cover_of (nodes_on basis) (sight_on basis)) (sector_at basis.segments (number_of is.sector)) is.sector cover here }

  pub cleared_so : (block : ℕ) (set : LockSet) → IsCleared (nodes_on basis) basis.operation (sight_on basis) (program_on basis) block set → ClearsWith basis block set
  cleared_so block set is = record { locks = is.locks; met = is.met; found = is.found }

  pub finished_so : (done : Finished) (outcome : Outcome) (set : LockSet) → IsDone basis.segments basis.number (nodes_on basis) (sight_on basis) (program_on basis) done
      → IsOutcomeOf outcome (outcome_as basis.segments done) → set ≡ done.locks → FinishesWith basis outcome set
  finished_so done outcome set is made locks = record {
    finish = is.finish;
    met = is.met;
    is = λ setting line few same. subst (IsOutcomeOf outcome) (is.outcome setting line few same) made;
    found = locks ∙ is.found;
  }
