-- What the crates that plan need of the laws: for the edits of a plan that ended, and for the plan that is handed out.
use Rattle.std.proofs.Common.{◌≡◌, ◌<◌, ◌-◌, ◌^◌, ℕ, Bool, nat_lt, Result, Ok, Err, IfOk, IsTrue, sym, subst}
use Rattle.std.specs.List.{list_all, filter_map}
use Rattle.frang_base.specs.declared.op.Op.{Op}
use Rattle.disk_definitions.specs.Standing.{version_at}
use Rattle.meta_version.specs.declared.plan.Plan.{Plan as CodePlan}
use Rattle.disk_definitions.specs.Held.{Segments}
use Rattle.disk_definitions.specs.PlanOf.{plan_of}
use Rattle.disk_definitions.specs.Written.{Cached, hand_of, metadata_sector, sectors_at_hand}
use Rattle.dir_lookup.specs.Planned.{planned}
use Rattle.dir_lookup.specs.Reading.{reading}
use Rattle.plan_steps.specs.declared.edit.Outcome.{Outcome}
use Rattle.plan_steps.specs.declared.stop.Stop.{Stop}
use Rattle.plan_steps.specs.Edits.{edits_of}
use Rattle.plan_steps.specs.Ends.{Comes}
use Rattle.line_laws.specs.Laws.{HasPath}
use Rattle.code_plan_laws.specs.CodeStands.{IsOverADisk, StandsOverDisks, IsExactOverDisks}
use Rattle.code_plan_laws.proofs.Standing.{planned_stands}
use Rattle.code_plan_laws.proofs.Exactly.{planned_exact}
use Rattle.code_plan_laws.proofs.Versions.{next_versions}

-- each sector with a version that the edits change has one that has a next
abbrev pub EndsBelow : Cached → Segments → Result Outcome Stop → Type 0
EndsBelow cached held (Ok outcome) = IsTrue (list_all (λ sector. nat_lt (version_at (sectors_at_hand cached held) sector) (2 ^ 64 - 1)) (filter_map metadata_sector (edits_of outcome.edits.items)))
EndsBelow cached held (Err stop) = Unit {0}

module _ (o : Op) (birth when : ℕ) (cached : Cached) (held : Segments) (all : Bool) (path : HasPath o) (small : birth < 2 ^ 64) (timely : when < 2 ^ 64) where
  pub ends_below : IsOverADisk o birth cached held all → (ended : Result Outcome Stop) → Comes (reading (plan_of (hand_of cached held all) birth when o) cached held) ended → EndsBelow cached held ended
  ends_below d (Ok outcome) c = next_versions o birth when cached held all (record { reply = outcome.reply; edits = edits_of outcome.edits.items; locks = c.0 }) path small timely d c.1
  ends_below d (Err stop) c = tt

  pub stands_if : {E : Type 0} (r : Result CodePlan E) → IfOk r (λ p. p ≡ planned cached held (reading (plan_of (hand_of cached held all) birth when o) cached held)) → IfOk r (StandsOverDisks o birth when cached held all)
  stands_if (Ok p) e = subst (StandsOverDisks o birth when cached held all) (sym e) (planned_stands o birth when cached held all path small timely)
  stands_if (Err n) e = tt

  pub exact_if : {E : Type 0} (r : Result CodePlan E) → IfOk r (λ p. p ≡ planned cached held (reading (plan_of (hand_of cached held all) birth when o) cached held)) → IfOk r (IsExactOverDisks o birth when cached held all)
  exact_if (Ok p) e = subst (IsExactOverDisks o birth when cached held all) (sym e) (planned_exact o birth when cached held all)
  exact_if (Err n) e = tt
