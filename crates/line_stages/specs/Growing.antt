-- What the set of a line becomes that grows, by how its kept plan ends.
use Rattle.std.specs.Prelude.{ℕ, Option, Some, None, [], ◌∷◌}
use Rattle.set_definitions.specs.Sets.{LockSet, joined_all}
use Rattle.core_definitions.specs.Lines.{Under, needed_mode, sole_segment}
use Rattle.kept_plans.specs.declared.kept.KeptEnd.{KeptEnd}
use Rattle.kept_plans.specs.declared.kept.KeptEnd.TheVariants as ends
use Rattle.kept_plans.specs.declared.kept.KeptPlan.{KeptPlan}
use Rattle.kept_plans.specs.declared.kept.KeptPlan.TheVariants as kept
use Rattle.line_stages.specs.declared.again.Again.{Again}
use Rattle.line_stages.specs.declared.again.Again.TheVariants as agains

-- where this is the next segment to join
abbrev pub end_grown : LockSet → Option ℕ → KeptEnd → LockSet
end_grown set next (ends.Need sector cover) = joined_all set ((cover, needed_mode cover) ∷ [])
end_grown set next ends.Segments = joined_all set (sole_segment next)
end_grown set next (ends.Clear block locks) = joined_all set locks
end_grown set next (ends.Done done) = joined_all set done.locks

abbrev pub plan_grown : LockSet → Option ℕ → KeptPlan → Option Again
plan_grown set next kept.Moved = None
plan_grown set next (kept.Planned plan) = Some (agains.Grown (end_grown set next plan.end) plan.seen)

abbrev pub kept_grown : LockSet → Option ℕ → Option KeptPlan → Option Again
kept_grown set next None = None
kept_grown set next (Some plan) = plan_grown set next plan

-- of a line under way, by how the next segment is chosen
abbrev pub line_grown : (LockSet → Option ℕ) → Option KeptPlan → Option Under → Option Again
line_grown next plan None = None
line_grown next plan (Some under) = kept_grown under.set (next under.set) plan
