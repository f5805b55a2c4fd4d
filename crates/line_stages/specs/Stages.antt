-- How far a server's line over paths has come, as code says it, beside the word of the core.
use Rattle.std.specs.Prelude.{◌≡◌, ℕ, Bool, false, not, ◌&&◌, ◌||◌, if◌then◌else◌, is_some, Option, Some, None, List, [], ◌∷◌}
use Rattle.std.specs.List.{slice_get}
use Rattle.frang_base.specs.declared.lock.LockId.{LockId}
use Rattle.tree_definitions.specs.Apply.{is_path_op}
use Rattle.lock_definitions.specs.Locks.{Locks, is_wished}
use Rattle.lock_definitions.specs.Calls.{is_free}
use Rattle.cache_definitions.specs.Caches.{Cache}
use Rattle.disk_definitions.specs.Plans.{Lock}
use Rattle.set_definitions.specs.Seen.{SeenSectors}
use Rattle.set_definitions.specs.Sets.{to_ask}
use Rattle.core_definitions.specs.Lines.{Stage, Asking, Fetching, Moving, Stopping, Growing, Clearing, Finishing, Under, missing_bitmaps}
use Rattle.core_definitions.specs.Logs.{is_none}
use Rattle.core_definitions.specs.Plans as core
use Rattle.core_definitions.specs.Servers.{Server, asks, is_up}
use Rattle.kept_plans.specs.Outcomes.{IsOutcomeOf}
use Rattle.kept_plans.specs.declared.kept.KeptEnd.{KeptEnd}
use Rattle.kept_plans.specs.declared.kept.KeptEnd.TheVariants as ends
use Rattle.kept_plans.specs.declared.kept.KeptPlan.{KeptPlan}
use Rattle.kept_plans.specs.declared.kept.KeptPlan.TheVariants as kept
use Rattle.line_stages.specs.declared.stage.Stage.{Stage as CodeStage}
use Rattle.line_stages.specs.declared.stage.Stage.TheVariants as stages

-- ---- where a plan is wanted

-- the bitmaps of a line's set that aren't cached
abbrev pub missing_under : Option Under → Cache → List (ℕ × LockId)
missing_under None cache = []
missing_under (Some under) cache = missing_bitmaps under.set cache

-- its set is held and no bitmap of it lacks
abbrev pub is_ready_under : Locks → ℕ → Option Under → Cache → Bool
is_ready_under locks number None cache = false
is_ready_under locks number (Some under) cache = not (is_some (to_ask locks number under.set)) && is_none (missing_bitmaps under.set cache)

-- a server is up, its line under way is an open one over paths, its set is held and no bitmap of it lacks: there its stage goes by its plan
abbrev pub wants_plan : Locks → ℕ → Server → Bool
wants_plan locks number server = is_up server.phase && asks is_path_op server && is_ready_under locks number server.under server.cache

-- ---- what a stage in code is

-- a kept plan is of a finished line that comes to this
abbrev pub EndComesTo : KeptEnd → core.Outcome → Type 0
EndComesTo (ends.Done done) outcome = IsOutcomeOf done.outcome outcome
EndComesTo end outcome = ⊥

abbrev pub PlanComesTo : KeptPlan → core.Outcome → Type 0
PlanComesTo kept.Moved outcome = ⊥
PlanComesTo (kept.Planned plan) outcome = EndComesTo plan.end outcome

abbrev pub ComesTo : Option KeptPlan → core.Outcome → Type 0
ComesTo None outcome = ⊥
ComesTo (Some plan) outcome = PlanComesTo plan outcome

-- the set lacks a lock that the plan finds
pub record Grows (at : Option Stage) : Type 0 where
  pub needs : List Lock
  pub seen : SeenSectors
  pub is : at ≡ Some (Growing needs seen)

-- the line is finished, and comes to what its kept plan says
pub record Finishes (plan : Option KeptPlan) (at : Option Stage) : Type 0 where
  pub outcome : core.Outcome
  pub is : at ≡ Some (Finishing outcome)
  pub comes : ComesTo plan outcome

abbrev pub IsOneStage : Option KeptPlan → Server → CodeStage → Option Stage → Type 0
IsOneStage plan server (stages.Asking lock mode) at = at ≡ Some (Asking (lock, mode))
IsOneStage plan server stages.Bitmaps at = at ≡ Some (Fetching (missing_under server.under server.cache))
IsOneStage plan server (stages.Fetching sector cover) at = at ≡ Some (Fetching ((sector.0, cover) ∷ []))
IsOneStage plan server stages.Moving at = at ≡ Some Moving
IsOneStage plan server stages.Stopping at = at ≡ Some Stopping
IsOneStage plan server stages.Growing at = Grows at
IsOneStage plan server (stages.Clearing block) at = at ≡ Some (Clearing block)
IsOneStage plan server stages.Finishing at = Finishes plan at

-- a stage that code reads off a server and its kept plan is this one of the core
abbrev pub IsStage : Option KeptPlan → Server → Option CodeStage → Option Stage → Type 0
IsStage plan server None at = at ≡ None
IsStage plan server (Some stage) at = IsOneStage plan server stage at

-- ---- what a stage asks

-- the lock that it asks for next, where it hasn't asked for it so yet or no holder conflicts
abbrev pub asked_next : Locks → ℕ → Option Stage → Option Lock
asked_next locks number (Some (Asking need)) = if not (is_wished locks number need.0 need.1) || is_free locks number need.0 need.1 then Some need else None
asked_next locks number at = None

-- the block that it clears
abbrev pub cleared_next : Option Stage → Option ℕ
cleared_next (Some (Clearing block)) = Some block
cleared_next at = None

-- the first sector that it needs, with its cover
abbrev pub first_needed : Option Stage → Option (ℕ × LockId)
first_needed (Some (Fetching needs)) = slice_get needs 0
first_needed at = None
