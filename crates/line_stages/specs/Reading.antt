-- A stage as it is read off locks, a cache, a line under way and its kept plan.
use Rattle.std.specs.Prelude.{ℕ, Bool, ◌&&◌, if◌then◌else◌, Option, Some, None, List, [], ◌∷◌}
use Rattle.std.specs.List.{list_any}
use Rattle.std.specs.Option.{option_map}
use Rattle.frang_base.specs.declared.lock.LockId.{LockId}
use Rattle.tree_definitions.specs.Apply.{is_path_op}
use Rattle.lock_definitions.specs.Locks.{Locks}
use Rattle.cache_definitions.specs.Caches.{Cache}
use Rattle.disk_definitions.specs.Plans.{Lock}
use Rattle.set_definitions.specs.Sets.{LockSet, has_lock, lacks, to_ask}
use Rattle.core_definitions.specs.Lines.{Under, missing_bitmaps}
use Rattle.core_definitions.specs.Servers.{Server, asks, is_up}
use Rattle.kept_plans.specs.declared.kept.KeptEnd.{KeptEnd}
use Rattle.kept_plans.specs.declared.kept.KeptEnd.TheVariants as ends
use Rattle.kept_plans.specs.declared.kept.KeptPlan.{KeptPlan}
use Rattle.kept_plans.specs.declared.kept.KeptPlan.TheVariants as kept
use Rattle.line_stages.specs.declared.stage.Stage.{Stage}
use Rattle.line_stages.specs.declared.stage.Stage.TheVariants as stages

-- ---- off a kept plan, for a line with this set

abbrev pub if_through : Bool → Stage → Stage
if_through through stage = if through then stage else stages.Stopping

abbrev pub or_growing : LockSet → LockSet → Stage → Stage
or_growing set locks stage = if list_any (lacks set) locks then stages.Growing else stage

abbrev pub end_stage : LockSet → Bool → KeptEnd → Stage
end_stage set through (ends.Need sector cover) = if has_lock set cover then stages.Fetching sector cover else if_through through stages.Growing
end_stage set through ends.Segments = if_through through stages.Growing
end_stage set through (ends.Clear block locks) = if_through through (or_growing set locks (stages.Clearing block))
end_stage set through (ends.Done done) = if_through through (or_growing set done.locks stages.Finishing)

abbrev pub plan_stage : LockSet → KeptPlan → Stage
plan_stage set kept.Moved = stages.Moving
plan_stage set (kept.Planned plan) = end_stage set plan.through plan.end

-- where none is kept, nothing of the line is enabled
abbrev pub kept_stage : LockSet → Option KeptPlan → Stage
kept_stage set None = stages.Stopping
kept_stage set (Some plan) = plan_stage set plan

-- ---- off all

abbrev pub held_stage : LockSet → Option KeptPlan → List (ℕ × LockId) → Stage
held_stage set plan [] = kept_stage set plan
held_stage set plan (missing ∷ others) = stages.Bitmaps

abbrev pub line_stage : LockSet → Cache → Option KeptPlan → Option Lock → Stage
line_stage set cache plan None = held_stage set plan (missing_bitmaps set cache)
line_stage set cache plan (Some need) = stages.Asking need.0 need.1

-- of a server that is up the line under way, where it is an open one over paths
abbrev pub path_line : Server → Option Under
path_line server = if is_up server.phase && asks is_path_op server then server.under else None

abbrev pub stage_read : Locks → ℕ → Server → Option KeptPlan → Option Stage
stage_read locks number server plan = option_map (λ under. line_stage under.set server.cache plan (to_ask locks number under.set)) (path_line server)
