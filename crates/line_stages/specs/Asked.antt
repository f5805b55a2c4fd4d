-- What a stage in code asks, by the stage alone.
use Rattle.std.specs.Prelude.{ℕ, Bool, true, false, not, ◌||◌, if◌then◌else◌, Option, Some, None, List, [], ◌∷◌}
use Rattle.frang_base.specs.declared.lock.LockId.{LockId}
use Rattle.lock_definitions.specs.Calls.{is_free}
use Rattle.lock_definitions.specs.Locks.{Locks, is_wished}
use Rattle.disk_definitions.specs.Plans.{Lock}
use Rattle.core_definitions.specs.Servers.{Server}
use Rattle.line_stages.specs.Stages.{missing_under}
use Rattle.line_stages.specs.declared.stage.Stage.{Stage}
use Rattle.line_stages.specs.declared.stage.Stage.TheVariants as stages

-- the sectors that are needed, with their covers
abbrev pub needs_of : Server → Option Stage → List (ℕ × LockId)
needs_of server (Some stages.Bitmaps) = missing_under server.under server.cache
needs_of server (Some (stages.Fetching sector cover)) = (sector.0, cover) ∷ []
needs_of server _ = []

-- a lock that is asked for, where that is new or no holder conflicts
abbrev pub asked_so : Locks → ℕ → Lock → Option Lock
asked_so locks number need = if not (is_wished locks number need.0 need.1) || is_free locks number need.0 need.1 then Some need else None

abbrev pub asked_of : Locks → ℕ → Option Stage → Option Lock
asked_of locks number (Some (stages.Asking lock mode)) = asked_so locks number (lock, mode)
asked_of locks number _ = None

abbrev pub cleared_of : Option Stage → Option ℕ
cleared_of (Some (stages.Clearing block)) = Some block
cleared_of _ = None

-- the line begins anew, or its set grows
abbrev pub is_anew_or_grown : Option Stage → Bool
is_anew_or_grown (Some stages.Moving) = true
is_anew_or_grown (Some stages.Growing) = true
is_anew_or_grown _ = false

abbrev pub is_finishing : Option Stage → Bool
is_finishing (Some stages.Finishing) = true
is_finishing _ = false
