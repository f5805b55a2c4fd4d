-- The parts of the step law over runs that are of what else stands beside a moment, of each world that the run's began as; and what it begins with.
use Rattle.sector_world.specs.World.{World}
use Rattle.core_run_ties.specs.Ties.{StandsFurther}
use Rattle.core_runs.specs.Kept.{Further}
use Rattle.core_runs.specs.Open.{FurtherGoesOn, RecoveriesKeepTheirReports}
use Rattle.core_runs.specs.Starts.{FurtherBegins}

-- a recovery keeps as much by the number that it reports as by the world's
abbrev pub ReportsAreKept : Type 0
ReportsAreKept = (first : World) → RecoveriesKeepTheirReports (StandsFurther first)

-- what else stands beside goes on at each step
abbrev pub FurtherStays : Type 0
FurtherStays = (first : World) → FurtherGoesOn (StandsFurther first)

-- ---- first moments

-- beside a world that began as itself
abbrev pub StandsAsBegun : Further
StandsAsBegun s w journal = StandsFurther w s w journal

-- it does at the first moment of each start
abbrev pub FurtherStands : Type 0
FurtherStands = FurtherBegins StandsAsBegun
