-- Writes that go without a trace: they come too late, or are lost with their server.
use Rattle.std.specs.Prelude.{ℕ}
use Rattle.core_definitions.specs.Events.{Arrive, Late, Lose, Nothing}
use Rattle.core_definitions.specs.Runs.{State as RunMoment, Makes, next}
use Rattle.sector_world.specs.World.{World}
use Rattle.core_world.specs.Events.{LeadsQuietly}
use Rattle.core_world.specs.Journals.{Journal}
use Rattle.core_world.specs.Steps.{IsReached, IsWorldOf}

-- one that comes too late
abbrev pub LateAreEvents : Type 0
LateAreEvents =
    (s : RunMoment) (w : World) (journal : ℕ → Journal) (ticket : ℕ) → IsReached s → IsWorldOf s w journal → Makes s (Arrive ticket) Late → LeadsQuietly w (next s (Arrive ticket) Late) journal

-- one of a dead server that is lost
abbrev pub LosesAreEvents : Type 0
LosesAreEvents =
    (s : RunMoment) (w : World) (journal : ℕ → Journal) (ticket : ℕ) → IsReached s → IsWorldOf s w journal → Makes s (Lose ticket) Nothing → LeadsQuietly w (next s (Lose ticket) Nothing) journal
