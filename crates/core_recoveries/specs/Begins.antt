-- Recoveries that begin.
use Rattle.std.specs.Prelude.{ℕ}
use Rattle.core_definitions.specs.Events.{Recover, Nothing}
use Rattle.core_definitions.specs.Runs.{State as RunMoment, Makes, next}
use Rattle.sector_world.specs.World.{World}
use Rattle.core_world.specs.Events.{LeadsQuietly}
use Rattle.core_world.specs.Journals.{Journal}
use Rattle.core_world.specs.Steps.{IsReached, IsWorldOf}

-- a Recover, over a hold that is over, or over none, by a server that is Up or by the host
abbrev pub BeginsAreEvents : Type 0
BeginsAreEvents =
    (s : RunMoment) (w : World) (journal : ℕ → Journal) (dead by : ℕ) → IsReached s → IsWorldOf s w journal → Makes s (Recover dead by) Nothing →
    LeadsQuietly w (next s (Recover dead by) Nothing) journal
