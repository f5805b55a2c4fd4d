-- Writes of a server's own log that come too late, or are lost with their server.
use Rattle.std.specs.Prelude.{ℕ, []}
use Rattle.core_definitions.specs.Events.{Arrive, Late, Lose, Nothing}
use Rattle.core_definitions.specs.Flights as core
use Rattle.core_definitions.specs.Runs.{State as RunMoment, Makes, next}
use Rattle.sector_world.specs.World.{World}
use Rattle.core_world.specs.Journals.{Journal}
use Rattle.core_log_writes.specs.LogWrites.{IsLogFlight, LeadsBy}

-- one that comes too late is none
abbrev pub LateLogsAreNone : Type 0
LateLogsAreNone =
    (s : RunMoment) (w : World) (journal : ℕ → Journal) (ticket : ℕ) (flight : core.Flight) → IsLogFlight s w journal ticket flight → Makes s (Arrive ticket) Late →
    LeadsBy w [] (next s (Arrive ticket) Late) journal

-- and one that is lost with a dead server
abbrev pub LostLogsAreNone : Type 0
LostLogsAreNone =
    (s : RunMoment) (w : World) (journal : ℕ → Journal) (ticket : ℕ) (flight : core.Flight) → IsLogFlight s w journal ticket flight → Makes s (Lose ticket) Nothing →
    LeadsBy w [] (next s (Lose ticket) Nothing) journal
