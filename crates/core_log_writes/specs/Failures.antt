-- Writes of a server's own log that fail in time.
use Rattle.std.specs.Prelude.{◌≤◌, ℕ, true, false, [], ◌∷◌}
use Rattle.ring_definitions.specs.RingRuns as log
use Rattle.core_definitions.specs.Events.{Arrive, PutFailed}
use Rattle.core_definitions.specs.Flights as core
use Rattle.core_definitions.specs.Runs.{State as RunMoment, Makes, next}
use Rattle.sector_world.specs.Steps.Event.{Fail, Reach}
use Rattle.sector_world.specs.World.{World}
use Rattle.core_world.specs.Journals.{Journal, with_event_of}
use Rattle.core_log_writes.specs.LogWrites.{IsLogFlight, LeadsBy}

-- the log's durable operations are these or more, and its server has failed
pub record ReachesAndFails (w : World) (a : ℕ) (v : RunMoment) (journal : ℕ → Journal) : Type 0 where
  pub durable : ℕ
  pub more : w.durable a ≤ durable
  pub leads : LeadsBy w (Reach a durable ∷ Fail a ∷ []) v journal

-- one that leaves the old sector, of a server that lives or is dead since
abbrev pub OldLogsFail : Type 0
OldLogsFail =
    (s : RunMoment) (w : World) (journal : ℕ → Journal) (ticket : ℕ) (flight : core.Flight) → IsLogFlight s w journal ticket flight → Makes s (Arrive ticket) (PutFailed false) →
    LeadsBy w (Fail flight.server ∷ []) (next s (Arrive ticket) (PutFailed false)) journal

-- one that leaves the new one: the log grows, and nothing of it is known
abbrev pub NewLogsFail : Type 0
NewLogsFail =
    (s : RunMoment) (w : World) (journal : ℕ → Journal) (ticket : ℕ) (flight : core.Flight) → (is : IsLogFlight s w journal ticket flight) →
    Makes s (Arrive ticket) (PutFailed true) → ReachesAndFails w flight.server (next s (Arrive ticket) (PutFailed true)) (with_event_of journal flight.server (log.Arrive is.number))
