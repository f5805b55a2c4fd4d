-- Writes of a server's own log that arrive in time.
use Rattle.std.specs.Prelude.{◌≡◌, ◌≤◌, ℕ, true, false, [], ◌∷◌}
use Rattle.ring_definitions.specs.RingRuns as log
use Rattle.core_definitions.specs.Events.{Arrive, Written}
use Rattle.core_definitions.specs.Flights as core
use Rattle.core_definitions.specs.Runs.{State as RunMoment, Makes, next}
use Rattle.sector_world.specs.Steps.Event.{Ack, Reach}
use Rattle.sector_world.specs.World.{World}
use Rattle.core_world.specs.Journals.{Journal, with_event_of}
use Rattle.core_log_writes.specs.LogWrites.{IsLogFlight, LeadsBy}

-- the log's durable operations are these or more, and these or more are known to be
pub record Acknowledges (w : World) (a : ℕ) (v : RunMoment) (journal : ℕ → Journal) : Type 0 where
  pub durable : ℕ
  pub acked : ℕ
  pub more : w.durable a ≤ durable
  pub known : w.acked a ≤ acked
  pub leads : LeadsBy w (Reach a durable ∷ Ack a acked ∷ []) v journal

-- the durable ones are more or as many
pub record Reaches (w : World) (a : ℕ) (v : RunMoment) (journal : ℕ → Journal) : Type 0 where
  pub durable : ℕ
  pub more : w.durable a ≤ durable
  pub leads : LeadsBy w (Reach a durable ∷ []) v journal

-- one of its server's present mount; its sector stands in its slot then, and its number is acknowledged
abbrev pub LiveLogsGrow : Type 0
LiveLogsGrow =
    (s : RunMoment) (w : World) (journal : ℕ → Journal) (ticket : ℕ) (flight : core.Flight) → (is : IsLogFlight s w journal ticket flight) → flight.present ≡ true →
    Makes s (Arrive ticket) Written →
    Acknowledges w flight.server (next s (Arrive ticket) Written) (with_event_of (with_event_of journal flight.server (log.Arrive is.number)) flight.server (log.Acknowledge is.number))

-- one of an earlier mount: its server is dead since
abbrev pub LeftLogsGrow : Type 0
LeftLogsGrow =
    (s : RunMoment) (w : World) (journal : ℕ → Journal) (ticket : ℕ) (flight : core.Flight) → (is : IsLogFlight s w journal ticket flight) → flight.present ≡ false →
    Makes s (Arrive ticket) Written → Reaches w flight.server (next s (Arrive ticket) Written) (with_event_of journal flight.server (log.Arrive is.number))
