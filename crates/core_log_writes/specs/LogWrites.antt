-- What a write of a server's own log leads to, and what it rests on.
use Rattle.std.specs.Prelude.{◌≡◌, ℕ, Some, List}
use Rattle.sector_bytes.specs.SectorMaps.{value_at}
use Rattle.sector_bytes.specs.Sectors.{Sectors}
use Rattle.core_definitions.specs.Flights as core
use Rattle.core_definitions.specs.Runs.{State as RunMoment, first_state}
use Rattle.core_definitions.specs.Settings.{Setting}
use Rattle.sector_world.specs.Kinds.{Good}
use Rattle.sector_world.specs.Steps.{Event}
use Rattle.sector_world.specs.World.{World}
use Rattle.core_world.specs.Beside.{AreEnds, AreOpen, NoneInLogs}
use Rattle.core_world.specs.Events.{LeadsQuietly}
use Rattle.core_world.specs.Journals.{Journal}
use Rattle.core_world.specs.Steps.{IsReached, IsWorldOf}

-- these events lead quietly to the next moment, with these journals, and then marks lie where operations end, and logs are open
pub record LeadsBy (w : World) (events : List Event) (v : RunMoment) (journal : ℕ → Journal) : Type 0 where
  pub quiet : LeadsQuietly w v journal
  pub by : quiet.leads.events ≡ events
  pub marks : AreEnds v.core.servers quiet.leads.world journal
  pub open_ : AreOpen v.core.servers v.core.now v.disk journal

-- a write of a log in flight, and what is known before one hears of it
pub record IsLogFlight (s : RunMoment) (w : World) (journal : ℕ → Journal) (ticket : ℕ) (flight : core.Flight) : Type 0 where
  pub reached : IsReached s
  pub tied : IsWorldOf s w journal
  pub good : Good w
  pub marks : AreEnds s.core.servers w journal
  pub open_ : AreOpen s.core.servers s.core.now s.disk journal
  pub at : value_at s.core.flights ticket ≡ Some flight
  pub number : ℕ
  pub of_log : flight.purpose ≡ core.OfLog number
  pub none : NoneInLogs s.core.setting.segments w

-- at first no server is dead
abbrev pub LogsBeginOpen : Type 0
LogsBeginOpen = (setting : Setting) (disk : Sectors) (journal : ℕ → Journal) → AreOpen (first_state setting disk).core.servers (first_state setting disk).core.now disk journal
