-- What is witnessed along a run of the core.
use Rattle.std.specs.Prelude.{ℕ, true, Option, Some, None, List, [], ◌∷◌, ◌++◌}
use Rattle.sector_bytes.specs.SectorMaps.{value_at}
use Rattle.core_definitions.specs.Cores.{Core}
use Rattle.core_definitions.specs.Effects.{Says, deeds_of, deeds_of_put}
use Rattle.core_definitions.specs.Events.{Event, Arrive, Heard, PutFailed}
use Rattle.core_definitions.specs.Flights.{Flight}
use Rattle.core_definitions.specs.Runs.{State as RunMoment, Step, Event_, Note, Run, Stays, Goes}
use Rattle.headline_definitions.specs.Witnessed.{Witnessed, Acted, Broke, told}

-- of a write that arrives: its deed, or that it failed and left the new sector
abbrev pub witnessed_of_put : ℕ → Flight → Heard → List Witnessed
witnessed_of_put now flight (PutFailed true) = Broke flight.sector flight.block ∷ []
witnessed_of_put now flight heard = told (deeds_of_put now flight heard)

-- where there is such a write
abbrev pub witnessed_of_arrival : ℕ → Heard → Option Flight → List Witnessed
witnessed_of_arrival now heard None = []
witnessed_of_arrival now heard (Some flight) = witnessed_of_put now flight heard

-- of an event
abbrev pub witnessed_by : Core → Event → Heard → List Witnessed
witnessed_by c (Arrive ticket) heard = witnessed_of_arrival c.now heard (value_at c.flights ticket)
witnessed_by c event heard = told (deeds_of c event heard)

-- of a step: one at most
abbrev pub witnessed_at : (s v : RunMoment) → Step s v → List Witnessed
witnessed_at s v (Event_ event heard makes) = witnessed_by s.core event heard
witnessed_at s v (Note line may) = Acted (Says line) ∷ []
witnessed_at s v step = []

-- along a run
abbrev pub witnessed_in : (s v : RunMoment) → Run s v → List Witnessed
witnessed_in s v Stays = []
witnessed_in s w (Goes {v = v} step run) = witnessed_at s v step ++ witnessed_in v w run
