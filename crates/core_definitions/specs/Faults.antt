-- Which calls fail in a run: whose get or put it is at each step, and how many of a server, or of the host, fail in all.
use Rattle.std.specs.Prelude.{ℕ, ◌+◌, ◌==◌, Bool, false, if◌then◌else◌, Option, Some, None}
use Rattle.std.specs.Option.{option_map}
use Rattle.sector_bytes.specs.SectorMaps.{value_at}
use Rattle.core_definitions.specs.Scripts.{host_party}
use Rattle.core_definitions.specs.Cores.{Core}
use Rattle.core_definitions.specs.Events.{Event, Fetch, Arrive, Load, Look, Read, Heard, GetFailed, PutFailed}
use Rattle.core_definitions.specs.Runs.{State, Step, Event_, PeekFails, Run, Stays, Goes}

-- whose get or put fails at an event, by what is heard
abbrev pub failing : Core → Event → Heard → Option ℕ
failing c (Fetch a sector) GetFailed = Some a
failing c (Load by slot) GetFailed = Some by
failing c (Look by sector) GetFailed = Some by
failing c (Read sector) GetFailed = Some host_party
failing c (Arrive ticket) (PutFailed new) = option_map (λ flight. flight.server) (value_at c.flights ticket)
failing c event heard = None

-- whose call fails at a step; of the steps beside the events one is a failed get of the host
abbrev pub fails_at : (s v : State) → Step s v → Option ℕ
fails_at s v (Event_ event heard makes) = failing s.core event heard
fails_at s v (PeekFails sector going) = Some host_party
fails_at s v step = None

-- the call of this server
abbrev pub is_of : ℕ → Option ℕ → Bool
is_of server None = false
is_of server (Some party) = party == server

-- how many gets and puts of the server, or of the host, fail in the run
abbrev pub failed_calls : (s v : State) → Run s v → ℕ → ℕ
failed_calls s v Stays server = 0
failed_calls s w (Goes {v = v} step run) server = (if is_of server (fails_at s v step) then 1 else 0) + failed_calls v w run server
