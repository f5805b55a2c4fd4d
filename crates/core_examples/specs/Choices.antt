-- All that may happen at each turn of a run by the first event; and states to begin at, stated by hand.
use Rattle.std.specs.Prelude.{ℕ, zero, suc, false, List, [], ◌∷◌, length}
use Rattle.frang_base.specs.declared.script.Line.{Line}
use Rattle.lock_definitions.specs.Locks.{Locks}
use Rattle.ring_definitions.specs.Rings.{ring_at}
use Rattle.core_definitions.specs.Flights.{Flights}
use Rattle.core_definitions.specs.Servers.{Server, Up, Still, Dead, first_server}
use Rattle.core_definitions.specs.Cores.{Core, with_server}
use Rattle.core_definitions.specs.Events.{Event}
use Rattle.core_definitions.specs.Enabled.{enabled}
use Rattle.core_definitions.specs.Runs.{State, next}
use Rattle.core_examples.specs.Driving.{driven, filed_opening, hears, opening}

-- ---- what may happen

-- at this moment
abbrev pub open_now : State → List Event
open_now s = enabled s.core

abbrev pub open_from : (State → List (List Event)) → State → List Event → List (List Event)
open_from onward s [] = [] ∷ []
open_from onward s (event ∷ others) = (event ∷ others) ∷ onward (next s event (hears (λ ticket. false) s event))

-- at each of so many turns, whose first event is made; no call fails
abbrev pub choices : ℕ → State → List (List Event)
choices zero s = []
choices (suc n) s = open_from (choices n) s (open_now s)

-- behind so many turns
abbrev pub later : ℕ → State → State
later n s = (driven n s).end

-- ---- states stated by hand

-- an empty script, over a disk whose tree is the root alone
abbrev pub idle : State
idle = opening []

abbrev pub with_core : State → Core → State
with_core s core = record s { core = core }

-- with this server
abbrev pub having : State → ℕ → Server → State
having s a server = with_core s (with_server s.core a server)

-- with these locks
abbrev pub locked_so : State → Locks → State
locked_so s locks = with_core s (record s.core { locks = locks })

-- with these writes in flight, whose tickets are the first ones
abbrev pub flying : State → Flights → State
flying s flights = with_core s (record s.core { flights = flights; tickets = length flights })

-- at this tick
abbrev pub at_tick : ℕ → State → State
at_tick now s = with_core s (record s.core { now = now })

-- a server as its mount at tick 0 leaves it, where its log is empty
abbrev pub up : Server
up = record first_server { phase = Up; expiry = 30; ring = ring_at 255 }

-- and one that stands still since, or is dead
abbrev pub still : Server
still = record up { phase = Still }

abbrev pub dead : Server
dead = record up { phase = Dead }

-- two servers are up, over a disk whose root has a file
abbrev pub two_up : List Line → State
two_up script = having (having (filed_opening script) 0 up) 1 up
