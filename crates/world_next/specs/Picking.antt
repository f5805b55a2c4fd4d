-- What a search for an event says: one that may happen, or that none of those it looks for may.
use Rattle.std.specs.Prelude.{Option, Some, None}
use Rattle.core_definitions.specs.Cores.{Core}
use Rattle.core_definitions.specs.Guards.{CanGoing}
use Rattle.hall_runs.specs.Asking.{event_of}
use Rattle.hall_runs.specs.declared.event.Event.{Event}
use Rattle.host_tree.specs.Reading.{HostReading}
use Rattle.world_next.specs.NoEvents.{CanBeside}
use Rattle.world_state.specs.States.{State}
use Rattle.world_next.specs.Over.{core_over}

abbrev pub Picks : Core → (Core → Type 0) → Option Event → Type 0
Picks c NoneIs None = NoneIs c
Picks c NoneIs (Some event) = CanGoing c (event_of event)

-- the same, where what is picked is neither a tick nor of a write in flight
abbrev pub PicksBeside : Core → (Core → Type 0) → Option Event → Type 0
PicksBeside c NoneIs None = NoneIs c
PicksBeside c NoneIs (Some event) = CanBeside c (event_of event)

-- whatever the host has read of the tree
abbrev pub PicksOf : State → (Core → Type 0) → Option Event → Type 0
PicksOf s NoneIs result = (tree : HostReading) → PicksBeside (core_over s tree) NoneIs result

-- one that may happen, if any
abbrev pub PicksSure : State → Option Event → Type 0
PicksSure s result = PicksOf s (λ c. Unit {0}) result
