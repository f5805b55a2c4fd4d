-- A list of events by the program's names of them, and what is put behind it.
use Rattle.std.specs.Prelude.{◌≡◌, ◌++◌, List, map}
use Rattle.core_definitions.specs.Events.{Event}
use Rattle.hall_runs.specs.Asking.{event_of}
use Rattle.hall_runs.specs.declared.event.Event.{Event as Named}
use Rattle.host_tree.specs.Reading.{HostReading}

abbrev pub events_of : List Named → List Event
events_of list = map event_of list

-- these events stand behind those that were listed before
abbrev pub Adds : List Named → List Named → List Event → Type 0
Adds old new events = events_of new ≡ events_of old ++ events

-- whatever the host has read and said of the tree
abbrev pub AddsOf : List Named → List Named → (HostReading → List Event) → Type 0
AddsOf old new events = (tree : HostReading) → Adds old new (events tree)
