-- What comes of making ready for an event.
use Rattle.std.specs.Prelude.{◌≡◌, ℕ, IsTrue, Option, Some, None}
use Rattle.sector_bytes.specs.SectorMaps.{value_at}
use Rattle.core_definitions.specs.Cores.{Core, writes}
use Rattle.core_definitions.specs.Events.{Event}
use Rattle.core_definitions.specs.Guards.{Can, CanGoing, CanOther, is_stale}
use Rattle.core_definitions.specs.WriteGuards.{CanIssue}
use Rattle.hall_runs.specs.Asking.{Asks}
use Rattle.host_tree.specs.Reading.{HostReading}
use Rattle.server_issues.specs.Issuing.{write_of}
use Rattle.server_issues.specs.declared.writes.WantedWrite.{WantedWrite}
use Rattle.world_state.specs.States.{State, core_at}
use Rattle.world_next.specs.Over.{core_over}
use Rattle.world_ready.specs.Events.{event_in}
use Rattle.world_ready.specs.Fits.{MayMake}
use Rattle.world_ready.specs.declared.kinds.Made.{Made}
use Rattle.world_ready.specs.declared.kinds.Ready.{Ready}

-- what is ready fits the world and what the host has read of the tree: its event may happen there, and it is what the event's call asks
pub record Fits (s : State) (tree : HostReading) (ready : Ready) : Type 0 where
  pub can : Can (core_over s tree) (event_in ready)
  pub may : MayMake (core_at s) s tree ready

-- ---- of one event

-- a core with what the host has read and said of the tree
abbrev pub with_tree : Core → HostReading → Core
with_tree c tree = record c { read = tree.read; shown = tree.shown }

-- it is for this event, which may happen, and that asks this of the outside
pub record IsMadeFor (c : Core) (s : State) (tree : HostReading) (this : Event) (made : Made) : Type 0 where
  pub event : event_in made.ready ≡ this
  pub can : CanGoing (with_tree c tree) this
  pub asks : Asks (with_tree c tree) this made.call
  pub may : MayMake c s tree made.ready

-- nothing was made exactly where the event may not happen
abbrev pub IsMade : Core → State → HostReading → Event → Option Made → Type 0
IsMade c s tree event None = CanGoing (with_tree c tree) event → ⊥
IsMade c s tree event (Some made) = IsMadeFor c s tree event made

-- whatever the host has read of the tree
abbrev pub IsMadeOf : Core → State → Event → Option Made → Type 0
IsMadeOf c s event made = (tree : HostReading) → IsMade c s tree event made

-- ---- of all

pub record IsReadyFor (s : State) (tree : HostReading) (this : Event) (made : Made) : Type 0 where
  pub event : event_in made.ready ≡ this
  pub fits : Fits s tree made.ready
  pub asks : Asks (core_over s tree) this made.call

abbrev pub Makes : State → HostReading → Event → Option Made → Type 0
Makes s tree event None = Can (core_over s tree) event → ⊥
Makes s tree event (Some made) = IsReadyFor s tree event made

-- ---- writes

-- a write that a party may issue; none where it may not issue one
abbrev pub MayWrite : Core → ℕ → ℕ → Option WantedWrite → Type 0
MayWrite c by sector None = CanIssue c by sector → ⊥
MayWrite c by sector (Some write) = CanIssue c by sector × (value_at (writes c by) sector ≡ Some (write_of write))

-- ---- the clock

-- nothing may happen but a tick and arrivals and losses of writes by servers that are stalled or dead
abbrev pub IsQuiet : Core → Type 0
IsQuiet c = (event : Event) → CanOther c event → IsTrue (is_stale c event)
