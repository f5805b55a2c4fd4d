-- What the calls of a machine promise of the moments of which it is the core.
use Rattle.std.specs.Prelude.{◌≡◌, ◌%◌, ℕ, Bool, Option, Some, None, List, length}
use Rattle.std.specs.List.{slice_get}
use Rattle.frang_base.specs.declared.script.Line.{Line}
use Rattle.frang_outside.specs.declared.act.Put.{Put}
use Rattle.frang_outside.specs.Outside.{State as Outside}
use Rattle.petal_disk.specs.declared.ticket.Arrived.{Arrived}
use Rattle.petal_disk.specs.declared.ticket.Arrived.TheVariants as arrived
use Rattle.petal_disk.specs.Arriving.{ArriveOutcome}
use Rattle.core_definitions.specs.Calls.{MakePut, call_of}
use Rattle.core_definitions.specs.Cores.{Core}
use Rattle.core_definitions.specs.Enabled.{enabled}
use Rattle.core_definitions.specs.Events.{Event, Heard, Arrive, Written, Late, PutFailed}
use Rattle.core_definitions.specs.Guards.{Can}
use Rattle.core_definitions.specs.Runs.{State as RunMoment, CanEnter, Makes, next, entered}
use Rattle.hall_runs.specs.declared.event.Event.{Event as Named}
use Rattle.hall_runs.specs.declared.event.Call.{Call}
use Rattle.hall_runs.specs.declared.event.Heard.{Heard as Told}
use Rattle.hall_runs.specs.Asking.{Asks, event_of, heard_of}

abbrev pub Stands : Type 1
Stands = RunMoment → Type 0

-- it is the core of the same moments
abbrev pub Same : Stands → Stands → Type 0
Same before after = (r : RunMoment) → before r → after r

-- the event is enabled
abbrev pub Listed : Stands → Named → Type 0
Listed before event = (r : RunMoment) → before r → Can r.core (event_of event)

-- no event is
abbrev pub NoneListed : Stands → Type 0
NoneListed before = (r : RunMoment) → before r → (event : Event) → Can r.core event → ⊥

-- the event at the place of a draw among those enabled
abbrev pub drawn_from : List Event → ℕ → Option Event
drawn_from events draw = slice_get events (draw % length events)

abbrev pub IsDrawn : ℕ → Core → Event → Type 0
IsDrawn draw c event = drawn_from (enabled c) draw ≡ Some event

abbrev pub Drawn : Stands → ℕ → Named → Type 0
Drawn before draw event = (r : RunMoment) → before r → IsDrawn draw r.core (event_of event)

-- the event is enabled and asks this
abbrev pub AsksSo : Stands → Named → Call → Type 0
AsksSo before event call = (r : RunMoment) → before r → Can r.core (event_of event) × Asks r.core (event_of event) call

-- and there is room for it
abbrev pub IsReady : Stands → (Event → Type 0) → Named → Call → Type 0
IsReady before room event call = AsksSo before event call × room (event_of event)

-- the event is made by what was heard, where that may be heard
abbrev pub Stepping : Stands → Stands → Named → Told → Type 0
Stepping before after event told = (r : RunMoment) → before r → Makes r (event_of event) (heard_of told) → after (next r (event_of event) (heard_of told))

-- the next line of the server, where it may enter, passes the gate
abbrev pub Enters : Stands → Stands → ℕ → Type 0
Enters before after server = (r : RunMoment) (line : Line) → before r → CanEnter r.core server line → after (entered r line.number)

-- after an answer the event is made, whichever block a failed write left; after want of memory nothing has changed
abbrev pub LandsBy : Stands → RunMoment → ℕ → Arrived → Type 0
LandsBy after r ticket arrived.Written = Makes r (Arrive ticket) Written → after (next r (Arrive ticket) Written)
LandsBy after r ticket (arrived.Late stamp now) = Makes r (Arrive ticket) Late → after (next r (Arrive ticket) Late)
LandsBy after r ticket arrived.Failed = (new : Bool) → Makes r (Arrive ticket) (PutFailed new) → after (next r (Arrive ticket) (PutFailed new))
LandsBy after r ticket arrived.NoMemory = after r

-- the outside was called once with the write that the event asks for
abbrev pub Arriving : Stands → Stands → ℕ → Outside → Outside → Arrived → Type 0
Arriving before after ticket s t answer =
    (r : RunMoment) (put : Put) → before r → call_of r.core (Arrive ticket) ≡ MakePut ticket put → ArriveOutcome s t put answer × LandsBy after r ticket answer
