-- What a turn answers, by its cause, and what it makes.
use Rattle.std.specs.Prelude.{◌≡◌, ◌⊎◌, ℕ, ◌==◌, Bool, true, false, if◌then◌else◌, Option, Some, None, List, Result, Ok, Err}
use Rattle.frang_base.specs.declared.sector.Sector.{Sector}
use Rattle.frang_base.specs.declared.sector.ServerId.{ServerId}
use Rattle.frang_base.specs.declared.fault.NoMemory.{NoMemory}
use Rattle.frang_outside.specs.Outside.{State as Outside}
use Rattle.core_definitions.specs.Calls.{call_of}
use Rattle.core_definitions.specs.Cores.{Core}
use Rattle.core_definitions.specs.Events.{Event, Heard}
use Rattle.core_definitions.specs.Faults.{failing}
use Rattle.core_definitions.specs.Guards.{Can}
use Rattle.core_definitions.specs.Runs.{State as RunMoment, Makes, Run, entered, next}
use Rattle.core_definitions.specs.Scripts.{host_party}
use Rattle.hall_runs.specs.declared.event.End.{End}
use Rattle.hall_runs.specs.declared.event.End.TheVariants.{Ended, Mute, Fault}
use Rattle.hall_runs.specs.declared.event.Turn.{Turn}
use Rattle.hall_runs.specs.declared.event.Turn.TheVariants as turn
use Rattle.hall_runs.specs.Asking.{sector_by}
use Rattle.hall_runs.specs.Gates.{IsToEnter, IsToGive, NoLineToGive}
use Rattle.hall_runs.specs.Keeping.{KeptAt}
use Rattle.hall_runs.specs.Outsets.{Outset}

-- why a hall is over after an event that it could make, and the turn's answer
abbrev pub after_event : Bool → Option End × Turn
after_event true = (Some Ended, turn.Ended)
after_event false = (None, turn.Did)

-- the same after a failed call of a party at a sector
abbrev pub after_failed : ServerId → Sector → Bool → Option End × Turn
after_failed party sector over = if party.0 == host_party then (Some (Fault sector), turn.Fault sector) else after_event over

-- the answer of each later turn
abbrev pub turn_of : End → Turn
turn_of Ended = turn.Ended
turn_of Mute = turn.Mute
turn_of (Fault sector) = turn.Fault sector

-- the event was made
pub record OneEvent (r v : RunMoment) (event : Event) : Type 0 where
  pub heard : Heard
  pub makes : Makes r event heard
  pub next_is : v ≡ next r event heard

-- and its call at this sector failed, which was the host's
pub record HostEvent (r v : RunMoment) (event : Event) (sector : ℕ) : Type 0 where
  pub one : OneEvent r v event
  pub failed : failing r.core event one.heard ≡ Some host_party
  pub at : sector_by (call_of r.core event) ≡ Some sector

-- what a turn makes of an event that it chose, by its answer; where a say failed, and at want of memory, no event was made
abbrev pub Comes : Event → RunMoment → RunMoment → Option End → Result Turn NoMemory → Type 0
Comes event r v over' (Ok turn.Did) = (over' ≡ None) × OneEvent r v event
Comes event r v over' (Ok turn.Ended) = (over' ≡ Some Ended) × OneEvent r v event
Comes event r v over' (Ok turn.Mute) = (over' ≡ Some Mute) × (v ≡ r)
Comes event r v over' (Ok (turn.Fault sector)) = (over' ≡ Some (Fault sector)) × HostEvent r v event sector.0
Comes event r v over' (Err want) = (over' ≡ None) × (v ≡ r)
Comes event r v over' answer = ⊥

pub record ComesOfOne (chosen : Core → Event → Type 0) (r v : RunMoment) (over' : Option End) (result : Result Turn NoMemory) : Type 0 where
  pub event : Event
  pub is_chosen : chosen r.core event
  pub comes : Comes event r v over' result

-- a turn of a hall that isn't over: a line is given; none is to be given and nothing is enabled; or none is, and an event is made
abbrev pub IsTurn : (Core → Event → Type 0) → List ℕ → ℕ → RunMoment → RunMoment → Option End → Result Turn NoMemory → Type 0
IsTurn chosen given worker r v over' (Ok (turn.Gate server line)) = (over' ≡ None) × (v ≡ r) × IsToGive r.core given worker server.0 line
IsTurn chosen given worker r v over' (Ok turn.Idle) = (over' ≡ None) × (v ≡ r) × NoLineToGive r.core given × ((event : Event) → Can r.core event → ⊥)
IsTurn chosen given worker r v over' (Err want) = (over' ≡ None) × (v ≡ r) × NoLineToGive r.core given
IsTurn chosen given worker r v over' answer = NoLineToGive r.core given × ComesOfOne chosen r v over' answer

-- a turn by its answer; once it is over each turn answers the same
abbrev pub IsMade : (Core → Event → Type 0) → List ℕ → ℕ → RunMoment → RunMoment → Option End → Option End → Result Turn NoMemory → Type 0
IsMade chosen given worker r v (Some end) over' result = (over' ≡ Some end) × (v ≡ r) × (result ≡ Ok (turn_of end))
IsMade chosen given worker r v None over' result = IsTurn chosen given worker r v over' result

-- what a turn leaves: a short run further it is kept again
pub record TurnedTo (chosen : Core → Event → Type 0) (after : RunMoment → Type 0) (outset : Outset) (given : List ℕ) (worker : ℕ) (r : RunMoment) (over over' : Option End) (said' : ℕ) (t : Outside) (result : Result Turn NoMemory) : Type 0 where
  pub moment : RunMoment
  pub is : KeptAt after outset moment over' said' t
  pub run : Run r moment
  pub made : IsMade chosen given worker r moment over over' result

-- from whatever moment it was
abbrev pub Turned : (Core → Event → Type 0) → (RunMoment → Type 0) → (RunMoment → Type 0) → Outset → List ℕ → ℕ → Option End → ℕ → Outside → Option End → ℕ → Outside → Result Turn NoMemory → Type 0
Turned chosen before after outset given worker over said s over' said' t result =
    (r : RunMoment) → KeptAt before outset r over said s → TurnedTo chosen after outset given worker r over over' said' t result

-- the line that was given has passed the gate, where it hadn't; else nothing changed
abbrev pub HasEntered : List ℕ → ℕ → RunMoment → RunMoment → Type 0
HasEntered given line r v =
    ((v ≡ entered r line) × ((a : ℕ) × IsToEnter r.core given line a)) ⊎ ((v ≡ r) × ((a : ℕ) → IsToEnter r.core given line a → ⊥))

pub record EnteredTo (after : RunMoment → Type 0) (outset : Outset) (given : List ℕ) (line : ℕ) (r : RunMoment) (over : Option End) (said : ℕ) (s : Outside) : Type 0 where
  pub moment : RunMoment
  pub is : KeptAt after outset moment over said s
  pub run : Run r moment
  pub passed : HasEntered given line r moment

abbrev pub Entered : (RunMoment → Type 0) → (RunMoment → Type 0) → Outset → List ℕ → ℕ → Option End → ℕ → Outside → Type 0
Entered before after outset given line over said s = (r : RunMoment) → KeptAt before outset r over said s → EnteredTo after outset given line r over said s
