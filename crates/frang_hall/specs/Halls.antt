-- What a clause sees of a hall, and what a call makes of an event that was chosen.
use Rattle.std.specs.Prelude.{ℕ, List, Option, None, Result, Ok, Err, set}
use Rattle.frang_base.specs.declared.fault.NoMemory.{NoMemory}
use Rattle.frang_outside.specs.Outside.{State as Outside}
use Rattle.core_definitions.specs.Events.{Event}
use Rattle.core_definitions.specs.Runs.{State as RunMoment, Run}
use Rattle.hall_runs.specs.declared.event.End.{End}
use Rattle.hall_runs.specs.declared.event.Turn.{Turn}
use Rattle.hall_runs.specs.declared.event.Turn.TheVariants as turn
use Rattle.hall_runs.specs.Keeping.{KeptAt}
use Rattle.hall_runs.specs.Outsets.{Outset}
use Rattle.hall_runs.specs.Turning.{Comes}
use Rattle.frang_hall.specs.Machines.{Stands}

pub record Seen (M O : Type 0) : Type 0 where
  pub world : M
  pub out : O
  pub over : Option End
  pub said : ℕ
  pub given : List ℕ  -- the last line of each server that was given to the gate

-- the last lines given, after a turn
abbrev pub given_after : List ℕ → Result Turn NoMemory → List ℕ
given_after given (Ok (turn.Gate server line)) = set given server.0 line
given_after given result = given

-- what the call leaves that makes this event, of a hall that isn't over
pub record MadeTo (after : Stands) (outset : Outset) (event : Event) (r : RunMoment) (over' : Option End) (said' : ℕ) (t : Outside) (result : Result Turn NoMemory) : Type 0 where
  pub moment : RunMoment
  pub is : KeptAt after outset moment over' said' t
  pub run : Run r moment
  pub comes : Comes event r moment over' result

abbrev pub Made : Stands → Stands → Outset → Event → ℕ → Outside → Option End → ℕ → Outside → Result Turn NoMemory → Type 0
Made before after outset event said s over' said' t result =
    (r : RunMoment) → KeptAt before outset r None said s → MadeTo after outset event r over' said' t result
