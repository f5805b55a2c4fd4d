-- A run in another order: at each turn one of the events that may happen, by its place in their list.
use Rattle.std.specs.Prelude.{◌++◌, replicate, ℕ, zero, suc, Bool, if◌then◌else◌, Option, Some, None, List, [], ◌∷◌}
use Rattle.std.specs.List.{filter_map, slice_get}
use Rattle.frang_base.specs.declared.script.Line.{Line}
use Rattle.frang_outside.specs.declared.act.Taken.{Taken}
use Rattle.core_definitions.specs.Effects.{Deed, Made, Says}
use Rattle.core_definitions.specs.Enabled.{enabled}
use Rattle.core_definitions.specs.Events.{Event}
use Rattle.core_definitions.specs.Runs.{State, next}
use Rattle.core_examples.specs.Driving.{Driven, Story, behind, filed_opening, flushing_soon, hears, is_log_get, story_of}

abbrev pub soon_opening : List Line → State
soon_opening script = flushing_soon (filed_opening script)

-- ---- the choice

-- the first place in so many turns, and then these
abbrev pub first : ℕ → List ℕ → List ℕ
first turns places = replicate turns 0 ++ places

-- a slot of a log is got where its get comes first; else the next place counts, and behind the last the first event
abbrev pub place_now : List ℕ → ℕ
place_now [] = 0
place_now (place ∷ later) = place

abbrev pub later_places : List ℕ → List ℕ
later_places [] = []
later_places (place ∷ later) = later

abbrev pub place_at : List ℕ → Event → ℕ
place_at places event = if is_log_get event then 0 else place_now places

abbrev pub places_behind : List ℕ → Event → List ℕ
places_behind places event = if is_log_get event then places else later_places places

-- ---- the run

abbrev pub made : (ℕ → Bool) → (State → Driven) → State → Option Event → Driven
made fails onward s None = record { events = []; end = s }
made fails onward s (Some event) = behind event (onward (next s event (hears fails s event)))

abbrev pub chosen : (ℕ → Bool) → (List ℕ → State → Driven) → List ℕ → State → List Event → Driven
chosen fails onward places s [] = record { events = []; end = s }
chosen fails onward places s (event ∷ others) = made fails (onward (places_behind places event)) s (slice_get (event ∷ others) (place_at places event))

-- so many turns, each by its place
abbrev pub driven_choosing : (ℕ → Bool) → ℕ → List ℕ → State → Driven
driven_choosing fails zero places s = record { events = []; end = s }
driven_choosing fails (suc n) places s = chosen fails (driven_choosing fails n) places s (enabled s.core)

-- ---- what is told of it

abbrev pub taken_by : Deed → Option (ℕ × Taken)
taken_by (Made put taken) = Some (put.sector.0, taken)
taken_by (Says line) = None

-- its story, and the puts that were answered, each with its sector and how it was taken
pub record Tale : Type 0 where
  pub story : Story
  pub puts : List (ℕ × Taken)

abbrev pub tale_of : Driven → Tale
tale_of run = record { story = story_of run; puts = filter_map taken_by run.end.record_ }
