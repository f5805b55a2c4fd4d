-- The scripts that can be judged, as each that was read can: their numbers ascend, their ticks are few, and the targets that they ask for are targets.
use Rattle.std.specs.Prelude.{◌<◌, ◌≡◌, ℕ, Bool, true, List, [], ◌∷◌, Option, Some, None, Result, Ok, Err, length, map}
use Rattle.std.specs.List.{list_all, slice_get}
use Rattle.frang_base.specs.declared.limits.TheConstants.{RUN_TICKS_END}
use Rattle.frang_base.specs.declared.op.What.{What}
use Rattle.frang_base.specs.declared.op.What.TheVariants.{Server, Host}
use Rattle.frang_base.specs.declared.script.Line.{Line}
use Rattle.tree_definitions.specs.declared.history.Item.{Item}
use Rattle.tree_definitions.specs.Live.{line_of, script_time}
use Rattle.script_definitions.specs.Ticks.{all_ticks}
use Rattle.tree_model.specs.Replayed.{is_within}
use Rattle.transcript_rules.specs.Tells.{AscendFrom}

abbrev pub what_within : What → Bool
what_within (Server o) = is_within o
what_within (Host h) = true

pub record CanJudge (script : List Line) : Type 0 where
  pub ascend : AscendFrom 0 script
  pub few : all_ticks script < RUN_TICKS_END
  pub within : list_all (λ l. what_within l.what) script ≡ true

-- a place has the line with a number
pub record IsPlace (script : List Line) (number place : ℕ) : Type 0 where
  pub within : place < length script
  pub line : Line
  pub is_at : slice_get script place ≡ Some line
  pub own : line.number ≡ number
  pub is : line_of script number ≡ Some line

-- what a search for the line with a number answers: its place, or that there is none
abbrev pub Finds : List Line → ℕ → Result ℕ ℕ → Type 0
Finds script number (Ok place) = IsPlace script number place
Finds script number (Err place) = line_of script number ≡ None

-- the time of each line of a script
abbrev pub times_of : List Line → List ℕ
times_of script = map (λ l. script_time script l.number) script

-- an item, or none
abbrev pub items_of : Option Item → List Item
items_of None = []
items_of (Some item) = item ∷ []
