-- The places of all parties in a script: what contracts see of them, and how they are kept.
use Rattle.std.specs.Prelude.{◌≡◌, ℕ, ◌==◌, ◌+◌, ◌-◌, ◌^◌, ◌<◌, Bool, true, false, if◌then◌else◌, not, ◌&&◌, nat_lt, max, min, IsTrue, Option, Some, None, List, [], ◌∷◌, length, replicate, slice_index}
use Rattle.std.specs.List.{list_all, position_or_len}
use Rattle.frang_base.specs.declared.script.Line.{Line}
use Rattle.tree_definitions.specs.Live.{script_time}
use Rattle.core_definitions.specs.Scripts.{Marks}
use Rattle.world_definitions.specs.Worlds.{marks_of}

-- the script, and by the numbers of its lines which are answered and which have passed the gate
pub record Placed : Type 0 where
  pub script : List Line
  pub answered : List Bool
  pub passed : List Bool

-- the numbers are above this one
abbrev pub all_above : ℕ → List Line → Bool
all_above number lines = list_all (λ line. nat_lt number line.number) lines

-- the numbers of the lines ascend
abbrev pub ascends : List Line → Bool
ascends [] = true
ascends (line ∷ lines) = all_above line.number lines && ascends lines

-- so many marks have one for each line's number
abbrev pub mark_count : List Line → ℕ
mark_count [] = 0
mark_count (line ∷ lines) = max (line.number + 1) (mark_count lines)

-- the ticks that the lines before a number let pass, or the greatest number of 64 bits where they are more
abbrev pub ticks_before : List Line → ℕ → ℕ
ticks_before lines number = min (script_time lines number) (2 ^ 64 - 1)

-- those of a number up to the last line's; none of one above
abbrev pub ticks_known : List Line → ℕ → Option ℕ
ticks_known lines number = if nat_lt number (mark_count lines) then Some (ticks_before lines number) else None

-- nothing is answered, and nothing has passed
abbrev pub placed_first : List Line → Placed
placed_first script = record { script = script; answered = replicate (mark_count script) false; passed = replicate (mark_count script) false }

-- a line has both its marks
pub record IsMarked (placed : Placed) (line : Line) : Type 0 where
  pub answered : line.number < length placed.answered
  pub passed : line.number < length placed.passed

-- ---- how they are kept

abbrev pub is_unanswered : Marks → Line → Bool
is_unanswered answered line = not (answered line.number)

abbrev pub is_next_of : Marks → ℕ → Line → Bool
is_next_of answered who line = line.who.0 == who && not (answered line.number)

-- these are the ticks before each number up to the last line's
pub record AreTicks (script : List Line) (ticks : List ℕ) : Type 0 where
  pub all : length ticks ≡ mark_count script
  pub each : (number : ℕ) → number < length ticks → slice_index ticks number ≡ ticks_before script number

-- the lines ascend and have both marks; the places are those of each party's next line, and of the first line that isn't answered
pub record IsPlaced (script : List Line) (answered passed : List Bool) (next : List ℕ) (first : ℕ) : Type 0 where
  pub ascending : IsTrue (ascends script)
  pub marked : IsTrue (list_all (λ line. nat_lt line.number (length answered)) script)
  pub passing : length passed ≡ length answered
  pub long : length next ≡ 256
  pub each : (who : ℕ) → who < 256 → slice_index next who ≡ position_or_len (is_next_of (marks_of answered) who) script
  pub start : first ≡ position_or_len (is_unanswered (marks_of answered)) script
