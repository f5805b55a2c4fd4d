-- Which line is given to the gate, and which has then passed it.
use Rattle.std.specs.Prelude.{◌≡◌, ◌⊎◌, ◌<◌, ℕ, ◌==◌, not, ◌&&◌, if◌then◌else◌, Option, Some, None, List}
use Rattle.std.specs.List.{slice_get}
use Rattle.std.specs.Option.{option_map}
use Rattle.frang_base.specs.declared.script.Line.{Line}
use Rattle.core_definitions.specs.Cores.{Core, next_of}
use Rattle.core_definitions.specs.LineGuards.{has_passed, is_at_gate, is_server}

-- the number of the line that only the gate keeps from beginning at this server
abbrev pub line_at_gate : Core → ℕ → Option ℕ
line_at_gate c a = if is_at_gate c a then option_map (λ line. line.number) (next_of c a) else None

-- a server's line that only the gate keeps from beginning and that wasn't given yet; `given` has the last line given of each server
abbrev pub to_give_of : Option ℕ → Option ℕ → Option ℕ
to_give_of None line = None
to_give_of (Some last) None = None
to_give_of (Some last) (Some line) = if line == last then None else Some line

abbrev pub line_to_give : Core → List ℕ → ℕ → Option ℕ
line_to_give c given a = to_give_of (slice_get given a) (line_at_gate c a)

-- no line is to be given
abbrev pub NoLineToGive : Core → List ℕ → Type 0
NoLineToGive c given = (a : ℕ) → line_to_give c given a ≡ None

-- this server's line is to be given: the worker's own server's, else the least server's
pub record IsToGive (c : Core) (given : List ℕ) (worker server line : ℕ) : Type 0 where
  pub line_is : line_to_give c given server ≡ Some line
  pub first : (server ≡ worker) ⊎ ((line_to_give c given worker ≡ None) × ((a : ℕ) → a < server → line_to_give c given a ≡ None))

-- the number of a server's next line that hasn't passed the gate yet, while it isn't over
abbrev pub line_to_enter : Core → ℕ → Option Line
line_to_enter c a = if not c.over && is_server a && not (has_passed c (next_of c a)) then next_of c a else None

abbrev pub number_to_enter : Core → ℕ → Option ℕ
number_to_enter c a = option_map (λ line. line.number) (line_to_enter c a)

-- the line was given of this server, and hasn't passed the gate yet
abbrev pub IsToEnter : Core → List ℕ → ℕ → ℕ → Type 0
IsToEnter c given line a = (slice_get given a ≡ Some line) × (number_to_enter c a ≡ Some line)
