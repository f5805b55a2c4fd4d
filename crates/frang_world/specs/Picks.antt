-- The event that a draw picks.
use Rattle.std.specs.Prelude.{◌%◌, ℕ, Option, List, length}
use Rattle.std.specs.List.{slice_get}
use Rattle.core_definitions.specs.Events.{Event}

-- at its place among those listed, which begin anew behind the last
abbrev pub drawn_from : List Event → ℕ → Option Event
drawn_from events draw = slice_get events (draw % length events)
