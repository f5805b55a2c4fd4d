-- A map whose values lie in boxes, as the map of what the boxes hold.
use Rattle.std.specs.Prelude.{ℕ, List, [], ◌∷◌}

-- each entry with what its box holds
abbrev pub opened : {B V : Type 0} → List (ℕ × B) → (B → V) → List (ℕ × V)
opened [] held = []
opened (entry ∷ entries) held = (entry.0, held entry.1) ∷ opened entries held
