-- The texts of paths from the root down, and their names.
use Rattle.std.specs.Prelude.{ℕ, Bool, true, ◌&&◌, ◌==◌, Option, Some, None, List, [], ◌∷◌}
use Rattle.std.specs.List.{list_all, slice_split}
use Rattle.frang_base.specs.Name.{is_name}

-- nothing, or `/` before each of some names: the text of a path from the root, whose own is empty
abbrev pub is_below : List ℕ → Bool
is_below [] = true
is_below (b ∷ text) = b == 47 && list_all is_name (slice_split (λ d. d == 47) text)

-- a name, or none
abbrev pub is_named : Option (List ℕ) → Bool
is_named None = true
is_named (Some name) = is_name name

abbrev pub is_entry_named : List ℕ × ℕ → Bool
is_entry_named e = is_name e.0
