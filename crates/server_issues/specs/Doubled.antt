-- Lists of entries in which a sector may stand twice: the last counts.
use Rattle.std.specs.Prelude.{ℕ, List, [], ◌∷◌, Option, Some, None, if◌then◌else◌}
use Rattle.std.specs.BTreeMap.{is_at}
use Rattle.std.specs.Option.{option_or}
use Rattle.std.specs.Ordering.{nat_cmp}

-- the last value at the sector
abbrev pub last_at : {V : Type 0} → List (ℕ × V) → ℕ → Option V
last_at [] sector = None
last_at (entry ∷ entries) sector = option_or (last_at entries sector) (if is_at (nat_cmp sector) entry.0 then Some entry.1 else None)
