-- Maps from sectors to values: their entries, ascending by sector.
use Rattle.std.specs.Prelude.{ℕ, List, [], ◌∷◌, Option, is_some, if◌then◌else◌, refl}
use Rattle.std.specs.Coded.{Coded, code_by, coded×, coded_list, coded_ℕ}
use Rattle.std.specs.List.Sorted.{IsStrictlySortedBy}
use Rattle.std.specs.Map.{lookup, remove_entry, keys_of}
use Rattle.std.specs.BTreeMap.{insert_entry, is_at}
use Rattle.std.specs.Ordering.{nat_cmp}

-- the value at a sector
abbrev pub value_at : {V : Type 0} → List (ℕ × V) → ℕ → Option V
value_at entries sector = lookup (is_at (nat_cmp sector)) entries

-- the entries with this value at the sector
abbrev pub with_value : {V : Type 0} → List (ℕ × V) → ℕ → V → List (ℕ × V)
with_value entries sector value = insert_entry nat_cmp entries sector value

-- the entries but the one at the sector
abbrev pub without : {V : Type 0} → List (ℕ × V) → ℕ → List (ℕ × V)
without entries sector = remove_entry (is_at (nat_cmp sector)) entries

-- the entries with what f makes of the value at the sector, where there is one
abbrev pub adjusted : {V : Type 0} → (V → V) → List (ℕ × V) → ℕ → List (ℕ × V)
adjusted f [] sector = []
adjusted f (entry ∷ entries) sector =
    if is_at (nat_cmp sector) entry.0 then (entry.0, f entry.1) ∷ entries else entry ∷ adjusted f entries sector

-- the room that a value at the sector takes: none where there is one
abbrev pub room_for : {V : Type 0} → List (ℕ × V) → ℕ → ℕ
room_for entries sector = if is_some (value_at entries sector) then 0 else 1

-- the sectors ascend
abbrev pub Ascend : {V : Type 0} → List (ℕ × V) → Type 0
Ascend entries = IsStrictlySortedBy nat_cmp (keys_of entries)

-- what contracts see of a map that keeps room: its entries, and how many more it takes without memory
pub record Spacious (V : Type 0) : Type 0 where
  pub entries : List (ℕ × V)
  pub spare : ℕ

-- such a map is stored as the pair of its entries and its room
abbrev pub spacious_code : {V : Type 0} → Coded V → Coded (Spacious V)
spacious_code {V} code =
    code_by (List (ℕ × V) × ℕ) (coded× (coded_list (coded× coded_ℕ code)) coded_ℕ) (λ m. (m.entries, m.spare)) (λ p. record { entries = p.0; spare = p.1 }) (λ _. refl)
