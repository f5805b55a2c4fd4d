-- What contracts see of an ordered map, and what its calls make of its entries.
use Rattle.std.specs.Prelude.{ℕ, List, Option, is_some, if◌then◌else◌, find, refl}
use Rattle.std.specs.Coded.{Coded, code_by, coded×, coded_list, coded_ℕ}
use Rattle.std.specs.Map.{lookup}
use Rattle.std.specs.BTreeMap.{is_at}
use Rattle.std.specs.Ordering.{is_le}
use Rattle.std.specs.declared.cmp.Ordering.{Ordering}

-- the entries, ascending by key, and how many more go in without memory
pub record Ordered (K V : Type 0) : Type 0 where
  pub entries : List (K × V)
  pub spare : ℕ

-- such a map is stored as the pair of its entries and its room
abbrev pub ordered_code : {K V : Type 0} → Coded K → Coded V → Coded (Ordered K V)
ordered_code {K} {V} keys values =
    code_by (List (K × V) × ℕ) (coded× (coded_list (coded× keys values)) coded_ℕ) (λ m. (m.entries, m.spare)) (λ p. record { entries = p.0; spare = p.1 }) (λ _. refl)

-- the room that a value at the key takes: none where there is one
abbrev pub room_for : {K V : Type 0} → (K → K → Ordering) → List (K × V) → K → ℕ
room_for cmp entries key = if is_some (lookup (is_at (cmp key)) entries) then 0 else 1

-- the first entry whose key isn't below this one
abbrev pub first_from : {K V : Type 0} → (K → K → Ordering) → List (K × V) → K → Option (K × V)
first_from cmp entries key = find (λ entry. is_le (cmp key entry.0)) entries
