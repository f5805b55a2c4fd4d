-- Keys that are kept in order as those of a map to nothing, and what each edit makes of them.
use Rattle.std.specs.Prelude.{◌≡◌, ℕ, List, [], ◌∷◌, Option, Some, None}
use Rattle.std.specs.Map.{lookup, remove_entry}
use Rattle.std.specs.BTreeMap.{insert_entry, is_at}
use Rattle.std.specs.declared.cmp.Ordering.{Ordering}

-- the keys with one more, where there is one
abbrev pub with_key : {K : Type 0} → (K → K → Ordering) → Option K → List (K × Unit {0}) → List (K × Unit {0})
with_key cmp None keys = keys
with_key cmp (Some key) keys = insert_entry cmp keys key tt

-- the keys but one, where there is one
abbrev pub without_key : {K : Type 0} → (K → K → Ordering) → Option K → List (K × Unit {0}) → List (K × Unit {0})
without_key cmp None keys = keys
without_key cmp (Some key) keys = remove_entry (is_at (cmp key)) keys

-- the key, where there is one, isn't among these
abbrev pub IsApart : {K : Type 0} → (K → K → Ordering) → Option K → List (K × Unit {0}) → Type 0
IsApart cmp None keys = Unit {0}
IsApart cmp (Some key) keys = lookup (is_at (cmp key)) keys ≡ None

-- the keys of entries that have one, in order
abbrev pub keyed : {K S : Type 0} → (K → K → Ordering) → (ℕ × S → Option K) → List (ℕ × S) → List (K × Unit {0})
keyed cmp key [] = []
keyed cmp key (entry ∷ entries) = with_key cmp (key entry) (keyed cmp key entries)

-- the key of a value at a sector, where there is one
abbrev pub key_at : {K S : Type 0} → (ℕ × S → Option K) → ℕ → Option S → Option K
key_at key sector None = None
key_at key sector (Some value) = key (sector, value)
