-- Which nodes are reached from the root, as flags.
use Rattle.std.specs.Prelude.{◌≡◌, ◌<◌, ℕ, ◌+◌, Bool, true, false, not, ◌||◌, ◌==◌, List, [], ◌∷◌, length, Option, Some, None}
use Rattle.std.specs.List.{list_any, list_all}
use Rattle.std.specs.Map.{lookup, keys_of, values_of}
use Rattle.std.specs.List.Sorted.{IsStrictlySortedBy}
use Rattle.std.specs.Cmp.Lexicographic.{slice_cmp}
use Rattle.tree_definitions.specs.Entries.{Entries}
use Rattle.std.specs.BTreeMap.{is_at}
use Rattle.std.specs.Ordering.{nat_cmp}
use Rattle.tree_definitions.specs.declared.node.Node.{Node}
use Rattle.tree_definitions.specs.declared.node.Node.TheVariants.{Dir, File, Link}
use Rattle.disk_definitions.specs.Naming.{Nodes}
use Rattle.disk_definitions.specs.Standing.{IsReachedAt}
use Rattle.standing_laws.specs.Below.{all_below}
use Rattle.disk_reading.specs.Marks.{flag_at}

-- the nodes by their births
abbrev pub nodes_at : List (ℕ × Node) → Nodes
nodes_at nodes b = lookup (is_at (nat_cmp b)) nodes

-- one of them is this number
abbrev pub has_value : List ℕ → ℕ → Bool
has_value xs k = list_any (λ v. v == k) xs

-- a node names this birth
abbrev pub names_at : Option Node → ℕ → Bool
names_at None k = false
names_at (Some (Dir entries blocks)) k = has_value (values_of entries) k
names_at (Some (File cells links when)) k = false
names_at (Some (Link target links)) k = false

-- each birth with a flag is reached
abbrev pub AreReached : Nodes → List Bool → Type 0
AreReached at flags = (b : ℕ) → flag_at flags b ≡ true → IsReachedAt at b

-- flags with those of what passes
pub record AreFlaggedOn (more : ℕ → Bool) (before after : List Bool) : Type 0 where
  pub long : length after ≡ length before
  pub each : (k : ℕ) → k < length before → flag_at after k ≡ (flag_at before k || more k)

-- a round over the first i births: what had a flag has it still, what has one is reached, and what the flagged ones name has one
pub record HasSpread (at : Nodes) (before : List Bool) (i : ℕ) (after : List Bool) : Type 0 where
  pub long : length after ≡ length before
  pub reached : AreReached at after
  pub grows : (k : ℕ) → flag_at before k ≡ true → flag_at after k ≡ true
  pub on : (d v : ℕ) → d < i → flag_at before d ≡ true → names_at (at d) v ≡ true → v < length before → flag_at after v ≡ true

-- the names of each directory ascend
abbrev pub NamesAscendIn : Nodes → Type 0
NamesAscendIn at = (d : ℕ) (entries : Entries) (blocks : ℕ) → at d ≡ Some (Dir entries blocks) → IsStrictlySortedBy (slice_cmp nat_cmp) (keys_of entries)

-- all that a node names has flags
abbrev pub names_flagged : List Bool → Option Node → Bool
names_flagged flags None = true
names_flagged flags (Some (Dir entries blocks)) = list_all (flag_at flags) (values_of entries)
names_flagged flags (Some (File cells links when)) = true
names_flagged flags (Some (Link target links)) = true

-- what has a flag names nothing without one
abbrev pub is_closed_at : List Bool → Nodes → ℕ → Bool
is_closed_at flags at d = not (flag_at flags d) || names_flagged flags (at d)

abbrev pub is_closed : List Bool → Nodes → Bool
is_closed flags at = all_below (length flags) (is_closed_at flags at)

-- what nodes name lies below
abbrev pub AreNamedBelow : Nodes → ℕ → Type 0
AreNamedBelow at n = (d v : ℕ) → names_at (at d) v ≡ true → v < n

-- flags that grew, of what is reached, and closed
pub record HasClosed (at : Nodes) (before after : List Bool) : Type 0 where
  pub long : length after ≡ length before
  pub reached : AreReached at after
  pub grows : (k : ℕ) → flag_at before k ≡ true → flag_at after k ≡ true
  pub closed : is_closed after at ≡ true

-- how many have no flag
abbrev pub unflagged : List Bool → ℕ
unflagged [] = 0
unflagged (true ∷ flags) = unflagged flags
unflagged (false ∷ flags) = unflagged flags + 1

-- flags that grew, of what is reached
pub record IsOnTheWay (at : Nodes) (before after : List Bool) : Type 0 where
  pub long : length after ≡ length before
  pub reached : AreReached at after
  pub grows : (k : ℕ) → flag_at before k ≡ true → flag_at after k ≡ true
