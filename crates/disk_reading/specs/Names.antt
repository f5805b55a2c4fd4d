-- How often inodes are named, and which are reached.
use Rattle.std.specs.Prelude.{◌≡◌, ◌<◌, ℕ, ◌==◌, ◌+◌, ◌-◌, ◌^◌, Bool, List, length, min, sum_by, slice_index}
use Rattle.std.specs.Map.{lookup, values_of}
use Rattle.std.specs.BTreeMap.{is_at}
use Rattle.std.specs.Ordering.{nat_cmp}
use Rattle.tree_definitions.specs.Apply.{links_of}
use Rattle.tree_definitions.specs.declared.node.Node.{Node}
use Rattle.tree_definitions.specs.WellFormed.{one_at, names_in}

-- counts of 64 bits, which stop at their greatest
abbrev pub counted : ℕ → ℕ
counted n = min n (2 ^ 64 - 1)

-- the node of a birth has as many names as links
abbrev pub is_linked : List (ℕ × Node) → ℕ → Bool
is_linked nodes i = sum_by (names_in i) (values_of nodes) + one_at 0 i == links_of (lookup (is_at (nat_cmp i)) nodes)

-- these counts with so many more of each
pub record AreCountedOn (more : ℕ → ℕ) (before after : List ℕ) : Type 0 where
  pub long : length after ≡ length before
  pub each : (i : ℕ) → i < length before → slice_index after i ≡ counted (slice_index before i + more i)
