-- What the nodes of a tree show, and which is next.
use Rattle.std.specs.Prelude.{◌≡◌, ℕ, Option, Some, None, List, [], length}
use Rattle.std.specs.BTreeMap.{is_at}
use Rattle.std.specs.Map.{lookup}
use Rattle.std.specs.Option.{option_map}
use Rattle.std.specs.Ordering.{nat_cmp}
use Rattle.frang_base.specs.declared.limits.TheConstants.{KIND_DIRECTORY, KIND_FILE, KIND_LINK}
use Rattle.tree_definitions.specs.declared.node.Node.{Node}
use Rattle.tree_definitions.specs.declared.node.Node.TheVariants.{Dir, File, Link}
use Rattle.tree_lines.specs.Shown.{Shown}
use Rattle.tree_lines.specs.Waiting.{Waiting, next_birth}

-- what a node shows
abbrev pub shown_by : Node → Shown
shown_by (File cells links when) = record { kind = KIND_FILE; size = length cells; links = links; entries = [] }
shown_by (Link target links) = record { kind = KIND_LINK; size = length target; links = 0; entries = [] }
shown_by (Dir entries blocks) = record { kind = KIND_DIRECTORY; size = length entries; links = 0; entries = entries }

-- the node of a birth
abbrev pub node_in : List (ℕ × Node) → ℕ → Option Node
node_in nodes birth = lookup (is_at (nat_cmp birth)) nodes

abbrev pub shown_in : List (ℕ × Node) → ℕ → Option Shown
shown_in nodes birth = option_map shown_by (node_in nodes birth)

-- the next node whose lines are left, none where no lines are
abbrev pub IsNext : List (ℕ × Node) → Waiting → Option Node → Type 0
IsNext nodes w None = next_birth w.nodes ≡ None
IsNext nodes w (Some node) = (birth : ℕ) × (next_birth w.nodes ≡ Some birth) × (node_in nodes birth ≡ Some node)
