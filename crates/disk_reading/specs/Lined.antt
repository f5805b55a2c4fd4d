-- The lines of inodes in use.
use Rattle.std.specs.Prelude.{◌≡◌, ℕ, ◌*◌, ◌==◌, true, if◌then◌else◌, Option, Some, None, List, [], ◌∷◌}
use Rattle.std.specs.Option.{option_map}
use Rattle.frang_base.specs.declared.limits.TheConstants.{BLOCK_ENTRIES, KIND_DIRECTORY, KIND_FILE}
use Rattle.frang_base.specs.declared.said.Said.{Said}
use Rattle.tree_definitions.specs.Entries.{Entries}
use Rattle.tree_definitions.specs.Tree.{FileTree}
use Rattle.tree_definitions.specs.TreeLines.{tree_lines}
use Rattle.tree_lines.specs.Shown.{Shown}
use Rattle.tree_lines.specs.Waiting.{Waiting, next_birth}
use Rattle.sector_bytes.specs.Sectors.{Sectors}
use Rattle.disk_definitions.specs.Store.{Store, StoredNode}
use Rattle.disk_definitions.specs.Standing.{StandsFor}
use Rattle.standing_laws.specs.ReadTree.{entries_to, place_at}
use Rattle.standing_laws.specs.Soundness.{node_agrees}

-- what each inode holds agrees with it
abbrev pub NodesAgree : Store → Type 0
NodesAgree s = (i : ℕ) → node_agrees s (s.inode i) ≡ true

-- the entries of an inode in use, where that is a directory
abbrev pub listed : Store → StoredNode → Entries
listed s x = if x.kind == KIND_DIRECTORY then entries_to (place_at s x) (BLOCK_ENTRIES * x.blocks) else []

-- what an inode in use shows
abbrev pub shown_by : Store → StoredNode → Shown
shown_by s x = record { kind = x.kind; size = x.size; links = if x.kind == KIND_FILE then x.links else 0; entries = listed s x }

abbrev pub shown_in : Store → ℕ → Option Shown
shown_in s birth = option_map (shown_by s) (s.inode birth)

-- the inode of the next node whose lines are left, none where no lines are
abbrev pub IsNext : Store → Waiting → Option StoredNode → Type 0
IsNext s w None = next_birth w.nodes ≡ None
IsNext s w (Some x) = (birth : ℕ) × (next_birth w.nodes ≡ Some birth) × (s.inode birth ≡ Some x)

-- the first of the lines, and those that are left behind it
abbrev pub Gives : List Said → List Said → Option Said → Type 0
Gives old new None = (old ≡ []) × (new ≡ [])
Gives old new (Some line) = old ≡ line ∷ new

-- the lines of a tree for which the disk stands
pub record AreLinesOf (sectors : Sectors) (lines : List Said) : Type 0 where
  pub tree : FileTree
  pub stands : StandsFor sectors tree
  pub is : lines ≡ tree_lines tree
