-- The lines of the tree that was read, by what its nodes show.
use Rattle.std.specs.Prelude.{◌≡◌, ◌<◌, ℕ, ◌==◌, Bool, true, false, if◌then◌else◌, Option, Some, None, List, [], ◌∷◌, drop}
use Rattle.std.specs.Option.{option_map}
use Rattle.frang_base.specs.declared.limits.TheConstants.{KIND_FILE}
use Rattle.frang_base.specs.declared.said.Said.{Said}
use Rattle.tree_lines.specs.Shown.{Shown}
use Rattle.tree_lines.specs.Waiting.{Waiting, next_birth}
use Rattle.disk_definitions.specs.Store.{Store, StoredNode}
use Rattle.host_tree.specs.declared.tree.Next.{Next}
use Rattle.host_tree.specs.declared.tree.Next.TheVariants.{Unmade, Line, End}
use Rattle.host_tree.specs.Listing.{listed}

-- what a node in use shows
abbrev pub shown_of : Store → StoredNode → Shown
shown_of store node = record { kind = node.kind; size = node.size; links = if node.kind == KIND_FILE then node.links else 0; entries = listed store node }

abbrev pub shown_in : Store → ℕ → Option Shown
shown_in store inode = option_map (shown_of store) (store.inode inode)

-- the node whose line comes next, none where no lines are left
abbrev pub IsNext : Store → Waiting → Option StoredNode → Type 0
IsNext store left None = next_birth left.nodes ≡ None
IsNext store left (Some node) = (inode : ℕ) × (next_birth left.nodes ≡ Some inode) × (store.inode inode ≡ Some node)

-- the first of the lines, and those that are left behind it
abbrev pub Gives : List Said → List Said → Option Said → Type 0
Gives old new None = (old ≡ []) × (new ≡ [])
Gives old new (Some line) = old ≡ line ∷ new

-- the next line is made, or known to be none
abbrev pub is_made : Next → Bool
is_made Unmade = false
is_made (Line line) = true
is_made End = true

abbrev pub made : Option Said → Next
made None = End
made (Some line) = Line line

-- these lines are still to be said; those behind the next one are left, or all where it isn't made
abbrev pub AreToSay : List Said → Next → List Said → ℕ → Type 0
AreToSay all Unmade left shown = all ≡ left
AreToSay all (Line line) left shown = (all ≡ line ∷ left) × (shown < 4294967295)
AreToSay all End left shown = all ≡ []

-- no line is made before all is read; then those are to be said that aren't yet
abbrev pub IsPlace : List ℕ → List Said → Next → List Said → ℕ → Type 0
IsPlace [] all next left shown = AreToSay (drop shown all) next left shown
IsPlace (sector ∷ sectors) all next left shown = (shown ≡ 0) × (next ≡ Unmade)
