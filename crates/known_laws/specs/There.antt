-- The nodes that an entry touches and changes: those that are there, and the one that it makes.
use Rattle.std.specs.Prelude.{◌≡◌, ◌⊎◌, ℕ, true, is_some}
use Rattle.tree_definitions.specs.declared.history.Entry.{Entry}
use Rattle.tree_definitions.specs.Touched.{changes, touches}
use Rattle.tree_definitions.specs.Tree.{FileTree, node_at}
use Rattle.tree_definitions.specs.WellFormed.{IsNew, IsWellFormed}

-- a node that an entry touches is there, or the entry changes it
abbrev pub TouchedAreThere : Type 0
TouchedAreThere = (tree : FileTree) (e : Entry) (birth : ℕ) → touches tree e birth ≡ true → (is_some (node_at tree birth) ≡ true) ⊎ (changes tree e birth ≡ true)

-- one that an entry changes is there, or has the entry's number, where no node has this before it
abbrev pub ChangedAreThereOrNew : Type 0
ChangedAreThereOrNew =
    (tree : FileTree) (e : Entry) (birth : ℕ) → IsWellFormed tree → IsNew tree e.number.0 → changes tree e birth ≡ true →
    (is_some (node_at tree birth) ≡ true) ⊎ (birth ≡ e.number.0)
