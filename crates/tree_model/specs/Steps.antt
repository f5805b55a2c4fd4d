-- What the code's steps of a settled history mean, and what they do to the doubt of a sector.
use Rattle.std.specs.Prelude.{ℕ, Bool, IsTrue, Option, Some, None, List}
use Rattle.tree_definitions.specs.declared.history.Entry.{Entry}
use Rattle.tree_definitions.specs.Tree.{FileTree}
use Rattle.tree_definitions.specs.History.{Settled, Stays as EntryStays, InDoubt as CellsInDoubt}
use Rattle.tree_definitions.specs.Removal.{doubtful_after}
use Rattle.tree_model.specs.Replayed.{is_within}
use Rattle.tree_model.specs.declared.steps.What.{What}
use Rattle.tree_model.specs.declared.steps.What.TheVariants.{Stays, InDoubt}

abbrev pub settled_of : What → Settled
settled_of (Stays entry) = EntryStays entry.now
settled_of (InDoubt runs) = CellsInDoubt runs.items

-- an entry's operation has a target that is in the grammar of scripts, where it has one
abbrev pub IsWithin : What → Type 0
IsWithin (Stays entry) = IsTrue (is_within entry.now.op)
IsWithin (InDoubt runs) = Unit {0}

-- the entry of a step, where it is one
abbrev pub entry_of : Settled → Option Entry
entry_of (EntryStays e) = Some e
entry_of (CellsInDoubt runs) = None

-- whether a sector is in doubt after a step more
abbrev pub doubtful_by : ℕ → ℕ → ℕ → Bool → FileTree → Option Entry → List Settled → Bool
doubtful_by server birth sector before tree (Some e) rest = doubtful_after server birth sector before tree e rest
doubtful_by server birth sector before tree None rest = before
