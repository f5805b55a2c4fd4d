-- Which entries have a record: one without changes nothing, and where the log kept the records of its server since the last mount, a
-- recovery removes nothing.
use Rattle.std.specs.Prelude.{◌≡◌, ◌<◌, ℕ, true, false, ◌==◌, List, ◌∷◌, ◌++◌}
use Rattle.std.specs.List.{list_any}
use Rattle.tree_definitions.specs.declared.history.Entry.{Entry}
use Rattle.tree_definitions.specs.Tree.{FileTree}
use Rattle.tree_definitions.specs.History.{Settled, Stays, tree_after, after_all}
use Rattle.tree_definitions.specs.Touched.{changes, shape_of}
use Rattle.tree_definitions.specs.Removal.{mounts, is_recorded, left}
use Rattle.tree_definitions.specs.WellFormed.{BirthsAscend, IsNew}

-- an entry without a record changes no node: at most it reads bytes that were in doubt
abbrev pub UnrecordedChangesNothing : Type 0
UnrecordedChangesNothing = (tree : FileTree) (e : Entry) (birth : ℕ) → BirthsAscend tree → IsNew tree e.number.0 → is_recorded tree e ≡ false → changes tree e birth ≡ false

-- and it leaves the shape
abbrev pub UnrecordedLeavesTheShape : Type 0
UnrecordedLeavesTheShape = (tree : FileTree) (e : Entry) → BirthsAscend tree → IsNew tree e.number.0 → is_recorded tree e ≡ false → shape_of (tree_after tree e) ≡ shape_of tree

-- the server's log kept the record of each of its entries that has one, since its last mount
abbrev pub AllAreKept : ℕ → ℕ → FileTree → List Settled → Type 0
AllAreKept server keeps tree list = (before : List Settled) (e : Entry) (later : List Settled) → list ≡ before ++ Stays e ∷ later → e.server.0 == server ≡ true
    → list_any (mounts server) later ≡ false → keeps < e.number.0 → is_recorded (after_all tree before) e ≡ false

-- then its recovery removes nothing
abbrev pub NothingIsRemoved : Type 0
NothingIsRemoved = (server keeps : ℕ) (tree : FileTree) (list : List Settled) → AllAreKept server keeps tree list → left server keeps tree list ≡ list
