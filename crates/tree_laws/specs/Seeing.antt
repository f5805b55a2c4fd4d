-- Which entries are seen: those whose changes a later entry of another server touches, or whose room it was refused for.
use Rattle.std.specs.Prelude.{◌≡◌, ◌⊎◌, ℕ, true, false, ◌==◌, List, ◌∷◌, ◌++◌}
use Rattle.tree_definitions.specs.declared.history.Entry.{Entry}
use Rattle.tree_definitions.specs.Tree.{FileTree, node_at}
use Rattle.tree_definitions.specs.History.{Settled, Stays, applied, after, after_all}
use Rattle.tree_definitions.specs.Touched.{touches, changes, is_nospace, other_room, is_seen}

-- a later entry of another server touches, at the tree of its place, a node that the entry changed
pub record SeenByATouch (tree : FileTree) (e : Entry) (rest : List Settled) : Type 0 where
  pub before : List Settled
  pub other : Entry
  pub later : List Settled
  pub splits : rest ≡ before ++ Stays other ∷ later
  pub foreign : other.server.0 == e.server.0 ≡ false
  pub birth : ℕ
  pub changed : changes tree e birth ≡ true
  pub touched : touches (after_all (after tree (Stays e)) before) other birth ≡ true

-- the entry makes or frees a node, or changes a node's number of blocks, and a later entry of another server is answered for want of room
pub record SeenByARefusal (tree : FileTree) (e : Entry) (rest : List Settled) : Type 0 where
  pub before : List Settled
  pub other : Entry
  pub later : List Settled
  pub splits : rest ≡ before ++ Stays other ∷ later
  pub foreign : other.server.0 == e.server.0 ≡ false
  pub birth : ℕ
  pub changed : changes tree e birth ≡ true
  pub takes : other_room (node_at tree birth) (node_at (applied tree e).tree birth) ≡ true
  pub refused : is_nospace other.reply ≡ true

-- either
abbrev pub HasAWitness : FileTree → Entry → List Settled → Type 0
HasAWitness tree e rest = SeenByATouch tree e rest ⊎ SeenByARefusal tree e rest

-- an entry that is seen has a witness
abbrev pub SeenHasAWitness : Type 0
SeenHasAWitness = (tree : FileTree) (e : Entry) (rest : List Settled) → is_seen tree e rest ≡ true → HasAWitness tree e rest

-- one that has a witness is seen
abbrev pub AWitnessHasSeen : Type 0
AWitnessHasSeen = (tree : FileTree) (e : Entry) (rest : List Settled) → HasAWitness tree e rest → is_seen tree e rest ≡ true
