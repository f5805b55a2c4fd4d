-- An entry goes by the nodes that it touches, and by the kinds of the others.
use Rattle.std.specs.Prelude.{◌≡◌, ℕ, Bool, true, false, Some}
use Rattle.tree_definitions.specs.declared.history.Entry.{Entry}
use Rattle.tree_definitions.specs.declared.node.Node.{Node}
use Rattle.tree_definitions.specs.declared.node.Node.TheVariants.{Dir, File, Link}
use Rattle.tree_definitions.specs.Tree.{FileTree, node_at}
use Rattle.tree_definitions.specs.Apply.{Answer, Plain, Shows}
use Rattle.tree_definitions.specs.History.{applied, is_answer, tree_after}
use Rattle.tree_definitions.specs.Touched.{touches, changes, is_nospace}
use Rattle.tree_laws.specs.Rooms.{SameRoom}
use Rattle.tree_definitions.specs.WellFormed.{IsWalkable, IsNew}

-- the kind of a node, which an entry of a directory shows
pub data Kind : Type 0 where
  OfDirectory : Kind
  OfFile : Kind
  OfLink : Kind

-- of what kind a node is
abbrev pub kind_of : Node → Kind
kind_of (Dir entries blocks) = OfDirectory
kind_of (File cells links when) = OfFile
kind_of (Link target links) = OfLink

-- where both trees have a node of a birth, it is of one kind
abbrev pub SameKinds : FileTree → FileTree → Type 0
SameKinds one two = (birth : ℕ) (x y : Node) → node_at one birth ≡ Some x → node_at two birth ≡ Some y → kind_of x ≡ kind_of y

-- a birth tells the kind of its node
abbrev pub HasKinds : (ℕ → Kind) → FileTree → Type 0
HasKinds kinds tree = (birth : ℕ) (x : Node) → node_at tree birth ≡ Some x → kind_of x ≡ kinds birth

-- an answer for want of room
abbrev pub wants_room : Answer → Bool
wants_room (Plain r) = is_nospace r
wants_room (Shows cells) = false

-- the trees agree on each node that an entry touches in the first
abbrev pub AgreeWhereTouched : FileTree → FileTree → Entry → Type 0
AgreeWhereTouched one two e = (birth : ℕ) → touches one e birth ≡ true → node_at one birth ≡ node_at two birth

-- an entry does the same in two trees: it is answered alike, touches and changes the same nodes, and makes the same of these; what it
-- doesn't touch stays in each
pub record DoesAlike (one two : FileTree) (e : Entry) : Type 0 where
  pub answer : (applied one e).answer ≡ (applied two e).answer
  pub answered : is_answer two e ≡ true
  pub touched : (birth : ℕ) → touches one e birth ≡ touches two e birth
  pub changed : (birth : ℕ) → changes one e birth ≡ changes two e birth
  pub there : (birth : ℕ) → touches one e birth ≡ true → node_at (tree_after one e) birth ≡ node_at (tree_after two e) birth
  pub stays_in_one : (birth : ℕ) → touches one e birth ≡ false → node_at (tree_after one e) birth ≡ node_at one birth
  pub stays_in_two : (birth : ℕ) → touches one e birth ≡ false → node_at (tree_after two e) birth ≡ node_at two birth

-- an entry that is answered in one tree does the same in another that agrees with it on what it touches, unless there is want of room
abbrev pub GoesByWhatItTouches : Type 0
GoesByWhatItTouches = (one two : FileTree) (e : Entry) → IsWalkable one → IsWalkable two → SameKinds one two → IsNew one e.number.0 → IsNew two e.number.0
    → is_answer one e ≡ true → wants_room (applied one e).answer ≡ false → wants_room (applied two e).answer ≡ false → AgreeWhereTouched one two e → DoesAlike one two e

-- also for want of room, where the trees take the same of the disk
abbrev pub GoesAlikeInSameRoom : Type 0
GoesAlikeInSameRoom = (one two : FileTree) (e : Entry) → IsWalkable one → IsWalkable two → SameKinds one two → IsNew one e.number.0 → IsNew two e.number.0
    → is_answer one e ≡ true → SameRoom one two → AgreeWhereTouched one two e → DoesAlike one two e

-- what an entry doesn't touch stays
abbrev pub UntouchedStays : Type 0
UntouchedStays = (tree : FileTree) (e : Entry) (birth : ℕ) → touches tree e birth ≡ false → node_at (tree_after tree e) birth ≡ node_at tree birth
