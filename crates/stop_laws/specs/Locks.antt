-- Operations of lines use the locks of what their entries touch.
use Rattle.std.specs.Prelude.{◌≡◌, ◌<◌, ℕ, true, is_some, List, ◌∷◌}
use Rattle.frang_base.specs.Locks.{has_lock}
use Rattle.frang_base.specs.declared.lock.LockId.TheVariants.{Node, Segment}
use Rattle.tree_definitions.specs.declared.history.Entry.{Entry}
use Rattle.tree_definitions.specs.Touched.{changes, changes_room, shape_of, touches}
use Rattle.tree_definitions.specs.Tree.{FileTree, node_at}
use Rattle.sector_bytes.specs.Blocks.{Block}
use Rattle.sector_world.specs.Histories.{Commit}
use Rattle.sector_world.specs.Plans.{Legal}
use Rattle.sector_world.specs.Trees.{Distinct}
use Rattle.disk_definitions.specs.Naming.{Naming}
use Rattle.disk_definitions.specs.Meets.{IsOfTree}
use Rattle.line_histories.specs.LinePlans.{sector_plan}
use Rattle.line_histories.specs.Following.{store_after}
use Rattle.line_histories.specs.Standing.{StandsNumbered}
use Rattle.line_histories.specs.Trees.{AreTimes, MayNumber}
use Rattle.byte_trees.specs.Deeds.{Deed, Does, items, tree_after}
use Rattle.stop_laws.specs.Paired.{AreLines}

-- by whatever naming of what the sectors with versions say, an operation uses the lock of each node that is there and that its entry touches
abbrev pub UsesItsLocks : (segments : ℕ) → (ℕ → Block) → FileTree → Commit → Entry → List Deed → Type 0
UsesItsLocks segments opening first_tree c e older =
    (birth : ℕ) (naming : Naming) → IsOfTree (store_after segments opening (items older)) (shape_of (tree_after first_tree older)) naming →
    is_some (node_at (shape_of (tree_after first_tree older)) birth) ≡ true → touches (tree_after first_tree older) e birth ≡ true → has_lock (Node (naming.inode birth)) c.uses ≡ true

-- so does each of a legal history of lines with new numbers
abbrev pub LinesUseTheirLocks : Type 0
LinesUseTheirLocks =
    (segments : ℕ) (when : ℕ → ℕ) (opening : ℕ → Block) (first_tree : FileTree) (numbers : List ℕ) (c : Commit) (e : Entry) (older : List Deed) → AreTimes when →
    StandsNumbered segments opening (record { tree = first_tree; numbers = numbers }) → Legal (sector_plan segments when) opening (items (Does c e ∷ older)) →
    Distinct (MayNumber numbers) first_tree (items (Does c e ∷ older)) → AreLines when (Does c e ∷ older) → UsesItsLocks segments opening first_tree c e older

-- and has alone that of each node that is there and that its entry changes
abbrev pub HasAloneWhatItChanges : (segments : ℕ) → (ℕ → Block) → FileTree → Commit → Entry → List Deed → Type 0
HasAloneWhatItChanges segments opening first_tree c e older =
    (birth : ℕ) (naming : Naming) → IsOfTree (store_after segments opening (items older)) (shape_of (tree_after first_tree older)) naming →
    is_some (node_at (shape_of (tree_after first_tree older)) birth) ≡ true → changes (tree_after first_tree older) e birth ≡ true → has_lock (Node (naming.inode birth)) c.alone ≡ true

abbrev pub LinesHaveAloneWhatTheyChange : Type 0
LinesHaveAloneWhatTheyChange =
    (segments : ℕ) (when : ℕ → ℕ) (opening : ℕ → Block) (first_tree : FileTree) (numbers : List ℕ) (c : Commit) (e : Entry) (older : List Deed) → AreTimes when →
    StandsNumbered segments opening (record { tree = first_tree; numbers = numbers }) → Legal (sector_plan segments when) opening (items (Does c e ∷ older)) →
    Distinct (MayNumber numbers) first_tree (items (Does c e ∷ older)) → AreLines when (Does c e ∷ older) → HasAloneWhatItChanges segments opening first_tree c e older

-- and where it makes or frees a node or changes a node's number of blocks, the lock of a segment of the disk
abbrev pub TakesRoomAlone : (segments : ℕ) → (ℕ → Block) → FileTree → Commit → Entry → List Deed → Type 0
TakesRoomAlone segments opening first_tree c e older =
    (naming : Naming) → IsOfTree (store_after segments opening (items older)) (shape_of (tree_after first_tree older)) naming →
    changes_room (tree_after first_tree older) e ≡ true → (segment : ℕ) × (segment < segments) × (has_lock (Segment segment) c.alone ≡ true)

abbrev pub LinesTakeRoomAlone : Type 0
LinesTakeRoomAlone =
    (segments : ℕ) (when : ℕ → ℕ) (opening : ℕ → Block) (first_tree : FileTree) (numbers : List ℕ) (c : Commit) (e : Entry) (older : List Deed) → AreTimes when →
    StandsNumbered segments opening (record { tree = first_tree; numbers = numbers }) → Legal (sector_plan segments when) opening (items (Does c e ∷ older)) →
    Distinct (MayNumber numbers) first_tree (items (Does c e ∷ older)) → AreLines when (Does c e ∷ older) → TakesRoomAlone segments opening first_tree c e older
