-- What told a line of a sector before it looks there.
use Rattle.std.specs.Prelude.{◌≡◌, ℕ, ◌⊎◌, true, false, Some, List, [], ◌∷◌}
use Rattle.std.specs.List.{Contains}
use Rattle.frang_base.specs.declared.op.Op.{Op}
use Rattle.tree_definitions.specs.Tree.{FileTree}
use Rattle.disk_definitions.specs.Naming.{Naming}
use Rattle.disk_definitions.specs.Store.{Store, StoredNode}
use Rattle.disk_definitions.specs.Held.{Segments, inode_in}
use Rattle.disk_definitions.specs.Ask.{Sector, InodeAt, DirectoryAt, SegmentAt, BytesAt, LargeAt, looks}
use Rattle.disk_definitions.specs.Meets.{IsOfTree, IsHandOf}
use Rattle.disk_definitions.specs.Plans.{Hand}
use Rattle.plan_laws.specs.Moves.{HasSmall, HasLarge}
use Rattle.disk_definitions.specs.Lines.{plan_of_line}
use Rattle.disk_definitions.specs.CoversAtHand.{is_marked_unused}

-- the inode is in use, or a held segment has it free
abbrev pub IsInodeTold : Store → Segments → ℕ → Type 0
IsInodeTold store held inode = ((node : StoredNode) × (store.inode inode ≡ Some node)) ⊎ (inode_in held inode ≡ Some false)

-- the small block is one of a node whose inode is among these sectors, or a held segment has it free
abbrev pub IsSmallTold : Store → Segments → List Sector → ℕ → Type 0
IsSmallTold store held before block = ((inode : ℕ) × Contains before (InodeAt inode) × HasSmall store inode block) ⊎ (is_marked_unused held block ≡ true)

-- the large block is one of a node whose inode is among these sectors
abbrev pub IsLargeTold : Store → List Sector → ℕ → Type 0
IsLargeTold store before segment = (inode : ℕ) × Contains before (InodeAt inode) × HasLarge store inode segment

-- so it is of the sector, by what it holds, where these were looked at before
abbrev pub IsTold : Store → Segments → List Sector → Sector → Type 0
IsTold store held before (InodeAt inode) = IsInodeTold store held inode
IsTold store held before (DirectoryAt block part) = IsSmallTold store held before block
IsTold store held before (SegmentAt segment) = Unit {0}
IsTold store held before (BytesAt block part) = IsSmallTold store held before block
IsTold store held before (LargeAt segment part) = IsLargeTold store before segment

-- so it is of each of the sectors, one after another
abbrev pub AreTold : Store → Segments → List Sector → List Sector → Type 0
AreTold store held before [] = Unit {0}
AreTold store held before (sector ∷ sectors) = IsTold store held before sector × AreTold store held (sector ∷ before) sectors

-- so it is of all sectors at which a line looks over the disk of a tree
abbrev pub LinesAreTold : Type 0
LinesAreTold =
    (operation : Op) (hand : Hand) (store : Store) (tree : FileTree) (naming : Naming) (birth when : ℕ) → IsOfTree store tree naming →
    IsHandOf hand store tree.segments → AreTold store hand.held [] (looks (plan_of_line hand birth when operation) store)
