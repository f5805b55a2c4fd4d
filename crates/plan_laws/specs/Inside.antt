-- Where a plan looks, and what decides what it comes to.
use Rattle.std.specs.Prelude.{◌≡◌, ◌<◌, ◌*◌, ℕ, Option, Some, List, [], ◌∷◌}
use Rattle.frang_base.specs.declared.limits.TheConstants.{SEGMENT_BLOCKS, SEGMENT_INODES}
use Rattle.frang_base.specs.declared.op.Op.{Op}
use Rattle.tree_definitions.specs.Tree.{FileTree}
use Rattle.disk_definitions.specs.Store.{Store, StoredNode, StoredEntry}
use Rattle.disk_definitions.specs.Naming.{Naming}
use Rattle.disk_definitions.specs.Ask.{Sector, InodeAt, DirectoryAt, SegmentAt, BytesAt, LargeAt, Ask, AtHand, seven, part_of, run, looks, meet}
use Rattle.disk_definitions.specs.Plans.{Hand}
use Rattle.disk_definitions.specs.PlanOf.{plan_of}
use Rattle.disk_definitions.specs.Meets.{IsOfTree, IsHandOf}
use Rattle.disk_definitions.specs.Missing.{first_missing, unless_missing}

-- an inode or a directory's sector that a disk of so many segments has
abbrev pub IsInside : ℕ → Sector → Type 0
IsInside segments (InodeAt inode) = inode < SEGMENT_INODES * segments
IsInside segments (DirectoryAt block part) = block < SEGMENT_BLOCKS * segments
IsInside segments (SegmentAt segment) = Unit {0}
IsInside segments (BytesAt block part) = Unit {0}
IsInside segments (LargeAt large part) = Unit {0}

abbrev pub AreInside : ℕ → List Sector → Type 0
AreInside segments [] = Unit {0}
AreInside segments (sector ∷ sectors) = IsInside segments sector × AreInside segments sectors

-- so are all sectors that the plan of an operation looks at, over the disk of a tree
abbrev pub PlansLookInside : Type 0
PlansLookInside =
    (operation : Op) (hand : Hand) (store : Store) (tree : FileTree) (naming : Naming) (birth when : ℕ) → IsOfTree store tree naming →
    IsHandOf hand store tree.segments →
    AreInside tree.segments (looks (plan_of hand birth when operation) store)

-- what is at hand of a sector is the disk's; of a segment nothing is seen
abbrev pub AgreesAt : AtHand → Store → Sector → Type 0
AgreesAt known store (InodeAt inode) = (said : Option StoredNode) → known.inode inode ≡ Some said → said ≡ store.inode inode
AgreesAt known store (DirectoryAt block part) = (said : ℕ → Option StoredEntry) → known.directory block part ≡ Some said → said ≡ seven store.place block part
AgreesAt known store (SegmentAt segment) = Unit {0}
AgreesAt known store (BytesAt block part) = (said : ℕ → ℕ) → known.bytes block part ≡ Some said → said ≡ part_of store.byte block part
AgreesAt known store (LargeAt large part) = (said : ℕ → ℕ) → known.large large part ≡ Some said → said ≡ part_of store.large_byte large part

abbrev pub AgreesWhereAll : AtHand → Store → List Sector → Type 0
AgreesWhereAll known store [] = Unit {0}
AgreesWhereAll known store (sector ∷ sectors) = AgreesAt known store sector × AgreesWhereAll known store sectors

-- a computation has its value over the disk, or needs the first missing sector of those that it looks at, where what is at hand of these is the disk's
abbrev pub MeetsWhereItLooks : Type 0 → Type 0
MeetsWhereItLooks A =
    (program : Ask A) (known : AtHand) (store : Store) → AgreesWhereAll known store (looks program store) →
    meet program known ≡ unless_missing (first_missing known (looks program store)) (run program store)
