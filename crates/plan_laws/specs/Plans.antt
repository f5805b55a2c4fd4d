-- What the edits of a finished plan move, and under which of its locks.
use Rattle.std.specs.Prelude.{◌≡◌, ℕ, ◌⊎◌, true, Some, List}
use Rattle.std.specs.List.{Contains}
use Rattle.frang_base.specs.declared.lock.LockId.{LockId}
use Rattle.frang_base.specs.declared.op.Op.{Op}
use Rattle.tree_definitions.specs.Tree.{FileTree}
use Rattle.disk_definitions.specs.Store.{Store}
use Rattle.disk_definitions.specs.Naming.{Naming}
use Rattle.disk_definitions.specs.Edits.{Edit, edited_all}
use Rattle.disk_definitions.specs.Ask.{Ask, Sector, number_of, run}
use Rattle.disk_definitions.specs.Plans.{Hand, Plan, Finish}
use Rattle.disk_definitions.specs.Plans.Plan.{Finishes}
use Rattle.disk_definitions.specs.PlanOf.{plan_of}
use Rattle.disk_definitions.specs.Meets.{IsOfTree, IsHandOf, is_directory_use}
use Rattle.disk_definitions.specs.Written.{byte_writes, freed_sectors}
use Rattle.plan_laws.specs.Locks.{IsSole}
use Rattle.disk_definitions.specs.Covers.{cover_of}
use Rattle.plan_laws.specs.Moves.{AreTidy, CoversFollow}
use Rattle.disk_definitions.specs.Moves.{moved_by}

-- a program that plans an operation, with the birth of its new node and a time
abbrev pub Planner : Type 0
Planner = (hand : Hand) (birth when : ℕ) → Op → Ask Plan

-- so it is of whatever the program finishes with over the disk of a tree, with segments of it at hand
abbrev pub OfEachFinish : Planner → (Store → Naming → Finish → Type 0) → Type 0
OfEachFinish planner Law =
    (operation : Op) (hand : Hand) (store : Store) (tree : FileTree) (naming : Naming) (birth when : ℕ) (finish : Finish) → IsOfTree store tree naming →
    IsHandOf hand store tree.segments → run (planner hand birth when operation) store ≡ Finishes finish → Law store naming finish

-- the edits are tidy
abbrev pub MovesTidily : Store → Naming → Finish → Type 0
MovesTidily store naming finish = AreTidy store (edited_all store finish.edits) finish.edits

abbrev pub PlansMove : Type 0
PlansMove = OfEachFinish plan_of MovesTidily

-- whatever tree the disk stands for after them, by whatever naming: each sector is under the lock that the edits say, or under its own
abbrev pub LeadsCovers : Store → Naming → Finish → Type 0
LeadsCovers store naming finish = (tree : FileTree) (after : Naming) → IsOfTree (edited_all store finish.edits) tree after → CoversFollow naming after finish.edits

abbrev pub CoversFollowPlans : Type 0
CoversFollowPlans = OfEachFinish plan_of LeadsCovers

-- a sector that moves was under a lock that is held alone, and so is the lock that it comes under
abbrev pub OwnsMoves : Store → Naming → Finish → Type 0
OwnsMoves store naming finish =
    (sector : Sector) (new : LockId) → moved_by finish.edits sector ≡ Some new → IsSole finish.locks (cover_of naming sector) × IsSole finish.locks new

abbrev pub MovesAreOwned : Type 0
MovesAreOwned = OfEachFinish plan_of OwnsMoves

-- a block that is or was a directory's stays one
abbrev pub KeepsDirectories : Store → Naming → Finish → Type 0
KeepsDirectories store naming finish = (block : ℕ) → is_directory_use (store.use_of block) ≡ true → is_directory_use ((edited_all store finish.edits).use_of block) ≡ true

abbrev pub DirectoriesStay : Type 0
DirectoriesStay = OfEachFinish plan_of KeepsDirectories

-- the edits write file bytes into the sector of this number, or give it back
abbrev pub Fills : List Edit → ℕ → Type 0
Fills edits number = ((bytes : List ℕ) × Contains (byte_writes edits) (number, bytes)) ⊎ Contains (freed_sectors edits) number

-- and such a sector was under a lock that is held alone
abbrev pub OwnsBytes : Store → Naming → Finish → Type 0
OwnsBytes store naming finish =
    (number : ℕ) → Fills finish.edits number → (sector : Sector) × (number_of sector ≡ number) × IsSole finish.locks (cover_of naming sector)

abbrev pub BytesAreOwned : Type 0
BytesAreOwned = OfEachFinish plan_of OwnsBytes
