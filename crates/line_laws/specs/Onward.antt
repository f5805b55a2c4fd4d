-- What a finished line leaves: a disk over which the next line may be planned.
use Rattle.std.specs.Prelude.{◌≡◌, ◌<◌, ◌^◌, ◌+◌, ◌*◌, ℕ, Bool, length}
use Rattle.frang_base.specs.declared.limits.TheConstants.{RUN_VERSIONS_MAX, SECTOR_BYTES}
use Rattle.frang_base.specs.declared.op.Op.{Op}
use Rattle.tree_definitions.specs.Perform.{perform}
use Rattle.tree_definitions.specs.Tree.{FileTree}
use Rattle.tree_definitions.specs.WellFormed.{IsNew}
use Rattle.sector_bytes.specs.Sectors.{Sectors}
use Rattle.disk_definitions.specs.Standing.{StandsFor, HasVersionsUpTo}
use Rattle.disk_definitions.specs.Store.{store_of}
use Rattle.disk_definitions.specs.Held.{Segments}
use Rattle.disk_definitions.specs.Allowed.{IsAllowed}
use Rattle.disk_definitions.specs.Ask.{meet}
use Rattle.disk_definitions.specs.Ask.Met.{Has}
use Rattle.disk_definitions.specs.Meets.{directory_blocks_in}
use Rattle.disk_definitions.specs.OnDisk.{AreOfDisk, StandsBelow}
use Rattle.disk_definitions.specs.Plans.{Finish}
use Rattle.disk_definitions.specs.Plans.Plan.{Finishes}
use Rattle.disk_definitions.specs.Written.{Cached, at_hand, hand_of, sectors_at_hand, changes_of, byte_writes, laid_over}
use Rattle.disk_definitions.specs.Lines.{plan_of_line}

-- the disk with the changes, made of the sectors at hand, and the bytes of a finished line
abbrev pub left_by : Cached → Segments → Sectors → Finish → Sectors
left_by cached held sectors finish = laid_over sectors (changes_of (sectors_at_hand cached held) finish.edits) (byte_writes finish.edits)

-- after a disk that stands for a tree with versions below their bound: this one stands for that tree by the same parameters, no version is above the one
-- after the old ones, and each sector is whole
pub record IsOnward (sectors : Sectors) (tree : FileTree) (below : StandsBelow sectors tree) (after : Sectors) (to : FileTree) : Type 0 where
  pub stands : StandsFor after to
  pub param : stands.param ≡ below.stands.param
  pub versions : HasVersionsUpTo (below.most + 1) stands.param.segments after
  pub whole : (sector : ℕ) → length (after sector) ≡ SECTOR_BYTES

-- so it is of what a finished line leaves, and of the tree after it; `ever_directories` is the number of the disk's small blocks that are or were a directory's
abbrev pub FinishedLinesGoOn : Type 0
FinishedLinesGoOn =
    (operation : Op) (cached : Cached) (held : Segments) (all : Bool) (sectors : Sectors) (tree : FileTree) (birth when ever_directories : ℕ) (finish : Finish) →
    IsAllowed operation → AreOfDisk cached held all tree.segments sectors → (below : StandsBelow sectors tree) →
    IsNew tree birth → birth < 2 ^ 64 → when < 2 ^ 64 → ever_directories ≡ directory_blocks_in (store_of tree.segments sectors) tree.segments →
    meet (plan_of_line (hand_of cached held all) birth when operation) (at_hand cached held) ≡ Has (Finishes finish) →
    IsOnward sectors tree below (left_by cached held sectors finish) (perform tree operation birth when ever_directories).tree

-- and such a disk stands below the bound again, while a version is left
abbrev pub OnwardStandsBelow : Type 0
OnwardStandsBelow =
    (sectors : Sectors) (tree : FileTree) (below : StandsBelow sectors tree) (after : Sectors) (to : FileTree) → IsOnward sectors tree below after to →
    below.most + 1 < RUN_VERSIONS_MAX * below.stands.param.run → StandsBelow after to
