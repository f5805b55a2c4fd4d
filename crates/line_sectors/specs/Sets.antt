-- Which sectors of file bytes lines set, and what they claim.
use Rattle.std.specs.Prelude.{◌≡◌, ◌<◌, ◌^◌, ℕ, Bool, true, false, List, Some}
use Rattle.std.specs.List.{Contains}
use Rattle.frang_base.specs.declared.op.Op.{Op}
use Rattle.sector_bytes.specs.SectorMaps.{value_at}
use Rattle.sector_bytes.specs.Sectors.{Sectors}
use Rattle.tree_definitions.specs.Tree.{FileTree}
use Rattle.tree_definitions.specs.WellFormed.{IsNew}
use Rattle.disk_definitions.specs.Allowed.{IsAllowed}
use Rattle.disk_definitions.specs.Ask.{Has, meet, run}
use Rattle.disk_definitions.specs.Edits.{Edit}
use Rattle.disk_definitions.specs.Held.{Segments}
use Rattle.disk_definitions.specs.Lines.{plan_of_line}
use Rattle.disk_definitions.specs.Meets.{IsHandOf, IsOfTree}
use Rattle.disk_definitions.specs.Naming.{Naming}
use Rattle.disk_definitions.specs.OnDisk.{AreOfDisk}
use Rattle.disk_definitions.specs.Plans.{Finish, Hand}
use Rattle.disk_definitions.specs.Plans.Plan.{Finishes}
use Rattle.disk_definitions.specs.Store.{Store}
use Rattle.disk_definitions.specs.Written.{Cached, at_hand, edit_sector, hand_of, is_metadata}
use Rattle.plan_laws.specs.FilesPlanned.{HasFiles}
use Rattle.line_histories.specs.Done.{IsWholeDisk}
use Rattle.line_histories.specs.LinePlans.{claims_of}

-- over the disk of a tree to which its number is new, two edits of a finished line that set one sector of file bytes are one
abbrev pub LinesSetSectorsOnce : Type 0
LinesSetSectorsOnce =
    (operation : Op) (hand : Hand) (store : Store) (tree : FileTree) (naming : Naming) (birth when ever_directories : ℕ) (finish : Finish) → IsOfTree store tree naming →
    IsHandOf hand store tree.segments → IsNew tree birth → HasFiles store tree ever_directories → run (plan_of_line hand birth when operation) store ≡ Finishes finish → (edit other : Edit) →
    Contains finish.edits edit → Contains finish.edits other → is_metadata edit ≡ false → is_metadata other ≡ false → edit_sector edit ≡ edit_sector other → edit ≡ other

-- so it is of one that is finished over sectors and bitmaps of a whole disk
abbrev pub DoneLinesSetSectorsOnce : Type 0
DoneLinesSetSectorsOnce =
    (operation : Op) (cached : Cached) (held : Segments) (all : Bool) (segments birth when : ℕ) (disk : Sectors) (tree : FileTree) (naming : Naming) (finish : Finish) →
    AreOfDisk cached held all segments disk → IsWholeDisk segments disk tree naming → IsNew tree birth → meet (plan_of_line (hand_of cached held all) birth when operation) (at_hand cached held) ≡ Has (Finishes finish) →
    (edit other : Edit) → Contains finish.edits edit → Contains finish.edits other → is_metadata edit ≡ false → is_metadata other ≡ false → edit_sector edit ≡ edit_sector other → edit ≡ other

-- what is claimed by a line that is finished so is at hand
abbrev pub DoneLinesHaveWhatTheyClaim : Type 0
DoneLinesHaveWhatTheyClaim =
    (operation : Op) (cached : Cached) (held : Segments) (all : Bool) (segments birth when : ℕ) (disk : Sectors) (tree : FileTree) (naming : Naming) (finish : Finish) →
    AreOfDisk cached held all segments disk → IsWholeDisk segments disk tree naming → IsAllowed operation → birth < 2 ^ 64 → when < 2 ^ 64 →
    meet (plan_of_line (hand_of cached held all) birth when operation) (at_hand cached held) ≡ Has (Finishes finish) →
    (number : ℕ) → claims_of segments held finish.edits number ≡ true → (block : List ℕ) × (value_at cached number ≡ Some block)
