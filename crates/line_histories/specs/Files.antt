-- The sectors that hold the bytes of files below their sizes, and what the edits of a finished line make of them.
use Rattle.std.specs.Prelude.{◌≡◌, ◌<◌, ◌⊎◌, ℕ, ◌-◌, ◌*◌, ◌/◌, ◌%◌, false, nat_lt, if◌then◌else◌, Some, List}
use Rattle.std.specs.List.{Contains}
use Rattle.frang_base.specs.declared.limits.TheConstants.{KIND_FILE, SECTOR_BYTES, SMALL_BLOCK_SECTORS, SMALL_SECTORS_MAX}
use Rattle.disk_definitions.specs.Store.{Store, StoredNode}
use Rattle.disk_definitions.specs.Store.Use.{Fresh}
use Rattle.disk_definitions.specs.Naming.{Naming}
use Rattle.disk_definitions.specs.Edits.{Edit, edited_all}
use Rattle.disk_definitions.specs.Edits.Edit.{SetUse, SetLarge}
use Rattle.disk_definitions.specs.Ask.{Sector, BytesAt, LargeAt}
use Rattle.disk_definitions.specs.Plans.{Finish}
use Rattle.disk_definitions.specs.Written.{is_metadata}
use Rattle.plan_laws.specs.Looked.{edited_at}
use Rattle.plan_laws.specs.Plans.{OfEachFinish}
use Rattle.disk_definitions.specs.Lines.{plan_of_line}

-- where a sector of a file lies, counted from its first
abbrev pub file_sector : StoredNode → ℕ → Sector
file_sector node index =
    if nat_lt index SMALL_SECTORS_MAX then BytesAt (node.small (index / SMALL_BLOCK_SECTORS)) (index % SMALL_BLOCK_SECTORS)
    else LargeAt (node.large - 1) (index - SMALL_SECTORS_MAX)

-- the sector holds bytes of a file below its size
pub record HoldsBytes (store : Store) (sector : Sector) : Type 0 where
  pub inode : ℕ
  pub node : StoredNode
  pub is : store.inode inode ≡ Some node
  pub kind : node.kind ≡ KIND_FILE
  pub index : ℕ
  pub below : SECTOR_BYTES * index < node.size
  pub here : file_sector node index ≡ sector

-- one of the edits writes file bytes into the sector
pub record IsWritten (edits : List Edit) (sector : Sector) : Type 0 where
  pub edit : Edit
  pub among : Contains edits edit
  pub bytes : is_metadata edit ≡ false
  pub here : edited_at edit ≡ sector

-- each sector that holds bytes of a file after the edits held such before, or is written
abbrev pub LeavesFilled : Store → Naming → Finish → Type 0
LeavesFilled store naming finish =
    (sector : Sector) → HoldsBytes (edited_all store finish.edits) sector → IsWritten finish.edits sector ⊎ HoldsBytes store sector

abbrev pub LinesLeaveFilled : Type 0
LinesLeaveFilled = OfEachFinish plan_of_line LeavesFilled

-- a block of file bytes that the edits give back is in no use after them, and isn't one that was a directory's
pub record GivesBackFree (store : Store) (naming : Naming) (finish : Finish) : Type 0 where
  pub small : (block : ℕ) → Contains finish.edits (SetUse block Fresh) → (edited_all store finish.edits).use_of block ≡ Fresh
  pub large : (segment : ℕ) → Contains finish.edits (SetLarge segment false) → (edited_all store finish.edits).large_bit segment ≡ false

abbrev pub LinesGiveBackFree : Type 0
LinesGiveBackFree = OfEachFinish plan_of_line GivesBackFree
