-- What a run begins from is an opening: on a fresh disk, and on that of an image whose sectors are of bytes.
use Rattle.std.specs.Prelude.{ℕ, IsTrue, List}
use Rattle.std.specs.List.{All}
use Rattle.std.specs.Map.{values_of}
use Rattle.frang_base.specs.declared.script.Line.{Line}
use Rattle.tree_definitions.specs.History.{fresh_opening}
use Rattle.tree_definitions.specs.Tree.{FileTree}
use Rattle.sector_bytes.specs.Blocks.{Block}
use Rattle.sector_bytes.specs.Sectors.{Sectors}
use Rattle.disk_definitions.specs.declared.param.Param.{Param}
use Rattle.disk_definitions.specs.FreshDisk.{fresh_param}
use Rattle.disk_definitions.specs.Params.{param_fits}
use Rattle.core_definitions.specs.Opening.{IsStart, MayOpen, Start, fresh_start, image_start}
use Rattle.headline_definitions.specs.Beginning.{IsOpening}
use Rattle.opening_laws.specs.Bytes.{AreBytes}

-- a fresh disk is one of an opening, whatever the script
abbrev pub FreshStartsAreOpenings : Type 0
FreshStartsAreOpenings = (script : List Line) (segments : ℕ) → IsTrue (param_fits (fresh_param segments)) → IsOpening (fresh_opening segments) (fresh_start script segments).disk

-- its sectors are of bytes
abbrev pub FreshStartsAreBytes : Type 0
FreshStartsAreBytes = (script : List Line) (segments sector : ℕ) → AreBytes ((fresh_start script segments).disk sector)

-- so are those of an image's disk, where its blocks are
abbrev pub ImageStartsAreBytes : Type 0
ImageStartsAreBytes =
    (script : List Line) (image : Sectors) (p : Param) (tree : FileTree) (disk : List (ℕ × Block)) → MayOpen image p tree disk → All AreBytes (values_of disk) →
    (sector : ℕ) → AreBytes ((image_start script p tree disk).disk sector)

-- whatever a run begins from is an opening, where its sectors are of bytes
abbrev pub StartsAreOpenings : Type 0
StartsAreOpenings = (start : Start) → IsStart start → ((sector : ℕ) → AreBytes (start.disk sector)) → IsOpening start.opening start.disk
