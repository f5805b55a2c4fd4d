-- What a run leaves is opened again: its disk is saved, the image is read, its logs are replayed, and the next run begins.
use Rattle.std.specs.Prelude.{◌≡◌, ℕ, true, IsTrue, Some, is_some, List, length}
use Rattle.std.specs.List.{All}
use Rattle.std.specs.Map.{values_of}
use Rattle.frang_base.specs.declared.limits.TheConstants.{SECTOR_BYTES}
use Rattle.frang_base.specs.declared.script.Line.{Line}
use Rattle.tree_definitions.specs.Tree.{FileTree}
use Rattle.sector_bytes.specs.Blocks.{Block}
use Rattle.sector_bytes.specs.SectorMaps.{Ascend}
use Rattle.sector_bytes.specs.Sectors.{SameSectors, Sectors, sectors_of}
use Rattle.disk_definitions.specs.declared.param.Param.{Param}
use Rattle.disk_definitions.specs.Params.{param_fits, param_in}
use Rattle.disk_definitions.specs.Regions.{region_of}
use Rattle.disk_definitions.specs.Replay.{replayed}
use Rattle.disk_definitions.specs.Standing.{StandsFor}
use Rattle.standing_laws.specs.ReadTree.{read_tree}
use Rattle.standing_laws.specs.Renaming.{IsRenaming}
use Rattle.core_definitions.specs.Opening.{IsStart, MayOpen, image_start, next_param}
use Rattle.headline_definitions.specs.Beginning.{IsOpening}
use Rattle.opening_laws.specs.Bytes.{AreBytes}

-- an image has what was left in each sector of a region; another run may follow that of the parameters; and these blocks, ascending and whole, are the image's sectors once its logs are
-- replayed
pub record IsReadAgain (left : Sectors) (param : Param) (image : Sectors) (disk : List (ℕ × Block)) : Type 0 where
  pub parameters : param_in (left 0) ≡ Some param
  pub run : IsTrue (param_fits (next_param param))
  pub saved : (sector : ℕ) → is_some (region_of param.segments sector) ≡ true → image sector ≡ left sector
  pub ascending : Ascend disk
  pub blocks : All (λ block. length block ≡ SECTOR_BYTES) (values_of disk)
  pub replays : SameSectors (sectors_of disk) (replayed image)

-- the tree that is read off them
abbrev pub tree_again : Param → List (ℕ × Block) → FileTree
tree_again param disk = read_tree param.segments (sectors_of disk)

-- it is the tree that was left but for the births of its nodes, and the image may be opened with it
pub record GoesOn (tree : FileTree) (param : Param) (image : Sectors) (disk : List (ℕ × Block)) : Type 0 where
  pub to : ℕ → ℕ
  pub back : ℕ → ℕ
  pub same : IsRenaming to back tree (tree_again param disk)
  pub may_open : MayOpen image param (tree_again param disk) disk

-- so it is wherever what was left stands for a tree once its logs are replayed
abbrev pub RunsGoOn : Type 0
RunsGoOn =
    (left : Sectors) (tree : FileTree) (param : Param) (image : Sectors) (disk : List (ℕ × Block)) → StandsFor (replayed left) tree → IsReadAgain left param image disk →
    GoesOn tree param image disk

-- then any script's next run begins from an opening
abbrev pub NextRunsBegin : Type 0
NextRunsBegin =
    (left : Sectors) (tree : FileTree) (param : Param) (image : Sectors) (disk : List (ℕ × Block)) (script : List Line) → StandsFor (replayed left) tree → IsReadAgain left param image disk →
    All AreBytes (values_of disk) →
    let next = image_start script param (tree_again param disk) disk in
    IsStart next × IsOpening next.opening next.disk
