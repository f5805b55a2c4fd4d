-- What a run begins with: its script, its opening and the disk behind the opening's puts; and which these may be.
use Rattle.std.specs.Prelude.{◌≡◌, ◌<◌, ℕ, ◌-◌, ◌*◌, max, true, is_some, List, length}
use Rattle.frang_base.specs.declared.limits.TheConstants.{LOGS, LOG_SECTORS, RUN_LINES_END, RUN_VERSIONS_MAX, SECTOR_BYTES}
use Rattle.frang_base.specs.declared.script.Line.{Line}
use Rattle.tree_definitions.specs.History.{Opening}
use Rattle.tree_definitions.specs.Tree.{node_at}
use Rattle.script_definitions.specs.Sayable.{IsSureTree}
use Rattle.sector_bytes.specs.Bytes.{zeros}
use Rattle.sector_bytes.specs.Sectors.{Sectors}
use Rattle.disk_definitions.specs.declared.region.Region.TheVariants as region
use Rattle.disk_definitions.specs.Meets.{directory_blocks_in}
use Rattle.disk_definitions.specs.Regions.{sector_of}
use Rattle.disk_definitions.specs.Standing.{HasVersionsUpTo, StandsFor}
use Rattle.disk_definitions.specs.Store.{store_of}
use Rattle.headline_definitions.specs.AllLogs.{AllLogs}

-- the logs are said by how they are read
pub record Beginning : Type 0 where
  pub script : List Line
  pub opening : Opening
  pub disk : Sectors
  pub logs : AllLogs

-- the versions that a disk may have as a run of this number begins: those of earlier runs, and 1 of a fresh disk
abbrev pub versions_before : ℕ → ℕ
versions_before run = max 1 (RUN_VERSIONS_MAX * (run - 1))

-- the disk is one that a run with this opening begins on
pub record IsOpening (opening : Opening) (disk : Sectors) : Type 0 where
  -- it stands for the tree, and has the number of the run
  pub stands : StandsFor disk opening.tree
  pub run : stands.param.run ≡ opening.run
  -- the births are below all numbers of operations, and no byte is in doubt
  pub births : (b : ℕ) → is_some (node_at opening.tree b) ≡ true → b < RUN_LINES_END
  pub sure : IsSureTree opening.tree
  -- the number of small blocks that are or were a directory's
  pub dir_blocks : opening.dir_blocks ≡ directory_blocks_in (store_of opening.tree.segments disk) opening.tree.segments
  -- the versions of the run are left
  pub versions : HasVersionsUpTo (versions_before opening.run) opening.tree.segments disk
  -- the logs are zero, and sectors have their size
  pub logs : (server slot : ℕ) → server < LOGS → slot < LOG_SECTORS → disk (sector_of (region.Log server slot)) ≡ zeros SECTOR_BYTES
  pub whole : (sector : ℕ) → length (disk sector) ≡ SECTOR_BYTES
