-- What the disk is behind the opening, over which a run begins.
use Rattle.std.specs.Prelude.{◌≡◌, ℕ, true, List}
use Rattle.frang_base.specs.declared.limits.TheConstants.{SEGMENTS_MAX}
use Rattle.frang_outside.specs.Disk.{written}
use Rattle.tree_definitions.specs.Tree.{FileTree}
use Rattle.sector_bytes.specs.Blocks.{Block, zero_block}
use Rattle.sector_bytes.specs.Sectors.{SameSectors, Sectors}
use Rattle.disk_definitions.specs.declared.param.Param.{Param}
use Rattle.disk_definitions.specs.declared.region.Region.TheVariants as region
use Rattle.disk_definitions.specs.FreshDisk.{fresh_disk}
use Rattle.disk_definitions.specs.Params.{param_bytes}
use Rattle.disk_definitions.specs.Regions.{region_of, sector_of}
use Rattle.disk_definitions.specs.Replay.{is_log, replayed}
use Rattle.core_definitions.specs.Opening.{IsStart, MayOpen, Start, disk_put, fresh_puts, image_puts, next_param}

-- behind its puts a fresh disk is the fresh disk
abbrev pub FreshDisksArePut : Type 0
FreshDisksArePut = (segments : ℕ) → SameSectors (disk_put (fresh_puts segments)) (fresh_disk segments)

-- behind the puts of an image the disk is the replayed one, but for the next parameters
abbrev pub ImagesArePut : Type 0
ImagesArePut =
    (image : Sectors) (p : Param) (tree : FileTree) (disk : List (ℕ × Block)) → MayOpen image p tree disk →
    SameSectors (disk_put (image_puts p disk)) (written (replayed image) (sector_of region.Param) (param_bytes (next_param p)))

-- each sector of a log reads as zero
abbrev pub LogsReadAsZero : Type 0
LogsReadAsZero = (start : Start) → IsStart start → (sector : ℕ) → is_log (region_of SEGMENTS_MAX sector) ≡ true → start.disk sector ≡ zero_block
