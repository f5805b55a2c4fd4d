-- Where a sector of a disk lies, by its number, and where edits move it.
use Rattle.std.specs.Prelude.{ℕ, Option, Some, None, List}
use Rattle.std.specs.Option.{option_and_then}
use Rattle.frang_base.specs.declared.lock.LockId.{LockId}
use Rattle.disk_definitions.specs.declared.region.Region.{Region}
use Rattle.disk_definitions.specs.declared.region.Region.TheVariants as region
use Rattle.disk_definitions.specs.Regions.{region_of}
use Rattle.disk_definitions.specs.Edits.{Edit}
use Rattle.disk_definitions.specs.Ask.{Sector, InodeAt, DirectoryAt, SegmentAt, LargeAt}
use Rattle.disk_definitions.specs.Moves.{moved_by}

-- the sector of an inode, of a segment or of a block that lies in a region; one of a small block as a directory's
abbrev pub sector_in : Option Region → Option Sector
sector_in (Some (region.Segment segment)) = Some (SegmentAt segment)
sector_in (Some (region.Inode inode)) = Some (InodeAt inode)
sector_in (Some (region.Small block part)) = Some (DirectoryAt block part)
sector_in (Some (region.Large large part)) = Some (LargeAt large part)
sector_in _ = None

-- the sector with this number, on a disk of so many segments
abbrev pub sector_at : ℕ → ℕ → Option Sector
sector_at segments number = sector_in (region_of segments number)

-- the lock under which edits move the sector with this number, where they move it
abbrev pub moves_of : ℕ → List Edit → ℕ → Option LockId
moves_of segments edits number = option_and_then (moved_by edits) (sector_at segments number)
