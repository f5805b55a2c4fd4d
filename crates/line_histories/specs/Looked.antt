-- At which bytes of files a line looks.
use Rattle.std.specs.Prelude.{ℕ}
use Rattle.std.specs.List.{Contains}
use Rattle.frang_base.specs.declared.op.Op.{Op}
use Rattle.disk_definitions.specs.Store.{Store}
use Rattle.disk_definitions.specs.Ask.{Sector, InodeAt, DirectoryAt, SegmentAt, BytesAt, LargeAt, looks}
use Rattle.disk_definitions.specs.Plans.{Hand}
use Rattle.disk_definitions.specs.Lines.{plan_of_line}
use Rattle.line_histories.specs.Files.{HoldsBytes}

-- a sector of bytes holds bytes of a file below its size
abbrev pub IsInFile : Store → Sector → Type 0
IsInFile store (InodeAt inode) = Unit {0}
IsInFile store (DirectoryAt block part) = Unit {0}
IsInFile store (SegmentAt segment) = Unit {0}
IsInFile store (BytesAt block part) = HoldsBytes store (BytesAt block part)
IsInFile store (LargeAt large part) = HoldsBytes store (LargeAt large part)

-- so does each at which a line looks, over any disk
abbrev pub LinesLookAtBytesOfFiles : Type 0
LinesLookAtBytesOfFiles =
    (operation : Op) (hand : Hand) (store : Store) (birth when : ℕ) (sector : Sector) → Contains (looks (plan_of_line hand birth when operation) store) sector → IsInFile store sector
