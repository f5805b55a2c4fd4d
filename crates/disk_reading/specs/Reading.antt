-- What reading a disk gives.
use Rattle.std.specs.Prelude.{Option, Some, None}
use Rattle.tree_definitions.specs.Tree.{FileTree}
use Rattle.sector_bytes.specs.Sectors.{Sectors}
use Rattle.disk_definitions.specs.Standing.{HasNoDoubt, StandsByInodes, StandsFor}

-- no tree for which the disk stands, or one whose births are the numbers of the inodes, and no cell of which is doubtful
abbrev pub IsReading : Sectors → Option FileTree → Type 0
IsReading sectors None = (tree : FileTree) → StandsFor sectors tree → ⊥
IsReading sectors (Some tree) = StandsByInodes sectors tree × HasNoDoubt tree
