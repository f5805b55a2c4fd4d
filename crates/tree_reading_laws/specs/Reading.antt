-- What the host reads of the tree at the end of a run is the tree for which the disk stands.
use Rattle.std.specs.Prelude.{◌≡◌, ℕ, Some, []}
use Rattle.tree_definitions.specs.Tree.{FileTree}
use Rattle.tree_definitions.specs.TreeLines.{tree_lines}
use Rattle.sector_bytes.specs.Blocks.{Block}
use Rattle.sector_bytes.specs.SectorMaps.{value_at}
use Rattle.sector_bytes.specs.Sectors.{Sectors}
use Rattle.disk_definitions.specs.Standing.{StandsFor}
use Rattle.core_definitions.specs.Trees.{TreeRead, needed_sectors, read_lines}

-- each block that was read is the disk's
abbrev pub IsReadOf : Sectors → TreeRead → Type 0
IsReadOf disk read = (sector : ℕ) (block : Block) → value_at read sector ≡ Some block → block ≡ disk sector

-- it reads a disk that stands for a tree, and needs no sector any more: then the lines that it says are those of the tree, in their order
abbrev pub ReadLinesAreTheTrees : Type 0
ReadLinesAreTheTrees =
    (disk : Sectors) (tree : FileTree) (read : TreeRead) → StandsFor disk tree → IsReadOf disk read → needed_sectors tree.segments read ≡ [] →
    read_lines tree.segments read ≡ tree_lines tree
