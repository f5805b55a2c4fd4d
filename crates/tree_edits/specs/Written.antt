-- The cells that are written.
use Rattle.std.specs.Prelude.{ℕ, List, length, map, replicate}
use Rattle.tree_definitions.specs.declared.cells.Cell.{Cell}
use Rattle.tree_definitions.specs.declared.cells.Cell.TheVariants.{Byte}
use Rattle.tree_edits.specs.declared.edits.Bytes.{Bytes}
use Rattle.tree_edits.specs.declared.edits.Bytes.TheVariants.{Text, Same}

abbrev pub cells_of : Bytes → List Cell
cells_of (Text bytes) = map Byte bytes.now
cells_of (Same len byte) = replicate len (Byte byte)

-- how many they are
abbrev pub size_of : Bytes → ℕ
size_of (Text bytes) = length bytes.now
size_of (Same len byte) = len
