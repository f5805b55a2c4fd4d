-- Answers without cells in doubt.
use Rattle.std.specs.Prelude.{Bool, true, false}
use Rattle.std.specs.List.{list_all}
use Rattle.tree_definitions.specs.declared.cells.Cell.{Cell}
use Rattle.tree_definitions.specs.declared.cells.Cell.TheVariants.{Byte, Doubtful}
use Rattle.tree_definitions.specs.Apply.{Answer, Plain, Shows}

abbrev pub is_sure : Cell → Bool
is_sure (Byte b) = true
is_sure Doubtful = false

-- no cell that an answer shows is in doubt
abbrev pub shows_sure : Answer → Bool
shows_sure (Shows cells) = list_all is_sure cells
shows_sure (Plain r) = true
