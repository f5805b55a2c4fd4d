-- The states of a small block as numbers.
use Rattle.std.specs.Prelude.{ℕ}
use Rattle.bitmap_block.specs.declared.state.BlockState.{BlockState}
use Rattle.bitmap_block.specs.declared.state.BlockState.TheVariants.{Unused, FileBytes, FormerDirectory, Directory}

-- its two bits
abbrev pub state_number : BlockState → ℕ
state_number Unused = 0
state_number FileBytes = 1
state_number FormerDirectory = 2
state_number Directory = 3
