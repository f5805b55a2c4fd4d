-- Two states are the same where their numbers are.
use Rattle.std.proofs.Common.{◌≡◌, ◌==◌, refl}
use denote.Enum.Bare.{sameb}
use Rattle.bitmap_block.specs.States.{state_number}
use Rattle.bitmap_block.specs.contracts.state.BlockState.{the_type}
use Rattle.bitmap_block.specs.declared.state.BlockState.{BlockState}
use Rattle.bitmap_block.specs.declared.state.BlockState.TheVariants.{Unused, FileBytes, FormerDirectory, Directory}

pub same_number : (a b : BlockState) → (state_number a == state_number b) ≡ sameb the_type a b
same_number Unused Unused = refl
same_number Unused FileBytes = refl
same_number Unused FormerDirectory = refl
same_number Unused Directory = refl
same_number FileBytes Unused = refl
same_number FileBytes FileBytes = refl
same_number FileBytes FormerDirectory = refl
same_number FileBytes Directory = refl
same_number FormerDirectory Unused = refl
same_number FormerDirectory FileBytes = refl
same_number FormerDirectory FormerDirectory = refl
same_number FormerDirectory Directory = refl
same_number Directory Unused = refl
same_number Directory FileBytes = refl
same_number Directory FormerDirectory = refl
same_number Directory Directory = refl
