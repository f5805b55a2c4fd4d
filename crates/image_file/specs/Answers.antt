-- What readers answer: what the definition of images gives, unless memory is short.
use Rattle.std.specs.Prelude.{◌≡◌, Result, Ok, Err}
use Rattle.image_file.specs.declared.fault.ImageFault.{ImageFault}
use Rattle.image_file.specs.Images.{Blocks, kind_of}
use Rattle.image_file.specs.declared.refusal.ImageRead.{ImageRead}
use Rattle.image_file.specs.declared.refusal.ImageRead.TheVariants as read
use Rattle.image_file.specs.declared.refusal.Refusal.{Refusal}
use Rattle.image_file.specs.declared.refusal.Refusal.TheVariants as refusal

-- the sectors, or the fault
abbrev pub Gives : Result Blocks ImageFault → Result Blocks Refusal → Type 0
Gives given (Ok sectors) = given ≡ Ok sectors
Gives given (Err refusal.NoMemory) = Unit {0}
Gives given (Err (refusal.Bad f)) = given ≡ Err f

-- the sectors, or the place and the kind of the fault
abbrev pub GivesImage : Result Blocks ImageFault → Result Blocks ImageRead → Type 0
GivesImage given (Ok sectors) = given ≡ Ok sectors
GivesImage given (Err read.NoMemory) = Unit {0}
GivesImage given (Err (read.Bad at kind)) = (f : ImageFault) × (given ≡ Err f) × (at ≡ f.at) × (kind ≡ kind_of f.flaw)
