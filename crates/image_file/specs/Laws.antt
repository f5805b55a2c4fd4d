-- What the laws of images speak of.
use Rattle.std.specs.Prelude.{◌≡◌, Result, Ok, Err}
use Rattle.image_file.specs.declared.fault.ImageFault.{ImageFault}
use Rattle.image_file.specs.declared.fault.ImageFlaw.{ImageFlaw}
use Rattle.image_file.specs.declared.fault.ImageFlaw.TheVariants.{NoRegion, BadSector}
use Rattle.image_file.specs.Images.{Blocks}

-- a flaw of the disk and not of its image: a sector in no region, or one not in its grammar
abbrev pub IsOfDisk : ImageFlaw → Type 0
IsOfDisk NoRegion = Unit {0}
IsOfDisk BadSector = Unit {0}
IsOfDisk _ = ⊥

-- what is read is these sectors, where the disk has no flaw
abbrev pub ReadsBack : Blocks → Result Blocks ImageFault → Type 0
ReadsBack sectors (Ok read) = read ≡ sectors
ReadsBack sectors (Err f) = IsOfDisk f.flaw
