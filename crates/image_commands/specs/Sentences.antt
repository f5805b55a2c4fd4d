-- What is wrong with an image, in words.
use Rattle.std.specs.Prelude.{ℕ, ◌==◌, nat_le, if◌then◌else◌, Option, Some, None, List, ◌++◌, codes}
use Rattle.std.specs.Fmt.{decimal}
use Rattle.frang_base.specs.declared.limits.TheConstants.{SEGMENTS_MAX}
use Rattle.disk_definitions.specs.declared.region.Region.{Region}
use Rattle.disk_definitions.specs.declared.region.Region.TheVariants as region
use Rattle.disk_definitions.specs.Regions.{region_of}
use Rattle.image_file.specs.declared.fault.ImageFlaw.{ImageFlaw}
use Rattle.image_file.specs.declared.fault.ImageFlaw.TheVariants.{Cut, OtherMark, OutOfOrder, NoRegion, OfZeros, BytesAfter, BadSector}
use Rattle.image_file.specs.Images.{kind_of}
use Rattle.image_commands.specs.declared.sentences.TheConstants.{FIRST_ENTRY}

-- the flaw whose kind has this number
abbrev pub flaw_with : ℕ → Option ImageFlaw
flaw_with kind =
    if kind == kind_of Cut then Some Cut
    else (if kind == kind_of OtherMark then Some OtherMark
    else (if kind == kind_of OutOfOrder then Some OutOfOrder
    else (if kind == kind_of NoRegion then Some NoRegion
    else (if kind == kind_of OfZeros then Some OfZeros
    else (if kind == kind_of BytesAfter then Some BytesAfter
    else (if kind == kind_of BadSector then Some BadSector
    else None))))))

-- what a sector is of a disk
abbrev pub part_in : Option Region → List ℕ
part_in (Some (region.Log server slot)) = codes "log slot"
part_in (Some (region.Segment k)) = codes "bitmap"
part_in (Some (region.Inode i)) = codes "inode"
part_in _ = codes "block"

abbrev pub part_words : ℕ → List ℕ
part_words sector = part_in (region_of SEGMENTS_MAX sector)

abbrev pub bad_part_words : List ℕ → ℕ → List ℕ
bad_part_words part sector = codes "the " ++ (part ++ (codes " of sector " ++ (decimal sector ++ codes " isn't one")))

-- a sector that isn't in its grammar; the first one has to be that of the parameters
abbrev pub bad_sector_words : ℕ → ℕ → List ℕ
bad_sector_words at sector =
    if nat_le at FIRST_ENTRY then codes "the first sector isn't that of the parameters, or has none that a run may follow"
    else bad_part_words (part_words sector) sector

abbrev pub flaw_words : ImageFlaw → ℕ → ℕ → List ℕ
flaw_words Cut at sector = codes "the bytes end inside the header or an entry"
flaw_words OtherMark at sector = codes "the first 8 bytes aren't those of an image"
flaw_words OutOfOrder at sector = codes "sector " ++ decimal sector ++ codes " isn't greater than the one before"
flaw_words NoRegion at sector = codes "sector " ++ decimal sector ++ codes " lies in no region"
flaw_words OfZeros at sector = codes "sector " ++ decimal sector ++ codes " is zeros"
flaw_words BytesAfter at sector = codes "there are bytes after the last entry"
flaw_words BadSector at sector = bad_sector_words at sector

-- what is wrong, by the kind of the fault, its place and the number there
abbrev pub fault_words : Option ImageFlaw → ℕ → ℕ → List ℕ
fault_words (Some flaw) at sector = flaw_words flaw at sector ++ (codes ", at byte " ++ decimal at)
fault_words None at sector = codes "its replayed disk stands for no tree"

abbrev pub fault_sentence : ℕ → ℕ → ℕ → List ℕ
fault_sentence kind at sector = fault_words (flaw_with kind) at sector
