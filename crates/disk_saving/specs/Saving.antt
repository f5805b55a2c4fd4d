-- What saving the disk of an outside leaves in the outside and in the files.
use Rattle.std.specs.Prelude.{◌≡◌, ◌≢◌, ◌⊎◌, ◌<◌, ℕ, Option, None, Result, Ok, Err, List, if◌then◌else◌, is_some, true}
use Rattle.std.specs.List.Sorted.{IsStrictlySortedBy}
use Rattle.std.specs.Map.{keys_of}
use Rattle.std.specs.Ordering.{nat_cmp}
use Rattle.frang_outside.specs.Files.{State as FilesState, Holds, IsFile, OthersStay}
use Rattle.frang_outside.specs.Outside.{State as Outside, Follows, NoneRose, Rose}
use Rattle.sector_bytes.specs.Blocks.{Block, zero_block}
use Rattle.sector_bytes.specs.Sectors.{SameSectors, Sectors, sectors_of}
use Rattle.disk_definitions.specs.Regions.{region_of, sector_of}
use Rattle.image_file.specs.Images.{Blocks, image_text}
use Rattle.disk_saving.specs.Places.{place_at}
use Rattle.disk_saving.specs.declared.fault.SaveFault.{SaveFault}
use Rattle.disk_saving.specs.declared.fault.SaveFault.TheVariants.{Failed, WriteFailed, NoMemory}

-- the host, for which the sectors are got
abbrev pub host : ℕ
host = 255

-- no sector and no act changed; counts may have risen
pub record Unmoved (old new : Outside) : Type 0 where
  pub sectors : SameSectors new.sectors old.sectors
  pub acts : new.acts ≡ old.acts
  pub follows : Follows old new

-- the sectors of the regions of a disk of so many segments, and else zeros
abbrev pub on_disk : ℕ → Sectors → Sectors
on_disk segments sectors sector = if is_some (region_of segments sector) then sectors sector else zero_block

-- a disk of these blocks, ascending, has the sectors of the regions
pub record IsRead (segments : ℕ) (sectors : Sectors) (disk : Blocks) : Type 0 where
  pub ascending : IsStrictlySortedBy nat_cmp (keys_of disk)
  pub same : SameSectors (sectors_of disk) (on_disk segments sectors)

-- the file, where files are told, is the image of these sectors
abbrev pub IsSaved : Option Holds → List ℕ → ℕ → Sectors → Type 0
IsSaved holds save segments sectors = (disk : Blocks) × IsStrictlySortedBy nat_cmp (keys_of disk) × SameSectors (sectors_of disk) (on_disk segments sectors) × IsFile holds save (λ bytes. bytes ≡ image_text disk)

-- by the result: the file is written, and no count of the outside rose; a get of the host failed, whose count rose, at a sector of a region, and no file changed; the write failed, and its count rose; or
-- memory was wanting. No file changes but this one
abbrev pub Saves : FilesState → FilesState → Outside → Outside → ℕ → List ℕ → Result (Unit {0}) SaveFault → Type 0
Saves files files_after out after segments save (Ok done) = OthersStay files.holds files_after.holds save × IsSaved files_after.holds save segments out.sectors × NoneRose out after
Saves files files_after out after segments save (Err (Failed sector)) = (files_after ≡ files) × Rose (out.faults host) (after.faults host) × (is_some (region_of segments sector.0) ≡ true)
Saves files files_after out after segments save (Err WriteFailed) = OthersStay files.holds files_after.holds save × Rose files.write_faults files_after.write_faults
Saves files files_after out after segments save (Err NoMemory) = OthersStay files.holds files_after.holds save

-- ---- the steps

-- the sector has this block, or that is zeros and the sector is as it was; all others are as they were
pub record Keeps (old new : Sectors) (sector : ℕ) (block : Block) : Type 0 where
  pub own : (new sector ≡ block) ⊎ ((block ≡ zero_block) × (new sector ≡ old sector))
  pub others : (other : ℕ) → other ≢ sector → new other ≡ old other

-- a get of a sector: its block is kept, and no count rose; or the get failed, and the host's count rose; or memory was wanting
abbrev pub Reads : Outside → Outside → Sectors → Sectors → ℕ → Result (Unit {0}) SaveFault → Type 0
Reads old new before after sector (Ok done) = Keeps before after sector (old.sectors sector) × NoneRose old new
Reads old new before after sector (Err (Failed at)) = (at.0 ≡ sector) × Rose (old.faults host) (new.faults host)
Reads old new before after sector (Err WriteFailed) = ⊥
Reads old new before after sector (Err NoMemory) = Unit {0}

-- the sectors of the places so far are on the disk, those in no region are zero, and each is zero or the outside's
pub record ReadSoFar (segments : ℕ) (sectors disk : Sectors) (count : ℕ) : Type 0 where
  pub read : (n : ℕ) → n < count → disk (sector_of (place_at segments n)) ≡ sectors (sector_of (place_at segments n))
  pub beyond : (sector : ℕ) → region_of segments sector ≡ None → disk sector ≡ zero_block
  pub either : (sector : ℕ) → (disk sector ≡ zero_block) ⊎ (disk sector ≡ sectors sector)

-- the disk that was read, or why it wasn't
abbrev pub ReadsDisk : Outside → Outside → ℕ → Result Blocks SaveFault → Type 0
ReadsDisk out after segments (Ok disk) = IsRead segments out.sectors disk × NoneRose out after
ReadsDisk out after segments (Err (Failed sector)) = Rose (out.faults host) (after.faults host) × (is_some (region_of segments sector.0) ≡ true)
ReadsDisk out after segments (Err WriteFailed) = ⊥
ReadsDisk out after segments (Err NoMemory) = Unit {0}

-- a disk's image is written, or why not
abbrev pub WritesDisk : FilesState → FilesState → List ℕ → Blocks → Result (Unit {0}) SaveFault → Type 0
WritesDisk files files_after save disk (Ok done) = OthersStay files.holds files_after.holds save × IsFile files_after.holds save (λ bytes. bytes ≡ image_text disk)
WritesDisk files files_after save disk (Err (Failed sector)) = ⊥
WritesDisk files files_after save disk (Err WriteFailed) = OthersStay files.holds files_after.holds save × Rose files.write_faults files_after.write_faults
WritesDisk files files_after save disk (Err NoMemory) = OthersStay files.holds files_after.holds save
