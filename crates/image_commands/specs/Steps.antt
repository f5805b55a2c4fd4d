-- What the steps of a command give: the bytes of a file, a disk, lines that are said, a disk that is saved.
use Rattle.std.specs.Prelude.{◌≡◌, ◌⊎◌, ◌≤◌, ◌<◌, ℕ, Option, Some, None, Result, Ok, Err, List, [], ◌∷◌, length, Vec}
use Rattle.std.specs.declared.alloc.Global.{Global}
use Rattle.frang_base.specs.declared.limits.TheConstants.{IMAGE_BYTES_MAX}
use Rattle.frang_base.specs.declared.fault.NoMemory.{NoMemory}
use Rattle.frang_base.specs.declared.said.Said.{Said}
use Rattle.frang_base.specs.declared.said.Said.TheVariants as said
use Rattle.frang_outside.specs.declared.outside.SayFault.{SayFault}
use Rattle.frang_outside.specs.declared.outside.SayFault.TheVariants.{Failed, NoMemory as WantsMemory}
use Rattle.frang_outside.specs.Outside.{State, Rose, told_more}
use Rattle.frang_outside.specs.Files.{State as FilesState, IsFile, OthersStay}
use Rattle.sector_bytes.specs.Sectors.{SameSectors, Sectors, sectors_of}
use Rattle.disk_definitions.specs.Replay.{replayed}
use Rattle.image_commands.specs.Lines.{EndsWithTree, IsRecovery, IsTree}
use Rattle.image_file.specs.Images.{Blocks, image_in, image_text}
use Rattle.image_file.specs.declared.refusal.ImageRead.TheVariants as refused
use Rattle.image_file.specs.Answers.{GivesImage}
use Rattle.image_commands.specs.declared.end.ImageEnd.{ImageEnd}
use Rattle.image_commands.specs.declared.end.ImageEnd.TheVariants as end
use Rattle.image_commands.specs.Saying.{said_act, Says, SaysAll}
use Rattle.image_commands.specs.Ends.{IsImageOf, IsNoImage, sector_at}

-- how a command ends by a say that was refused after so many lines
abbrev pub stopped_by : ℕ → SayFault → ImageEnd
stopped_by said Failed = end.Mute said
stopped_by said WantsMemory = end.NoMemory

-- the bytes of a file
abbrev pub ReadsBytes : FilesState → FilesState → List ℕ → Result (Vec ℕ Global) ImageEnd → Type 0
ReadsBytes old new name (Ok read) = (length read.items ≤ IMAGE_BYTES_MAX) × IsFile old.holds name (λ bytes. bytes ≡ read.items)
ReadsBytes old new name (Err end.NoMemory) = Unit {0}
ReadsBytes old new name (Err end.ReadFailed) = Rose old.read_faults new.read_faults
ReadsBytes old new name (Err end.TooLong) = IsFile old.holds name (λ bytes. IMAGE_BYTES_MAX < length bytes)
ReadsBytes old new name (Err _) = ⊥

-- the disk whose image bytes are
abbrev pub GivesDisk : List ℕ → Result Blocks ImageEnd → Type 0
GivesDisk bytes (Ok blocks) = image_in bytes ≡ Ok blocks
GivesDisk bytes (Err end.NoMemory) = Unit {0}
GivesDisk bytes (Err (end.BadImage at kind sector)) = GivesImage (image_in bytes) (Err (refused.Bad at kind)) × (sector ≡ sector_at at bytes)
GivesDisk bytes (Err _) = ⊥

-- the disk whose image a file is
abbrev pub ReadsDisk : FilesState → FilesState → List ℕ → Result Blocks ImageEnd → Type 0
ReadsDisk old new name (Ok blocks) = IsImageOf old.holds name blocks
ReadsDisk old new name (Err end.NoMemory) = Unit {0}
ReadsDisk old new name (Err end.ReadFailed) = Rose old.read_faults new.read_faults
ReadsDisk old new name (Err end.TooLong) = IsFile old.holds name (λ bytes. IMAGE_BYTES_MAX < length bytes)
ReadsDisk old new name (Err (end.BadImage at kind sector)) = IsNoImage old.holds name at kind sector
ReadsDisk old new name (Err _) = ⊥

-- the first of the lines that are left is said, or the end where none is left; or it is refused, after so many lines, or memory was short
abbrev pub SaysNext : State → State → ℕ → List Said → List Said → Option ImageEnd → Type 0
SaysNext old new count left rest None = (line : Said) × (left ≡ line ∷ rest) × (new.acts ≡ told_more old.acts (said_act line))
SaysNext old new count left rest (Some end.Done) = (left ≡ []) × (new.acts ≡ told_more old.acts (said_act said.End))
SaysNext old new count left rest (Some end.NoMemory) = new.acts ≡ old.acts
SaysNext old new count left rest (Some (end.Mute at)) = (at ≡ count) × (new.acts ≡ old.acts) × Rose old.say_faults new.say_faults
SaysNext old new count left rest (Some _) = ⊥

-- lines that end with those of the disk's tree are said
abbrev pub SaysTree : State → State → Sectors → List Said → ImageEnd → Type 0
SaysTree old new sectors before outcome = (lines : List Said) × EndsWithTree sectors before lines × SaysAll old new lines outcome

-- the lines of a disk's tree are said, or nothing is: memory was short, or there are no lines
abbrev pub TellsDisk : State → State → Blocks → ImageEnd → Type 0
TellsDisk old new blocks outcome =
    ((lines : List Said) × IsTree blocks lines × SaysAll old new lines outcome)
    ⊎ (Says new.acts [] × ((outcome ≡ end.NoMemory) ⊎ ((outcome ≡ end.BadImage 0 8 0) × ((lines : List Said) → IsTree blocks lines → ⊥))))

-- the lines are said, where memory was there for them
abbrev pub SaysTold : State → State → Result (Vec Said Global) NoMemory → ImageEnd → Type 0
SaysTold old new (Ok lines) outcome = SaysAll old new lines.items outcome
SaysTold old new (Err want) outcome = (outcome ≡ end.NoMemory) × Says new.acts []

-- the file has the image of the disk, or it was refused; every other file stays
abbrev pub SavesDisk : FilesState → FilesState → List ℕ → Blocks → ImageEnd → Type 0
SavesDisk old new save disk end.Done = OthersStay old.holds new.holds save × IsFile new.holds save (λ bytes. bytes ≡ image_text disk)
SavesDisk old new save disk end.NoMemory = OthersStay old.holds new.holds save
SavesDisk old new save disk end.WriteFailed = OthersStay old.holds new.holds save × Rose old.write_faults new.write_faults
SavesDisk old new save disk _ = ⊥

-- the same where all was done before, else nothing
abbrev pub SavesAfter : FilesState → FilesState → List ℕ → Blocks → ImageEnd → ImageEnd → Type 0
SavesAfter old new save disk end.Done outcome = SavesDisk old new save disk outcome
SavesAfter old new save disk before outcome = (new ≡ old) × (outcome ≡ before)

-- lines are said, and then the disk is saved, where that is asked
abbrev pub SaysAndSaves : FilesState → FilesState → State → State → List Said → Blocks → Option (List ℕ) → ImageEnd → Type 0
SaysAndSaves files files_after out after lines disk None outcome = SaysAll out after lines outcome × (files_after ≡ files)
SaysAndSaves files files_after out after lines disk (Some save) outcome = (said : ImageEnd) × SaysAll out after lines said × SavesAfter files files_after save disk said outcome

-- a disk's recovery is said and saved, or nothing is: memory was short, or there are no lines
abbrev pub RecoversDisk : FilesState → FilesState → State → State → Blocks → Option (List ℕ) → ImageEnd → Type 0
RecoversDisk files files_after out after blocks save outcome =
    ((lines : List Said) × (disk : Blocks) × IsRecovery blocks lines × SameSectors (sectors_of disk) (replayed (sectors_of blocks)) × SaysAndSaves files files_after out after lines disk save outcome)
    ⊎ (Says after.acts [] × (files_after ≡ files) × ((outcome ≡ end.NoMemory) ⊎ ((outcome ≡ end.BadImage 0 8 0) × ((lines : List Said) → IsRecovery blocks lines → ⊥))))
