-- What the steps of a run give: the script that a file is, the disk of an image, the run, and the disk that is saved behind its end.
use Rattle.std.specs.Prelude.{◌≡◌, ◌⊎◌, ◌<◌, ℕ, Option, Some, None, Result, Ok, Err, List, length}
use Rattle.frang_base.specs.declared.limits.TheConstants.{IMAGE_BYTES_MAX, SCRIPT_BYTES_MAX}
use Rattle.frang_base.specs.declared.script.Line.{Line}
use Rattle.frang_outside.specs.Outside.{State, Rose}
use Rattle.frang_outside.specs.Files.{State as FilesState, IsFile, NoneFell, OthersStay}
use Rattle.frang_board.specs.declared.figures.Figures.{Figures}
use Rattle.script_definitions.specs.ScriptText.{script_of}
use Rattle.tree_definitions.specs.Tree.{FileTree}
use Rattle.sector_bytes.specs.Sectors.{sectors_of}
use Rattle.disk_definitions.specs.Replay.{replayed}
use Rattle.disk_definitions.specs.Standing.{StandsFor}
use Rattle.core_definitions.specs.Opening.{MayOpen}
use Rattle.image_file.specs.Images.{Blocks}
use Rattle.disk_saving.specs.Saving.{Saves, Unmoved}
use Rattle.disk_saving.specs.declared.fault.SaveFault.{SaveFault}
use Rattle.disk_saving.specs.declared.fault.SaveFault.TheVariants as save
use Rattle.image_commands.specs.declared.end.ImageEnd.{ImageEnd}
use Rattle.image_commands.specs.declared.end.ImageEnd.TheVariants as told
use Rattle.image_commands.specs.Ends.{IsNoImage}
use Rattle.run_commands.specs.declared.end.RunEnd.{RunEnd}
use Rattle.run_commands.specs.declared.end.RunEnd.TheVariants as end
use Rattle.run_commands.specs.declared.images.ImageDisk.{ImageDisk}
use Rattle.run_commands.specs.Running.{IsNoScript, IsOfNoTree, IsOpenImage, IsScript, figures_text}

-- the script that bytes are
abbrev pub GivesScript : List ℕ → Result (List Line) RunEnd → Type 0
GivesScript bytes (Ok script) = script_of bytes ≡ Ok script
GivesScript bytes (Err end.NoMemory) = Unit {0}
GivesScript bytes (Err (end.BadScript fault)) = script_of bytes ≡ Err fault
GivesScript bytes (Err _) = ⊥

-- the script that a file is
abbrev pub ReadsScript : FilesState → FilesState → List ℕ → Result (List Line) RunEnd → Type 0
ReadsScript old new name (Ok script) = IsScript old.holds name script
ReadsScript old new name (Err end.NoMemory) = Unit {0}
ReadsScript old new name (Err end.ScriptFailed) = Rose old.read_faults new.read_faults
ReadsScript old new name (Err end.ScriptTooLong) = IsFile old.holds name (λ bytes. SCRIPT_BYTES_MAX < length bytes)
ReadsScript old new name (Err (end.BadScript fault)) = IsNoScript old.holds name fault
ReadsScript old new name (Err _) = ⊥

-- the replayed disk of an image with these sectors, where it stands for a tree
abbrev pub GivesOpen : Blocks → Result ImageDisk RunEnd → Type 0
GivesOpen blocks (Ok found) = (tree : FileTree) × MayOpen (sectors_of blocks) found.param tree found.disk
GivesOpen blocks (Err end.NoMemory) = Unit {0}
GivesOpen blocks (Err (end.BadImage at kind sector)) = (at ≡ 0) × (kind ≡ 8) × (sector ≡ 0) × ((tree : FileTree) → StandsFor (replayed (sectors_of blocks)) tree → ⊥)
GivesOpen blocks (Err _) = ⊥

-- that of a file
abbrev pub OpensImage : FilesState → FilesState → List ℕ → Result ImageDisk RunEnd → Type 0
OpensImage old new name (Ok found) = IsOpenImage old.holds name found.param found.disk
OpensImage old new name (Err end.NoMemory) = Unit {0}
OpensImage old new name (Err end.ImageFailed) = Rose old.read_faults new.read_faults
OpensImage old new name (Err end.ImageTooLong) = IsFile old.holds name (λ bytes. IMAGE_BYTES_MAX < length bytes)
OpensImage old new name (Err (end.BadImage at kind sector)) = IsNoImage old.holds name at kind sector ⊎ ((at ≡ 0) × (kind ≡ 8) × (sector ≡ 0) × IsOfNoTree old.holds name)
OpensImage old new name (Err _) = ⊥

-- how a save ended, as the end of its command
abbrev pub save_end : Result (Unit {0}) SaveFault → RunEnd
save_end (Ok done) = end.Done
save_end (Err (save.Failed sector)) = end.Fault sector
save_end (Err save.WriteFailed) = end.WriteFailed
save_end (Err save.NoMemory) = end.NoMemory

-- the disk is saved where that is asked, or it isn't, for a reason; else nothing is done
abbrev pub SavesAsked : Option (List ℕ) → ℕ → FilesState → FilesState → State → State → RunEnd → Type 0
SavesAsked None segments files files_after out after outcome = (outcome ≡ end.Done) × (files_after ≡ files) × (after ≡ out)
SavesAsked (Some name) segments files files_after out after outcome =
    (result : Result (Unit {0}) SaveFault) × (outcome ≡ save_end result) × Unmoved out after × Saves files files_after out after segments name result

-- the file has these figures, or it wasn't written, for a reason
abbrev pub WritesFigures : FilesState → FilesState → List ℕ → List Figures → Result (Unit {0}) RunEnd → Type 0
WritesFigures files files_after file list (Ok done) = OthersStay files.holds files_after.holds file × IsFile files_after.holds file (λ bytes. bytes ≡ figures_text list)
WritesFigures files files_after file list (Err end.WriteFailed) = OthersStay files.holds files_after.holds file × Rose files.write_faults files_after.write_faults
WritesFigures files files_after file list (Err end.NoMemory) = OthersStay files.holds files_after.holds file
WritesFigures files files_after file list (Err _) = ⊥

-- the figures are written, and behind that the disk is saved where that is asked, or it isn't, for a reason; or they aren't written, and nothing else is done
pub data WritesAndSaves (file : List ℕ) (list : List Figures) (save : Option (List ℕ)) (segments : ℕ) (files files_after : FilesState) (out after : State) (outcome : RunEnd) : Type 0 where
  Wrote : (between : FilesState) → WritesFigures files between file list (Ok tt) → NoneFell files between → SavesAsked save segments between files_after out after outcome
      → WritesAndSaves file list save segments files files_after out after outcome
  Unwritten : WritesFigures files files_after file list (Err outcome) → after ≡ out → WritesAndSaves file list save segments files files_after out after outcome

-- an end of reading an image, as that of a run
abbrev pub image_end : ImageEnd → RunEnd
image_end told.Done = end.Done
image_end told.NoMemory = end.NoMemory
image_end told.ReadFailed = end.ImageFailed
image_end told.TooLong = end.ImageTooLong
image_end (told.BadImage at kind sector) = end.BadImage at kind sector
image_end (told.Mute said) = end.Mute said
image_end told.WriteFailed = end.WriteFailed
