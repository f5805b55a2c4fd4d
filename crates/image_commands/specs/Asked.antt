-- What is promised of a command on an image, by what is asked.
use Rattle.std.specs.Prelude.{◌≡◌, ◌⊎◌, ◌≤◌, ℕ, Option, Some, None, Ok, List, length}
use Rattle.frang_base.specs.declared.limits.TheConstants.{IMAGE_BYTES_MAX}
use Rattle.frang_outside.specs.Outside.{State, Rose}
use Rattle.frang_outside.specs.Files.{State as FilesState, Holds, OthersStay}
use Rattle.sector_bytes.specs.Sectors.{sectors_of}
use Rattle.image_file.specs.Images.{Blocks, image_in}
use Rattle.disk_definitions.specs.Replay.{replayed}
use Rattle.report_definitions.specs.Laws.{StandsForSome}
use Rattle.command_words.specs.Commands.{ImageAsks, Recover, Tree, Log, Fsck}
use Rattle.image_commands.specs.declared.end.ImageEnd.{ImageEnd}
use Rattle.image_commands.specs.declared.end.ImageEnd.TheVariants as end
use Rattle.image_commands.specs.Lines.{IsCheck, IsLog, IsTree}
use Rattle.image_commands.specs.Ends.{Ends, EndsRecovery, EndsTold, OnlySaves}

-- why it ends so
abbrev pub EndsAsked : ImageAsks → FilesState → FilesState → State → State → ImageEnd → Type 0
EndsAsked (Recover image save) files files_after out after outcome = EndsRecovery image save files files_after out after outcome
EndsAsked (Tree image) files files_after out after outcome = Ends IsTree image files files_after out after outcome
EndsAsked (Log image server) files files_after out after outcome = EndsTold (IsLog server) image files files_after out after outcome
EndsAsked (Fsck image) files files_after out after outcome = EndsTold IsCheck image files files_after out after outcome

-- what it leaves of the files
abbrev pub LeavesFiles : ImageAsks → ImageEnd → Option Holds → Option Holds → Type 0
LeavesFiles (Recover image save) outcome before after = OnlySaves save outcome before after
LeavesFiles (Tree image) outcome before after = after ≡ before
LeavesFiles (Log image server) outcome before after = after ≡ before
LeavesFiles (Fsck image) outcome before after = after ≡ before

-- the file that it may write
abbrev pub saved_by : ImageAsks → Option (List ℕ)
saved_by (Recover image save) = save
saved_by (Tree image) = None
saved_by (Log image server) = None
saved_by (Fsck image) = None

-- no file changes but this one
abbrev pub OnlyWrites : Option (List ℕ) → Option Holds → Option Holds → Type 0
OnlyWrites None before after = after ≡ before
OnlyWrites (Some save) before after = OthersStay before after save

-- the image
abbrev pub image_of : ImageAsks → List ℕ
image_of (Recover image save) = image
image_of (Tree image) = image
image_of (Log image server) = image
image_of (Fsck image) = image

-- the disk has such lines: those of a tree only where it stands for one once its logs are replayed
abbrev pub HasAsked : ImageAsks → Blocks → Type 0
HasAsked (Recover image save) blocks = StandsForSome (replayed (sectors_of blocks))
HasAsked (Tree image) blocks = StandsForSome (replayed (sectors_of blocks))
HasAsked (Log image server) blocks = Unit {0}
HasAsked (Fsck image) blocks = Unit {0}

-- all was done, or memory was short
abbrev pub IsDoneOrShort : ImageEnd → Type 0
IsDoneOrShort outcome = (outcome ≡ end.Done) ⊎ (outcome ≡ end.NoMemory)

-- no call failed
pub record NothingFailed (files files_after : FilesState) (out after : State) : Type 0 where
  pub reads : Rose files.read_faults files_after.read_faults → ⊥
  pub writes : Rose files.write_faults files_after.write_faults → ⊥
  pub says : Rose out.say_faults after.say_faults → ⊥

-- where the image is there and good, has such lines, and no fault is counted, all is done but for want of memory
abbrev pub IsComplete : ImageAsks → FilesState → FilesState → State → State → ImageEnd → Type 0
IsComplete asks files files_after out after outcome =
    (holds : Holds) (bytes : List ℕ) (blocks : Blocks) → files.holds ≡ Some holds → holds (image_of asks) ≡ Some bytes → length bytes ≤ IMAGE_BYTES_MAX
    → image_in bytes ≡ Ok blocks → HasAsked asks blocks → NothingFailed files files_after out after → IsDoneOrShort outcome
