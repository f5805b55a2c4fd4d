-- How commands on images end, and why.
use Rattle.std.specs.Prelude.{◌≡◌, ◌⊎◌, ◌≤◌, ◌<◌, ℕ, true, Option, Some, None, unwrap_or, Ok, Err, List, [], length, take, drop, nat_lt, if◌then◌else◌}
use Rattle.frang_base.specs.declared.limits.TheConstants.{IMAGE_BYTES_MAX}
use Rattle.frang_base.specs.declared.said.Said.{Said}
use Rattle.frang_outside.specs.Outside.{State, Rose}
use Rattle.frang_outside.specs.Files.{State as FilesState, Holds, IsFile, OthersStay}
use Rattle.sector_bytes.specs.Bytes.{number_at}
use Rattle.sector_bytes.specs.Sectors.{SameSectors, sectors_of}
use Rattle.disk_definitions.specs.Params.{param_in}
use Rattle.image_file.specs.Images.{Blocks, image_in, image_text, may_run_again}
use Rattle.image_file.specs.declared.refusal.ImageRead.TheVariants as refused
use Rattle.image_file.specs.Answers.{GivesImage}
use Rattle.disk_definitions.specs.Replay.{replayed}
use Rattle.image_commands.specs.declared.end.ImageEnd.{ImageEnd}
use Rattle.image_commands.specs.declared.end.ImageEnd.TheVariants as end
use Rattle.image_commands.specs.Saying.{Says, SaysSome}
use Rattle.image_commands.specs.Lines.{IsRecovery}

-- the file, where files are told, is the image of a disk with these sectors
abbrev pub IsImageOf : Option Holds → List ℕ → Blocks → Type 0
IsImageOf holds name blocks = IsFile holds name (λ bytes. (length bytes ≤ IMAGE_BYTES_MAX) × (image_in bytes ≡ Ok blocks))

-- a name has a file of these bytes, where files are told
abbrev pub HasBytes : Option Holds → List ℕ → List ℕ → Type 0
HasBytes None name bytes = Unit {0}
HasBytes (Some holds) name bytes = holds name ≡ Some bytes

-- bytes that a file has, where files are told, are the image of a disk with these sectors, which may have another run
pub record IsReadAs (told : Option Holds) (name : List ℕ) (blocks : Blocks) : Type 0 where
  pub bytes : List ℕ
  pub holds : HasBytes told name bytes
  pub short : length bytes ≤ IMAGE_BYTES_MAX
  pub text : image_in bytes ≡ Ok blocks
  pub again : may_run_again (param_in (sectors_of blocks 0)) ≡ true

-- the number that the first bytes are
abbrev pub first_number : List ℕ → Option ℕ
first_number bytes = if nat_lt (length bytes) 8 then None else Some (number_at 8 0 bytes)

-- the number at a place of the bytes, which is that of a sector where an entry stands there; 0 where they end before
abbrev pub sector_at : ℕ → List ℕ → ℕ
sector_at at bytes = unwrap_or (first_number (drop at bytes)) 0

-- the file, where files are told, is within its limit and no image, with this first fault, and this number at its place
abbrev pub IsNoImage : Option Holds → List ℕ → ℕ → ℕ → ℕ → Type 0
IsNoImage holds name at kind sector = IsFile holds name (λ bytes. (length bytes ≤ IMAGE_BYTES_MAX) × GivesImage (image_in bytes) (Err (refused.Bad at kind)) × (sector ≡ sector_at at bytes))

-- the file is the image of a disk that has no such lines
pub record HasNoLines (T : Blocks → List Said → Type 0) (holds : Option Holds) (name : List ℕ) : Type 0 where
  pub blocks : Blocks
  pub image : IsImageOf holds name blocks
  pub none : (lines : List Said) → T blocks lines → ⊥

-- the file is the image of a disk with such lines, of which P holds
pub record Tells (T : Blocks → List Said → Type 0) (holds : Option Holds) (name : List ℕ) (P : Blocks → List Said → Type 0) : Type 0 where
  pub blocks : Blocks
  pub image : IsImageOf holds name blocks
  pub lines : List Said
  pub are : T blocks lines
  pub so : P blocks lines

-- why a command ends so that only says lines: where all is done each of them is said, and else the first of them or nothing
abbrev pub Ends : (Blocks → List Said → Type 0) → List ℕ → FilesState → FilesState → State → State → ImageEnd → Type 0
Ends T name files files_after out after end.Done = Tells T files.holds name (λ blocks lines. Says after.acts lines)
Ends T name files files_after out after end.NoMemory = Says after.acts [] ⊎ Tells T files.holds name (λ blocks lines. SaysSome after.acts lines)
Ends T name files files_after out after end.ReadFailed = Rose files.read_faults files_after.read_faults × Says after.acts []
Ends T name files files_after out after end.TooLong = IsFile files.holds name (λ bytes. IMAGE_BYTES_MAX < length bytes) × Says after.acts []
Ends T name files files_after out after (end.BadImage at kind sector) = (IsNoImage files.holds name at kind sector ⊎ ((at ≡ 0) × (kind ≡ 8) × (sector ≡ 0) × HasNoLines T files.holds name)) × Says after.acts []
Ends T name files files_after out after (end.Mute said) =
    Tells T files.holds name (λ blocks lines. (said < length lines) × Says after.acts (take said lines)) × Rose out.say_faults after.say_faults
Ends T name files files_after out after end.WriteFailed = ⊥

-- the same of a command whose lines every disk has: of an image that is one it isn't said that it is bad
abbrev pub EndsTold : (Blocks → List Said → Type 0) → List ℕ → FilesState → FilesState → State → State → ImageEnd → Type 0
EndsTold T name files files_after out after (end.BadImage at kind sector) = IsNoImage files.holds name at kind sector × Says after.acts []
EndsTold T name files files_after out after outcome = Ends T name files files_after out after outcome

-- ---- saving

-- the file, where files are told, is the image of the replayed disk
abbrev pub IsSaved : Option Holds → List ℕ → Blocks → Type 0
IsSaved holds save blocks = (new : Blocks) × SameSectors (sectors_of new) (replayed (sectors_of blocks)) × IsFile holds save (λ bytes. bytes ≡ image_text new)

-- why a recovery that saves ends so
abbrev pub EndsSaving : List ℕ → List ℕ → FilesState → FilesState → State → State → ImageEnd → Type 0
EndsSaving name save files files_after out after end.Done = Tells IsRecovery files.holds name (λ blocks lines. Says after.acts lines × IsSaved files_after.holds save blocks)
EndsSaving name save files files_after out after end.WriteFailed = Tells IsRecovery files.holds name (λ blocks lines. Says after.acts lines × Rose files.write_faults files_after.write_faults)
EndsSaving name save files files_after out after outcome = Ends IsRecovery name files files_after out after outcome

-- a recovery that saves, or not
abbrev pub EndsRecovery : List ℕ → Option (List ℕ) → FilesState → FilesState → State → State → ImageEnd → Type 0
EndsRecovery name None files files_after out after outcome = Ends IsRecovery name files files_after out after outcome
EndsRecovery name (Some save) files files_after out after outcome = EndsSaving name save files files_after out after outcome

-- no other file changes, and the one that is saved only where all lines were said
abbrev pub MaySave : ImageEnd → Option Holds → Option Holds → List ℕ → Type 0
MaySave end.Done before after save = OthersStay before after save
MaySave end.NoMemory before after save = OthersStay before after save
MaySave end.WriteFailed before after save = OthersStay before after save
MaySave outcome before after save = after ≡ before

-- no file changes but the one that is saved
abbrev pub OnlySaves : Option (List ℕ) → ImageEnd → Option Holds → Option Holds → Type 0
OnlySaves None outcome before after = after ≡ before
OnlySaves (Some save) outcome before after = MaySave outcome before after save
