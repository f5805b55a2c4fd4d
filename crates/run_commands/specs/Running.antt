-- Why a run of a script ends, and what it leaves: the script and the disk that it is run on, the outside, and the file in which the disk is saved.
use Rattle.std.specs.Prelude.{◌≡◌, ◌⊎◌, ◌<◌, ◌≤◌, ℕ, Option, Some, None, option_map, Result, Ok, Err, List, [], ◌∷◌, ◌++◌, codes, length}
use Rattle.std.specs.Fmt.{decimal}
use Rattle.std.specs.List.{flat_map}
use Rattle.frang_base.specs.declared.limits.TheConstants.{IMAGE_BYTES_MAX, SCRIPT_BYTES_MAX}
use Rattle.frang_base.specs.declared.script.Line.{Line}
use Rattle.frang_outside.specs.Outside.{State, Rose}
use Rattle.frang_outside.specs.Files.{State as FilesState, Holds, IsFile, OthersStay}
use Rattle.script_definitions.specs.declared.fault.ScriptFault.{ScriptFault}
use Rattle.script_definitions.specs.ScriptText.{script_of}
use Rattle.tree_definitions.specs.Tree.{FileTree}
use Rattle.sector_bytes.specs.Sectors.{sectors_of}
use Rattle.disk_definitions.specs.declared.param.Param.{Param}
use Rattle.disk_definitions.specs.Replay.{replayed}
use Rattle.disk_definitions.specs.Standing.{StandsFor}
use Rattle.core_definitions.specs.Opening.{MayOpen}
use Rattle.core_definitions.specs.Scripts.{host_party}
use Rattle.image_file.specs.Images.{Blocks, image_in}
use Rattle.disk_saving.specs.Saving.{IsSaved}
use Rattle.command_words.specs.Commands.{AskedDisk, Asks, BoardAsks, Fresh, Image}
use Rattle.frang_board.specs.declared.figures.Figures.{Figures}
use Rattle.image_commands.specs.Ends.{HasBytes, IsImageOf, IsNoImage}
use Rattle.hall_scripts.specs.declared.fault.RunFault.{RunFault}
use Rattle.hall_scripts.specs.declared.fault.RunFault.TheVariants as run
use Rattle.hall_scripts.specs.Runs.{Beginning, Ends as EndsScript, Leaves, on_fresh, on_image}
use Rattle.hall_scripts.specs.Watched.{EndedWatched}
use Rattle.run_commands.specs.declared.end.RunEnd.{RunEnd}
use Rattle.run_commands.specs.declared.end.RunEnd.TheVariants as end

-- ---- the script, and the disk

-- the file is this script, within its limit
pub record IsScript (told : Option Holds) (name : List ℕ) (script : List Line) : Type 0 where
  pub bytes : List ℕ
  pub holds : HasBytes told name bytes
  pub short : length bytes ≤ SCRIPT_BYTES_MAX
  pub text : script_of bytes ≡ Ok script

-- the file is no script: this is its first fault
pub record IsNoScript (told : Option Holds) (name : List ℕ) (fault : ScriptFault) : Type 0 where
  pub bytes : List ℕ
  pub holds : HasBytes told name bytes
  pub short : length bytes ≤ SCRIPT_BYTES_MAX
  pub text : script_of bytes ≡ Err fault

-- the file is a script
abbrev pub IsSomeScript : Option Holds → List ℕ → Type 0
IsSomeScript told name = (script : List Line) × IsScript told name script

-- the file is the image of a disk with these parameters, which may have another run, and which, once its logs are replayed, has these sectors and stands for a tree
pub record IsOpenImage (told : Option Holds) (name : List ℕ) (param : Param) (disk : Blocks) : Type 0 where
  pub bytes : List ℕ
  pub holds : HasBytes told name bytes
  pub short : length bytes ≤ IMAGE_BYTES_MAX
  pub blocks : Blocks
  pub text : image_in bytes ≡ Ok blocks
  pub tree : FileTree
  pub may_open : MayOpen (sectors_of blocks) param tree disk

-- the file is the image of a disk that, once its logs are replayed, stands for no tree
pub record IsOfNoTree (told : Option Holds) (name : List ℕ) : Type 0 where
  pub blocks : Blocks
  pub image : IsImageOf told name blocks
  pub none : (tree : FileTree) → StandsFor (replayed (sectors_of blocks)) tree → ⊥

-- what a run begins from, by the disk that is asked for
pub data BeginsFrom (told : Option Holds) : AskedDisk → Beginning → Type 0 where
  FromFresh : (segments : ℕ) → BeginsFrom told (Fresh segments) (on_fresh segments)
  FromImage : (image : List ℕ) (param : Param) (disk : Blocks) → IsOpenImage told image param disk → BeginsFrom told (Image image) (on_image param disk)

-- ---- why it ends

-- before anything is put or said: memory was wanting; the script's file isn't read, is too long, or no script; or it is one, and the image's file isn't read, is too long, is no image, with its
-- first fault, or is that of a disk that stands for no tree
abbrev pub Refused : Asks → FilesState → FilesState → RunEnd → Type 0
Refused asks files files_after end.NoMemory = Unit {0}
Refused asks files files_after end.ScriptFailed = Rose files.read_faults files_after.read_faults
Refused asks files files_after end.ScriptTooLong = IsFile files.holds asks.script (λ bytes. SCRIPT_BYTES_MAX < length bytes)
Refused asks files files_after (end.BadScript fault) = IsNoScript files.holds asks.script fault
Refused asks files files_after end.ImageFailed = IsSomeScript files.holds asks.script × Rose files.read_faults files_after.read_faults
Refused asks files files_after end.ImageTooLong = IsSomeScript files.holds asks.script × (image : List ℕ) × (asks.disk ≡ Image image) × IsFile files.holds image (λ bytes. IMAGE_BYTES_MAX < length bytes)
Refused asks files files_after (end.BadImage at kind sector) =
    IsSomeScript files.holds asks.script × (image : List ℕ) × (asks.disk ≡ Image image)
    × (IsNoImage files.holds image at kind sector ⊎ ((at ≡ 0) × (kind ≡ 8) × (sector ≡ 0) × IsOfNoTree files.holds image))
Refused asks files files_after outcome = ⊥

-- four numbers and a line feed: how many lines were said, how many of them are answers, how many tell of a death, and how many of a recovery
abbrev pub figures_line : Figures → List ℕ
figures_line f = decimal f.said ++ (codes " " ++ (decimal f.answered ++ (codes " " ++ (decimal f.dead ++ (codes " " ++ (decimal f.recovered ++ 10 ∷ []))))))

abbrev pub figures_text : List Figures → List ℕ
figures_text list = flat_map figures_line list

-- the run came to its end; where its figures were asked for, they were read of its record, the last behind it, and the file has them, a line each
abbrev pub EndsRead : Option BoardAsks → Option Holds → List Line → Beginning → State → State → Type 0
EndsRead None holds script from out after = EndsScript script from out after (Ok tt)
EndsRead (Some board) holds script from out after = (list : List Figures) × EndedWatched script from out after board.reads list × IsFile holds board.file (λ bytes. bytes ≡ figures_text list)

-- the disk is saved where that is asked
abbrev pub IsSavedIn : Option (List ℕ) → Option Holds → ℕ → State → Type 0
IsSavedIn None holds segments out = Unit {0}
IsSavedIn (Some save) holds segments out = IsSaved holds save segments out.sectors

-- once it is begun: the run came to its end, and the disk is saved where that is asked; a say failed, after so many lines; a put of the opening failed at this sector, or a get or put of the
-- host in the run, or, behind its end, a get of the host for the disk that is saved; memory was wanting, in the run or behind its end; or, behind its end, a file wasn't written
abbrev pub EndsRun : Option BoardAsks → Option (List ℕ) → FilesState → FilesState → State → State → List Line → Beginning → RunEnd → Type 0
EndsRun board save files files_after out after script from end.Done = EndsRead board files_after.holds script from out after × IsSavedIn save files_after.holds from.segments after
EndsRun board save files files_after out after script from end.NoMemory = EndsScript script from out after (Err run.NoMemory) ⊎ EndsScript script from out after (Ok tt)
EndsRun board save files files_after out after script from (end.Mute said) = EndsScript script from out after (Err (run.Mute said))
EndsRun board save files files_after out after script from (end.Fault sector) =
    EndsScript script from out after (Err (run.Fault sector)) ⊎ (EndsScript script from out after (Ok tt) × Rose (out.faults host_party) (after.faults host_party))
EndsRun board save files files_after out after script from end.WriteFailed = EndsScript script from out after (Ok tt) × Rose files.write_faults files_after.write_faults
EndsRun board save files files_after out after script from outcome = ⊥

-- what a run of a script did: nothing, for a reason; or it was begun, with this script and from this disk, left what the opening puts, or the first of it, and what a run of the core leaves
-- from there, and ended for a reason
pub data HasRun (asks : Asks) (files files_after : FilesState) (out after : State) (outcome : RunEnd) : Type 0 where
  WasRefused : Refused asks files files_after outcome → after ≡ out → HasRun asks files files_after out after outcome
  WasBegun : (script : List Line) (from : Beginning) → IsScript files.holds asks.script script → BeginsFrom files.holds asks.disk from → Leaves script from out after
      → EndsRun asks.board asks.save files files_after out after script from outcome → HasRun asks files files_after out after outcome

-- ---- the files

-- the file for the figures
abbrev pub file_of : Option BoardAsks → Option (List ℕ)
file_of board = option_map (λ b. b.file) board

-- no file changes but these, where they are asked for, the first before the second
abbrev pub StaysBut : Option (List ℕ) → Option (List ℕ) → Option Holds → Option Holds → Type 0
StaysBut None None before after = after ≡ before
StaysBut None (Some save) before after = OthersStay before after save
StaysBut (Some file) None before after = OthersStay before after file
StaysBut (Some file) (Some save) before after = (between : Option Holds) × OthersStay before between file × OthersStay between after save

-- no file changes but the one for the figures and the one in which the disk is saved, and these only where the run came to its end; where a get of the host failed, which may be one for the save,
-- the second isn't written
abbrev pub OnlySaves : Option BoardAsks → Option (List ℕ) → RunEnd → Option Holds → Option Holds → Type 0
OnlySaves board save end.Done before after = StaysBut (file_of board) save before after
OnlySaves board save end.NoMemory before after = StaysBut (file_of board) save before after
OnlySaves board save end.WriteFailed before after = StaysBut (file_of board) save before after
OnlySaves board save (end.Fault sector) before after = StaysBut (file_of board) None before after
OnlySaves board save outcome before after = after ≡ before

-- ---- where all is there

-- a run can begin on the disk that is asked for: a fresh one, or that of an image within its limit, which, once its logs are replayed, stands for a tree
abbrev pub CanBegin : Holds → AskedDisk → Type 0
CanBegin holds (Fresh segments) = Unit {0}
CanBegin holds (Image image) =
    (bytes : List ℕ) × (blocks : Blocks) × (holds image ≡ Some bytes) × (length bytes ≤ IMAGE_BYTES_MAX) × (image_in bytes ≡ Ok blocks) × ((tree : FileTree) × StandsFor (replayed (sectors_of blocks)) tree)

-- no count rose that may end a run: of reads and writes of files, of says, of the host's gets and puts
pub record NothingFailed (files files_after : FilesState) (out after : State) : Type 0 where
  pub reads : Rose files.read_faults files_after.read_faults → ⊥
  pub writes : Rose files.write_faults files_after.write_faults → ⊥
  pub says : Rose out.say_faults after.say_faults → ⊥
  pub host : Rose (out.faults host_party) (after.faults host_party) → ⊥

-- all was done, or memory was wanting
abbrev pub IsDoneOrShort : RunEnd → Type 0
IsDoneOrShort outcome = (outcome ≡ end.Done) ⊎ (outcome ≡ end.NoMemory)

-- where the script is there and is one, a run can begin on the disk, and nothing failed, all is done but for want of memory
abbrev pub IsComplete : Asks → FilesState → FilesState → State → State → RunEnd → Type 0
IsComplete asks files files_after out after outcome =
    (holds : Holds) → files.holds ≡ Some holds → IsSomeScript (Some holds) asks.script → CanBegin holds asks.disk → NothingFailed files files_after out after → IsDoneOrShort outcome

-- ---- steps

-- how a run ended, as the end of its command where nothing is saved
abbrev pub run_end : Result (Unit {0}) RunFault → RunEnd
run_end (Ok done) = end.Done
run_end (Err (run.Mute said)) = end.Mute said
run_end (Err (run.Fault sector)) = end.Fault sector
run_end (Err run.NoMemory) = end.NoMemory
