-- Where memory is short before the words are read, that is the end of whatever they ask.
use Rattle.std.proofs.Common.{◌≡◌, inl, Option, Some, None, List, ℕ, refl}
use Rattle.frang_outside.specs.Files.{State as FilesState, Holds}
use Rattle.frang_outside.specs.Outside.{State}
use Rattle.command_words.specs.Commands.{Asked, BoardAsks, Fsck, ImageAsks, Log, OnImage, Recover, Run, Soak, Tree}
use Rattle.image_commands.specs.declared.end.ImageEnd.TheVariants as end
use Rattle.image_commands.specs.Asked.{EndsAsked, LeavesFiles, OnlyWrites, saved_by}
use Rattle.image_commands.proofs.EndLaws.{others_same, others_stay}
use Rattle.run_commands.specs.declared.end.RunEnd.{RunEnd}
use Rattle.run_commands.specs.declared.end.RunEnd.TheVariants as run
use Rattle.quiet_outside.specs.KeptLines.{NoneTold}
use Rattle.run_commands.specs.Running.{OnlySaves, StaysBut, file_of}
use Rattle.run_commands.proofs.Runs.{stays_same}
use Rattle.frang_top.specs.declared.outcome.Outcome.TheVariants as ends
use Rattle.frang_top.specs.Top.{HasDone, LeavesOthers}

image_wants : (asks : ImageAsks) (files : FilesState) (out : State) → NoneTold out.acts → EndsAsked asks files files out out end.NoMemory
image_wants (Recover image None) files out nothing = inl nothing
image_wants (Recover image (Some save)) files out nothing = inl nothing
image_wants (Tree image) files out nothing = inl nothing
image_wants (Log image server) files out nothing = inl nothing
image_wants (Fsck image) files out nothing = inl nothing

leaves : (asks : ImageAsks) (holds : Option Holds) → LeavesFiles asks end.NoMemory holds holds
leaves (Recover image None) holds = refl
leaves (Recover image (Some save)) holds = others_same holds save
leaves (Tree image) holds = refl
leaves (Log image server) holds = refl
leaves (Fsck image) holds = refl

pub wants : (asked : Option Asked) (files : FilesState) (out : State) → NoneTold out.acts → HasDone asked files files out out ends.NoMemory
wants None files out nothing = (tt, refl)
wants (Some (Run asks)) files out nothing = refl
wants (Some (Soak number)) files out nothing = refl
wants (Some (OnImage asks)) files out nothing = record {
  ended = end.NoMemory;
  status_is = refl;
  cause = image_wants asks files out nothing;
  leaves = leaves asks files.holds;
}

only_writes : (name : Option (List ℕ)) (holds : Option Holds) → OnlyWrites name holds holds
only_writes None holds = refl
only_writes (Some name) holds = others_same holds name

pub nothing_written : (asked : Option Asked) (holds : Option Holds) → LeavesOthers asked holds holds
nothing_written None holds = refl
nothing_written (Some (Run asks)) holds = stays_same (file_of asks.board) asks.save holds holds refl
nothing_written (Some (OnImage asks)) holds = only_writes (saved_by asks) holds
nothing_written (Some (Soak number)) holds = refl

-- where the second file isn't written either
unsaved : (file save : Option (List ℕ)) (before after : Option Holds) → StaysBut file None before after → StaysBut file save before after
unsaved file None before after stays = stays
unsaved None (Some save) before after same = others_stay before after save same
unsaved (Some file) (Some save) before after stays = (after, stays, others_same after save)

-- what a run writes and saves is all that it writes
pub run_writes : (board : Option BoardAsks) (save : Option (List ℕ)) (outcome : RunEnd) (before after : Option Holds) → OnlySaves board save outcome before after → StaysBut (file_of board) save before after
run_writes board save run.Done before after stays = stays
run_writes board save run.NoMemory before after stays = stays
run_writes board save run.WriteFailed before after stays = stays
run_writes board save (run.Fault sector) before after stays = unsaved (file_of board) save before after stays
run_writes board save run.ScriptFailed before after same = stays_same (file_of board) save before after same
run_writes board save run.ScriptTooLong before after same = stays_same (file_of board) save before after same
run_writes board save (run.BadScript fault) before after same = stays_same (file_of board) save before after same
run_writes board save run.ImageFailed before after same = stays_same (file_of board) save before after same
run_writes board save run.ImageTooLong before after same = stays_same (file_of board) save before after same
run_writes board save (run.BadImage at kind sector) before after same = stays_same (file_of board) save before after same
run_writes board save (run.Mute said) before after same = stays_same (file_of board) save before after same
