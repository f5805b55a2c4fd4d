-- How a run ends whose figures were read: they are written, and the disk is saved behind that, which leaves their file as it is.
use Rattle.std.proofs.Common.{◌≡◌, ◌∙◌, inr, ℕ, Bool, true, false, not, IsTrue, Option, Some, None, Result, Ok, Err, List, sym, ap, subst, true≢false}
use Rattle.std.specs.Str.{bytes_eq}
use Rattle.std.proofs.lemmas.Slice.Eq.{bytes_eq-Decides}
use Rattle.frang_base.specs.declared.script.Line.{Line}
use Rattle.frang_outside.specs.Outside.{State}
use Rattle.frang_outside.specs.Files.{State as FilesState, Holds, IsFile, NoneFell, OthersStay}
use Rattle.frang_board.specs.declared.figures.Figures.{Figures}
use Rattle.command_words.specs.Commands.{BoardAsks, is_other_file}
use Rattle.disk_saving.specs.declared.fault.SaveFault.{SaveFault}
use Rattle.disk_saving.specs.declared.fault.SaveFault.TheVariants as save
use Rattle.disk_saving.specs.Saving.{Saves}
use Rattle.image_commands.proofs.EndLaws.{others_same, others_stay}
use Rattle.hall_scripts.specs.Runs.{Beginning, Ends as EndsScript, Leaves}
use Rattle.hall_scripts.specs.Watched.{EndedWatched}
use Rattle.hall_scripts.proofs.Later.{watched_later}
use Rattle.hall_scripts.proofs.Results.{leaves}
use Rattle.run_commands.specs.declared.end.RunEnd.{RunEnd}
use Rattle.run_commands.specs.declared.end.RunEnd.TheVariants as end
use Rattle.run_commands.specs.Running.{EndsRun, OnlySaves, StaysBut, figures_text}
use Rattle.run_commands.specs.Steps.{SavesAsked, Unwritten, WritesAndSaves, WritesFigures, Wrote, save_end}
use Rattle.run_commands.proofs.Runs.{rose_earlier, save_ends, save_leaves}

-- ---- another file

apart : (b : Bool) → IsTrue (not b) → b ≡ true → ⊥
apart true other same = true≢false (sym other)
apart false other same = true≢false (sym same)

not_same : (file name : List ℕ) → IsTrue (is_other_file file (Some name)) → file ≡ name → ⊥
not_same file name other same = apart (bytes_eq file name) other ((bytes_eq-Decides file name).1 same)

-- a file that another doesn't change
file_stays : (before now : Option Holds) (file name : List ℕ) (P : List ℕ → Type 0) → OthersStay before now name → (file ≡ name → ⊥) → IsFile before file P → IsFile now file P
file_stays None now file name P same ne is = subst (λ h. IsFile h file P) (sym same) is
file_stays (Some before) None file name P same ne is = absurd same
file_stays (Some before) (Some now) file name P same ne is = (is.0, same file ne ∙ is.1, is.2)

-- ---- the save behind it

save_stays : (between files_after : FilesState) (out after : State) (segments : ℕ) (name : List ℕ) (result : Result (Unit {0}) SaveFault) → Saves between files_after out after segments name result
    → OthersStay between.holds files_after.holds name
save_stays between files_after out after segments name (Ok done) saves = saves.0
save_stays between files_after out after segments name (Err (save.Failed sector)) saves = others_stay between.holds files_after.holds name (ap (λ (f : FilesState). f.holds) saves.0)
save_stays between files_after out after segments name (Err save.WriteFailed) saves = saves.0
save_stays between files_after out after segments name (Err save.NoMemory) saves = saves

module _ (board : BoardAsks) (files files_after : FilesState) (script : List Line) (from : Beginning) (out mid : State) (list : List Figures) (ended : EndedWatched script from out mid board.reads list) where
  abbrev HasList : List ℕ → Type 0
  HasList bytes = bytes ≡ figures_text list

  plain : EndsScript script from out mid (Ok tt)
  plain = record { said = ended.said; ran = ended.ran }

  abbrev EndsRead : Option (List ℕ) → State → RunEnd → Type 0
  EndsRead asked after outcome = EndsRun (Some board) asked files files_after out after script from outcome

  -- ---- the file wasn't written

  unwritten_ends : (asked : Option (List ℕ)) (after : State) (outcome : RunEnd) → WritesFigures files files_after board.file list (Err outcome) → after ≡ mid → EndsRead asked after outcome
  unwritten_ends asked after end.NoMemory wrote same = inr (subst (λ o. EndsScript script from out o (Ok tt)) (sym same) plain)
  unwritten_ends asked after end.WriteFailed wrote same = (subst (λ o. EndsScript script from out o (Ok tt)) (sym same) plain, wrote.1)
  unwritten_ends asked after end.Done wrote same = absurd wrote
  unwritten_ends asked after end.ScriptFailed wrote same = absurd wrote
  unwritten_ends asked after end.ScriptTooLong wrote same = absurd wrote
  unwritten_ends asked after (end.BadScript fault) wrote same = absurd wrote
  unwritten_ends asked after end.ImageFailed wrote same = absurd wrote
  unwritten_ends asked after end.ImageTooLong wrote same = absurd wrote
  unwritten_ends asked after (end.BadImage at kind sector) wrote same = absurd wrote
  unwritten_ends asked after (end.Mute said) wrote same = absurd wrote
  unwritten_ends asked after (end.Fault sector) wrote same = absurd wrote

  one_file : (asked : Option (List ℕ)) → OthersStay files.holds files_after.holds board.file → StaysBut (Some board.file) asked files.holds files_after.holds
  one_file None stays = stays
  one_file (Some name) stays = (files_after.holds, stays, others_same files_after.holds name)

  unwritten_files : (asked : Option (List ℕ)) (outcome : RunEnd) → WritesFigures files files_after board.file list (Err outcome) → OnlySaves (Some board) asked outcome files.holds files_after.holds
  unwritten_files asked end.NoMemory wrote = one_file asked wrote
  unwritten_files asked end.WriteFailed wrote = one_file asked wrote.0
  unwritten_files asked end.Done wrote = absurd wrote
  unwritten_files asked end.ScriptFailed wrote = absurd wrote
  unwritten_files asked end.ScriptTooLong wrote = absurd wrote
  unwritten_files asked (end.BadScript fault) wrote = absurd wrote
  unwritten_files asked end.ImageFailed wrote = absurd wrote
  unwritten_files asked end.ImageTooLong wrote = absurd wrote
  unwritten_files asked (end.BadImage at kind sector) wrote = absurd wrote
  unwritten_files asked (end.Mute said) wrote = absurd wrote
  unwritten_files asked (end.Fault sector) wrote = absurd wrote

  -- ---- it was

  module _ (between : FilesState) (wrote : WritesFigures files between board.file list (Ok tt)) (fell : NoneFell files between) where
    -- what is read off the end of a run that is saved, where the file has the figures
    read_ends : (asked : Option (List ℕ)) (after : State) (outcome : RunEnd) → EndedWatched script from out after board.reads list → IsFile files_after.holds board.file HasList
        → EndsRun None asked between files_after out after script from outcome → EndsRead asked after outcome
    read_ends asked after end.Done watched has ends = ((list, watched, has), ends.1)
    read_ends asked after end.NoMemory watched has ends = ends
    read_ends asked after (end.Mute said) watched has ends = ends
    read_ends asked after (end.Fault sector) watched has ends = ends
    read_ends asked after end.WriteFailed watched has ends = (ends.0, rose_earlier files.write_faults between.write_faults files_after.write_faults fell.writes ends.1)
    read_ends asked after end.ScriptFailed watched has ends = absurd ends
    read_ends asked after end.ScriptTooLong watched has ends = absurd ends
    read_ends asked after (end.BadScript fault) watched has ends = absurd ends
    read_ends asked after end.ImageFailed watched has ends = absurd ends
    read_ends asked after end.ImageTooLong watched has ends = absurd ends
    read_ends asked after (end.BadImage at kind sector) watched has ends = absurd ends

    still_watched : (asked : Option (List ℕ)) (after : State) (outcome : RunEnd) → SavesAsked asked from.segments between files_after mid after outcome → EndedWatched script from out after board.reads list
    still_watched None after outcome done = subst (λ o. EndedWatched script from out o board.reads list) (sym done.2) ended
    still_watched (Some name) after outcome done = watched_later script from out mid after board.reads list ended done.2.sectors done.2.acts done.2.follows

    still_there : (asked : Option (List ℕ)) (after : State) (outcome : RunEnd) → IsTrue (is_other_file board.file asked) → SavesAsked asked from.segments between files_after mid after outcome
        → IsFile files_after.holds board.file HasList
    still_there None after outcome other done = subst (λ (f : FilesState). IsFile f.holds board.file HasList) (sym done.1) wrote.1
    still_there (Some name) after outcome other done =
        file_stays between.holds files_after.holds board.file name HasList (save_stays between files_after mid after from.segments name done.0 done.3) (not_same board.file name other) wrote.1

    wrote_ends : (asked : Option (List ℕ)) (after : State) (outcome : RunEnd) → IsTrue (is_other_file board.file asked) → SavesAsked asked from.segments between files_after mid after outcome
        → EndsRead asked after outcome
    wrote_ends asked after outcome other done =
        read_ends asked after outcome (still_watched asked after outcome done) (still_there asked after outcome other done) (save_ends between files_after script from out mid plain asked after outcome done)

    both_files : (after : State) (name : List ℕ) (result : Result (Unit {0}) SaveFault) → Saves between files_after mid after from.segments name result
        → OnlySaves (Some board) (Some name) (save_end result) files.holds files_after.holds
    both_files after name (Ok done) saves = (between.holds, wrote.0, saves.0)
    both_files after name (Err (save.Failed sector)) saves = subst (λ h. OthersStay files.holds h board.file) (sym (ap (λ (f : FilesState). f.holds) saves.0)) wrote.0
    both_files after name (Err save.WriteFailed) saves = (between.holds, wrote.0, saves.0)
    both_files after name (Err save.NoMemory) saves = (between.holds, wrote.0, saves)

    wrote_files : (asked : Option (List ℕ)) (after : State) (outcome : RunEnd) → SavesAsked asked from.segments between files_after mid after outcome
        → OnlySaves (Some board) asked outcome files.holds files_after.holds
    wrote_files None after outcome done =
        subst (λ e. OnlySaves (Some board) None e files.holds files_after.holds) (sym done.0) (subst (λ (f : FilesState). OthersStay files.holds f.holds board.file) (sym done.1) wrote.0)
    wrote_files (Some name) after outcome done =
        subst (λ e. OnlySaves (Some board) (Some name) e files.holds files_after.holds) (sym done.1) (both_files after name done.0 done.3)

  -- ---- whichever

  module _ (asked : Option (List ℕ)) (after : State) (outcome : RunEnd) where
    pub read_and_saved : IsTrue (is_other_file board.file asked) → WritesAndSaves board.file list asked from.segments files files_after mid after outcome → EndsRead asked after outcome
    read_and_saved other (Wrote between wrote fell done) = wrote_ends between wrote fell asked after outcome other done
    read_and_saved other (Unwritten unwritten same) = unwritten_ends asked after outcome unwritten same

    pub read_leaves : WritesAndSaves board.file list asked from.segments files files_after mid after outcome → Leaves script from out after
    read_leaves (Wrote between wrote fell done) = save_leaves between files_after script from out mid plain asked after outcome done
    read_leaves (Unwritten unwritten same) = leaves script from out after (Ok tt) (subst (λ o. EndsScript script from out o (Ok tt)) (sym same) plain)

    pub read_files : WritesAndSaves board.file list asked from.segments files files_after mid after outcome → OnlySaves (Some board) asked outcome files.holds files_after.holds
    read_files (Wrote between wrote fell done) = wrote_files between wrote fell asked after outcome done
    read_files (Unwritten unwritten same) = unwritten_files asked outcome unwritten
