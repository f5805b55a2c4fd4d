-- How a run ends, by the run of the hall and by the save behind it; and that what was read before changes no cause.
use Rattle.std.proofs.Common.{◌≡◌, ◌∙◌, ◌≤◌, inl, inr, ℕ, Bool, true, false, leb, IsTrue, if◌then◌else◌, is_some, Option, Some, None, Result, Ok, Err, List, refl, sym, ap, subst, arith}
use Rattle.std.proofs.lemmas.Bool.Decides.{nat_tests}
use Rattle.frang_base.specs.declared.limits.TheConstants.{SEGMENTS_MAX}
use Rattle.frang_base.specs.declared.script.Line.{Line}
use Rattle.frang_outside.specs.Outside.{State, Rose}
use Rattle.frang_outside.specs.Files.{State as FilesState, Holds, NoneFell}
use Rattle.sector_bytes.specs.Blocks.{zero_block}
use Rattle.sector_bytes.specs.Sectors.{SameSectors, Sectors}
use Rattle.disk_definitions.specs.FreshDisk.{fresh_param}
use Rattle.disk_definitions.specs.Params.{param_fits}
use Rattle.disk_definitions.specs.Regions.{region_of}
use Rattle.core_definitions.specs.Scripts.{host_party}
use Rattle.command_words.specs.Commands.{Asks, BoardAsks, Image}
use Rattle.command_words.specs.Views.{HasSize}
use Rattle.disk_saving.specs.declared.fault.SaveFault.{SaveFault}
use Rattle.disk_saving.specs.declared.fault.SaveFault.TheVariants as save
use Rattle.disk_saving.specs.Saving.{IsSaved, Saves, Unmoved, on_disk}
use Rattle.image_commands.proofs.EndLaws.{others_same, others_stay}
use Rattle.hall_scripts.specs.declared.fault.RunFault.{RunFault}
use Rattle.hall_scripts.specs.declared.fault.RunFault.TheVariants as run
use Rattle.hall_scripts.specs.Runs.{Beginning, Ends as EndsScript, Leaves}
use Rattle.hall_scripts.proofs.Later.{ended_later, no_count_fell}
use Rattle.hall_scripts.proofs.Results.{leaves}
use Rattle.run_commands.specs.declared.end.RunEnd.{RunEnd}
use Rattle.run_commands.specs.declared.end.RunEnd.TheVariants as end
use Rattle.run_commands.specs.Running.{BeginsFrom, EndsRun, HasRun, IsScript, IsSomeScript, OnlySaves, Refused, StaysBut, WasBegun, WasRefused, file_of, run_end}
use Rattle.run_commands.specs.Steps.{OpensImage, ReadsScript, SavesAsked, save_end}

-- a disk that may have so many segments has parameters that fit
pub fits : (segments : ℕ) → HasSize segments → IsTrue (param_fits (fresh_param segments))
fits segments size =
    let least : leb 1 segments ≡ true = grind (arith, nat_tests, size.0) in
    let most : leb segments SEGMENTS_MAX ≡ true = grind (arith, nat_tests, size.1) in
    rw (least, most) refl

-- ---- counts

pub rose_earlier : (before now later : ℕ) → before ≤ now → Rose now later → Rose before later
rose_earlier before now later fell rose = omega (arith, fell, rose)

-- ---- the save behind a run

on_disk_same : (segments : ℕ) (a b : Sectors) → SameSectors a b → SameSectors (on_disk segments a) (on_disk segments b)
on_disk_same segments a b same sector = go (is_some (region_of segments sector))
  where
    go : (t : Bool) → (if t then a sector else zero_block) ≡ (if t then b sector else zero_block)
    go true = same sector
    go false = refl

saved_same : (holds : Option Holds) (name : List ℕ) (segments : ℕ) (a b : Sectors) → SameSectors a b → IsSaved holds name segments a → IsSaved holds name segments b
saved_same holds name segments a b same saved = (saved.0, saved.1, λ sector. saved.2 sector ∙ on_disk_same segments a b same sector, saved.3)

module _ (files files_after : FilesState) (script : List Line) (from : Beginning) (out mid : State) (ended : EndsScript script from out mid (Ok tt)) where
  -- all was done in the run, and nothing is saved
  unsaved : (after : State) → after ≡ mid → EndsRun None None files files_after out after script from end.Done
  unsaved after same = (subst (λ o. EndsScript script from out o (Ok tt)) (sym same) ended, tt)

  module _ (after : State) (name : List ℕ) (unmoved : Unmoved mid after) where
    later : EndsScript script from out after (Ok tt)
    later = ended_later script from out mid after ended unmoved.sectors unmoved.acts unmoved.follows

    saved : (result : Result (Unit {0}) SaveFault) → Saves files files_after mid after from.segments name result → EndsRun None (Some name) files files_after out after script from (save_end result)
    saved (Ok done) saves = (later, saved_same files_after.holds name from.segments mid.sectors after.sectors (λ sector. sym (unmoved.sectors sector)) saves.1)
    saved (Err (save.Failed sector)) saves =
        inr (later, rose_earlier (out.faults host_party) (mid.faults host_party) (after.faults host_party) ((no_count_fell script from out mid ended).faults host_party) saves.1)
    saved (Err save.WriteFailed) saves = (later, saves.1)
    saved (Err save.NoMemory) saves = inr later

    wrote : (result : Result (Unit {0}) SaveFault) → Saves files files_after mid after from.segments name result → OnlySaves None (Some name) (save_end result) files.holds files_after.holds
    wrote (Ok done) saves = saves.0
    wrote (Err (save.Failed sector)) saves = ap (λ (f : FilesState). f.holds) saves.0
    wrote (Err save.WriteFailed) saves = saves.0
    wrote (Err save.NoMemory) saves = saves

  pub save_ends : (asked : Option (List ℕ)) (after : State) (outcome : RunEnd) → SavesAsked asked from.segments files files_after mid after outcome → EndsRun None asked files files_after out after script from outcome
  save_ends None after outcome done = subst (EndsRun None None files files_after out after script from) (sym done.0) (unsaved after done.2)
  save_ends (Some name) after outcome done = subst (EndsRun None (Some name) files files_after out after script from) (sym done.1) (saved after name done.2 done.0 done.3)

  pub save_leaves : (asked : Option (List ℕ)) (after : State) (outcome : RunEnd) → SavesAsked asked from.segments files files_after mid after outcome → Leaves script from out after
  save_leaves None after outcome done = leaves script from out after (Ok tt) (subst (λ o. EndsScript script from out o (Ok tt)) (sym done.2) ended)
  save_leaves (Some name) after outcome done = leaves script from out after (Ok tt) (later after name done.2)

  pub save_writes : (asked : Option (List ℕ)) (after : State) (outcome : RunEnd) → SavesAsked asked from.segments files files_after mid after outcome → OnlySaves None asked outcome files.holds files_after.holds
  save_writes None after outcome done = subst (λ e. OnlySaves None None e files.holds files_after.holds) (sym done.0) (ap (λ (f : FilesState). f.holds) done.1)
  save_writes (Some name) after outcome done = subst (λ e. OnlySaves None (Some name) e files.holds files_after.holds) (sym done.1) (wrote after name done.2 done.0 done.3)

-- ---- no save

-- a run that stopped
pub stop_ends : (board : Option BoardAsks) (asked : Option (List ℕ)) (files files_after : FilesState) (out after : State) (script : List Line) (from : Beginning) (fault : RunFault)
    → EndsScript script from out after (Err fault) → EndsRun board asked files files_after out after script from (run_end (Err fault))
stop_ends board asked files files_after out after script from (run.Mute said) ended = ended
stop_ends board asked files files_after out after script from (run.Fault sector) ended = inl ended
stop_ends board asked files files_after out after script from run.NoMemory ended = inl ended

-- where nothing was written no file changed
pub stays_same : (file save : Option (List ℕ)) (before after : Option Holds) → after ≡ before → StaysBut file save before after
stays_same None None before after same = same
stays_same None (Some save) before after same = others_stay before after save same
stays_same (Some file) None before after same = others_stay before after file same
stays_same (Some file) (Some save) before after same = (before, others_same before file, others_stay before after save same)

pub nothing_saved : (board : Option BoardAsks) (asked : Option (List ℕ)) (outcome : RunEnd) (before after : Option Holds) → after ≡ before → OnlySaves board asked outcome before after
nothing_saved board asked end.Done before after same = stays_same (file_of board) asked before after same
nothing_saved board asked end.NoMemory before after same = stays_same (file_of board) asked before after same
nothing_saved board asked end.WriteFailed before after same = stays_same (file_of board) asked before after same
nothing_saved board asked (end.Fault sector) before after same = stays_same (file_of board) None before after same
nothing_saved board asked end.ScriptFailed before after same = same
nothing_saved board asked end.ScriptTooLong before after same = same
nothing_saved board asked (end.BadScript fault) before after same = same
nothing_saved board asked end.ImageFailed before after same = same
nothing_saved board asked end.ImageTooLong before after same = same
nothing_saved board asked (end.BadImage at kind sector) before after same = same
nothing_saved board asked (end.Mute said) before after same = same

-- files as they were before this one was read
pub saved_earlier : (board : Option BoardAsks) (asked : Option (List ℕ)) (outcome : RunEnd) (before mid after : Option Holds) → mid ≡ before → OnlySaves board asked outcome mid after
    → OnlySaves board asked outcome before after
saved_earlier board asked outcome before mid after same = subst (λ h. OnlySaves board asked outcome h after) same

-- ---- refusals

-- the script wasn't had
pub script_refused : (asks : Asks) (files files_after : FilesState) (outcome : RunEnd) → ReadsScript files files_after asks.script (Err outcome) → Refused asks files files_after outcome
script_refused asks files files_after end.NoMemory read = tt
script_refused asks files files_after end.ScriptFailed read = read
script_refused asks files files_after end.ScriptTooLong read = read
script_refused asks files files_after (end.BadScript fault) read = read
script_refused asks files files_after end.Done read = absurd read
script_refused asks files files_after end.ImageFailed read = absurd read
script_refused asks files files_after end.ImageTooLong read = absurd read
script_refused asks files files_after (end.BadImage at kind sector) read = absurd read
script_refused asks files files_after (end.Mute said) read = absurd read
script_refused asks files files_after (end.Fault sector) read = absurd read
script_refused asks files files_after end.WriteFailed read = absurd read

-- the image wasn't
module _ (asks : Asks) (files files_after : FilesState) (script : IsSomeScript files.holds asks.script) (image : List ℕ) (is : asks.disk ≡ Image image) where
  pub image_refused : (outcome : RunEnd) → OpensImage files files_after image (Err outcome) → Refused asks files files_after outcome
  image_refused end.NoMemory opens = tt
  image_refused end.ImageFailed opens = (script, opens)
  image_refused end.ImageTooLong opens = (script, image, is, opens)
  image_refused (end.BadImage at kind sector) opens = (script, image, is, opens)
  image_refused end.Done opens = absurd opens
  image_refused end.ScriptFailed opens = absurd opens
  image_refused end.ScriptTooLong opens = absurd opens
  image_refused (end.BadScript fault) opens = absurd opens
  image_refused (end.Mute said) opens = absurd opens
  image_refused (end.Fault sector) opens = absurd opens
  image_refused end.WriteFailed opens = absurd opens

-- ---- what was read before

module _ (files mid files_after : FilesState) (same : mid.holds ≡ files.holds) (fell : NoneFell files mid) (out after : State) where
  -- the image, where the run is begun behind its reading
  pub ends_earlier : (board : Option BoardAsks) (asked : Option (List ℕ)) (script : List Line) (from : Beginning) (outcome : RunEnd) → EndsRun board asked mid files_after out after script from outcome
      → EndsRun board asked files files_after out after script from outcome
  ends_earlier board asked script from end.Done ends = ends
  ends_earlier board asked script from end.NoMemory ends = ends
  ends_earlier board asked script from (end.Mute said) ends = ends
  ends_earlier board asked script from (end.Fault sector) ends = ends
  ends_earlier board asked script from end.WriteFailed ends = (ends.0, rose_earlier files.write_faults mid.write_faults files_after.write_faults fell.writes ends.1)
  ends_earlier board asked script from end.ScriptFailed ends = absurd ends
  ends_earlier board asked script from end.ScriptTooLong ends = absurd ends
  ends_earlier board asked script from (end.BadScript fault) ends = absurd ends
  ends_earlier board asked script from end.ImageFailed ends = absurd ends
  ends_earlier board asked script from end.ImageTooLong ends = absurd ends
  ends_earlier board asked script from (end.BadImage at kind sector) ends = absurd ends

  module _ (asks : Asks) where
    -- the script
    refused_earlier : (outcome : RunEnd) → Refused asks mid files_after outcome → Refused asks files files_after outcome
    refused_earlier end.NoMemory refused = tt
    refused_earlier end.ScriptFailed refused = rose_earlier files.read_faults mid.read_faults files_after.read_faults fell.reads refused
    refused_earlier end.ScriptTooLong refused = rw (sym same) refused
    refused_earlier (end.BadScript fault) refused = rw (sym same) refused
    refused_earlier end.ImageFailed refused = (rw (sym same) refused.0, rose_earlier files.read_faults mid.read_faults files_after.read_faults fell.reads refused.1)
    refused_earlier end.ImageTooLong refused = rw (sym same) refused
    refused_earlier (end.BadImage at kind sector) refused = rw (sym same) refused
    refused_earlier end.Done refused = absurd refused
    refused_earlier (end.Mute said) refused = absurd refused
    refused_earlier (end.Fault sector) refused = absurd refused
    refused_earlier end.WriteFailed refused = absurd refused

    pub run_earlier : (outcome : RunEnd) → HasRun asks mid files_after out after outcome → HasRun asks files files_after out after outcome
    run_earlier outcome (WasRefused refused untouched) = WasRefused (refused_earlier outcome refused) untouched
    run_earlier outcome (WasBegun script from is begins left ends) =
        WasBegun script from (subst (λ h. IsScript h asks.script script) same is) (subst (λ h. BeginsFrom h asks.disk from) same begins) left (ends_earlier asks.board asks.save script from outcome ends)
