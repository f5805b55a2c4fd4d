-- Where all is there and nothing fails, all is done, unless memory is short.
use Rattle.std.proofs.Common.{◌≡◌, ◌∙◌, ◌⊎◌, inl, inr, ℕ, ◌<◌, ◌≤◌, Option, Some, Ok, Err, List, length, refl, sym, ap, subst, arith}
use Rattle.frang_base.specs.declared.limits.TheConstants.{IMAGE_BYTES_MAX, SCRIPT_BYTES_MAX}
use Rattle.frang_base.specs.declared.script.Line.{Line}
use Rattle.frang_outside.specs.Files.{State as FilesState, Holds, IsFile}
use Rattle.frang_outside.specs.Outside.{State}
use Rattle.script_definitions.specs.declared.fault.ScriptFault.{ScriptFault}
use Rattle.script_definitions.specs.ScriptText.{script_of}
use Rattle.tree_definitions.specs.Tree.{FileTree}
use Rattle.sector_bytes.specs.Sectors.{sectors_of}
use Rattle.disk_definitions.specs.Replay.{replayed}
use Rattle.disk_definitions.specs.Standing.{StandsFor}
use Rattle.command_words.specs.Commands.{Asks, BoardAsks, Image}
use Rattle.image_file.specs.Images.{image_in}
use Rattle.hall_scripts.specs.Runs.{Beginning}
use Rattle.run_commands.specs.declared.end.RunEnd.{RunEnd}
use Rattle.run_commands.specs.declared.end.RunEnd.TheVariants as end
use Rattle.run_commands.specs.Running.{CanBegin, EndsRun, HasRun, IsComplete, IsDoneOrShort, IsNoScript, IsOfNoTree, IsSomeScript, NothingFailed, Refused, WasBegun, WasRefused}
use Rattle.image_commands.specs.Ends.{IsNoImage}

module _ (files files_after : FilesState) (out after : State) (fine : NothingFailed files files_after out after) where
  -- a run that was begun
  begun_fine : (board : Option BoardAsks) (save : Option (List ℕ)) (script : List Line) (from : Beginning) (outcome : RunEnd) → EndsRun board save files files_after out after script from outcome → IsDoneOrShort outcome
  begun_fine board save script from end.Done ends = inl refl
  begun_fine board save script from end.NoMemory ends = inr refl
  begun_fine board save script from (end.Mute said) ends = absurd (fine.says ends.0)
  begun_fine board save script from (end.Fault sector) (inl ends) = absurd (fine.host ends.0)
  begun_fine board save script from (end.Fault sector) (inr ends) = absurd (fine.host ends.1)
  begun_fine board save script from end.WriteFailed ends = absurd (fine.writes ends.1)
  begun_fine board save script from end.ScriptFailed ends = absurd ends
  begun_fine board save script from end.ScriptTooLong ends = absurd ends
  begun_fine board save script from (end.BadScript fault) ends = absurd ends
  begun_fine board save script from end.ImageFailed ends = absurd ends
  begun_fine board save script from end.ImageTooLong ends = absurd ends
  begun_fine board save script from (end.BadImage at kind sector) ends = absurd ends

  module _ (asks : Asks) (holds : Holds) (script : IsSomeScript (Some holds) asks.script) (can : CanBegin holds asks.disk) where
    same_bytes : (one two : List ℕ) → holds asks.script ≡ Some one → holds asks.script ≡ Some two → one ≡ two
    same_bytes one two a b = let some : Some one ≡ Some two = sym a ∙ b in cc

    -- what is there at the script's name isn't too long, and is no other thing
    not_long : (bytes : List ℕ) → holds asks.script ≡ Some bytes → SCRIPT_BYTES_MAX < length bytes → ⊥
    not_long bytes at long =
        let own = script.1 in
        let few : length bytes ≤ SCRIPT_BYTES_MAX = subst (λ b. length b ≤ SCRIPT_BYTES_MAX) (same_bytes own.bytes bytes own.holds at) own.short in
        omega (arith, few, long)

    not_bad : (fault : ScriptFault) → IsNoScript (Some holds) asks.script fault → ⊥
    not_bad fault other =
        let own = script.1 in
        let e : script_of own.bytes ≡ Err fault = subst (λ b. script_of b ≡ Err fault) (same_bytes other.bytes own.bytes other.holds own.holds) other.text in
        absurd (let bad : Ok script.0 ≡ Err fault = sym own.text ∙ e in cc)

    module _ (image : List ℕ) (is : asks.disk ≡ Image image) where
      there : CanBegin holds (Image image)
      there = subst (CanBegin holds) is can

      same_image : (bytes : List ℕ) → holds image ≡ Some bytes → there.0 ≡ bytes
      same_image bytes at = let some : Some there.0 ≡ Some bytes = sym there.2 ∙ at in cc

      image_short : (bytes : List ℕ) → holds image ≡ Some bytes → IMAGE_BYTES_MAX < length bytes → ⊥
      image_short bytes at long =
          let few : length bytes ≤ IMAGE_BYTES_MAX = subst (λ b. length b ≤ IMAGE_BYTES_MAX) (same_image bytes at) there.3 in omega (arith, few, long)

      image_good : (at kind sector : ℕ) → IsNoImage (Some holds) image at kind sector → ⊥
      image_good at kind sector other =
          let fault = other.2.1 in
          let e : image_in there.0 ≡ Err fault.0 = ap image_in (same_image other.0 other.1) ∙ fault.1 in
          absurd (let bad : Ok there.1 ≡ Err fault.0 = sym there.4 ∙ e in cc)

      image_stands : IsOfNoTree (Some holds) image → ⊥
      image_stands other =
          let e : Ok there.1 ≡ Ok other.blocks = sym there.4 ∙ (ap image_in (same_image other.image.0 other.image.1) ∙ other.image.2.1) in
          let same : there.1 ≡ other.blocks = cc in
          let stands = subst (λ b. (tree : FileTree) × StandsFor (replayed (sectors_of b)) tree) same there.5 in
          other.none stands.0 stands.1

    refused_fine : files.holds ≡ Some holds → (outcome : RunEnd) → Refused asks files files_after outcome → IsDoneOrShort outcome
    refused_fine told end.NoMemory refused = inr refl
    refused_fine told end.ScriptFailed refused = absurd (fine.reads refused)
    refused_fine told end.ScriptTooLong refused =
        let long = subst (λ h. IsFile h asks.script (λ bytes. SCRIPT_BYTES_MAX < length bytes)) told refused in absurd (not_long long.0 long.1 long.2)
    refused_fine told (end.BadScript fault) refused = absurd (not_bad fault (subst (λ h. IsNoScript h asks.script fault) told refused))
    refused_fine told end.ImageFailed refused = absurd (fine.reads refused.1)
    refused_fine told end.ImageTooLong refused =
        let long = subst (λ h. IsFile h refused.1 (λ bytes. IMAGE_BYTES_MAX < length bytes)) told refused.3 in absurd (image_short refused.1 refused.2 long.0 long.1 long.2)
    refused_fine told (end.BadImage at kind sector) refused =
        absurd (both refused.1 refused.2 (subst (λ h. IsNoImage h refused.1 at kind sector ⊎ ((at ≡ 0) × (kind ≡ 8) × (sector ≡ 0) × IsOfNoTree h refused.1)) told refused.3))
      where
        both : (image : List ℕ) → asks.disk ≡ Image image → IsNoImage (Some holds) image at kind sector ⊎ ((at ≡ 0) × (kind ≡ 8) × (sector ≡ 0) × IsOfNoTree (Some holds) image) → ⊥
        both image is (inl other) = image_good image is at kind sector other
        both image is (inr other) = image_stands image is other.3
    refused_fine told end.Done refused = absurd refused
    refused_fine told (end.Mute said) refused = absurd refused
    refused_fine told (end.Fault sector) refused = absurd refused
    refused_fine told end.WriteFailed refused = absurd refused

    run_fine : files.holds ≡ Some holds → (outcome : RunEnd) → HasRun asks files files_after out after outcome → IsDoneOrShort outcome
    run_fine told outcome (WasRefused refused untouched) = refused_fine told outcome refused
    run_fine told outcome (WasBegun own from is begins left ends) = begun_fine asks.board asks.save own from outcome ends

pub complete : (asks : Asks) (files files_after : FilesState) (out after : State) (outcome : RunEnd) → HasRun asks files files_after out after outcome → IsComplete asks files files_after out after outcome
complete asks files files_after out after outcome done holds told script can fine = run_fine files files_after out after fine asks holds script can told outcome done
