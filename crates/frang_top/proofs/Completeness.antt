-- Where all is there and good and no fault is counted, all is done, unless memory is short.
use Rattle.std.proofs.Common.{◌≡◌, ◌∙◌, inl, inr, ℕ, Option, Some, None, List, refl, sym, ap, subst}
use Rattle.frang_outside.specs.Files.{State as FilesState}
use Rattle.frang_outside.specs.Outside.{State}
use Rattle.command_words.specs.Commands.{Asked, OnImage, Run, Soak, asked_by}
use Rattle.image_commands.specs.declared.end.ImageEnd.{ImageEnd}
use Rattle.image_commands.specs.Asked.{IsDoneOrShort as IsDoneOrShortOnImage}
use Rattle.image_commands.proofs.AskedLaws.{complete as told_complete}
use Rattle.run_commands.specs.declared.end.RunEnd.{RunEnd}
use Rattle.run_commands.specs.Running.{IsDoneOrShort}
use Rattle.run_commands.proofs.Completeness.{complete as run_complete}
use Rattle.run_commands.proofs.Soaks.{complete as soak_complete}
use Rattle.frang_top.specs.declared.outcome.Outcome.{Outcome}
use Rattle.frang_top.specs.declared.outcome.Outcome.TheVariants as ends
use Rattle.frang_top.specs.Top.{HasDone, HasFineCode, HasRunSo, HasSoakedSo, HasTold, IsComplete, IsCompleteOnImage, IsCompleteSoak, image_status, run_status, status_of}

run_fine : (e : RunEnd) → IsDoneOrShort e → HasFineCode (run_status e)
run_fine e (inl done) = inl (ap (λ x. (run_status x).code) done)
run_fine e (inr short) = inr (ap (λ x. (run_status x).code) short)

told_fine : (e : ImageEnd) → IsDoneOrShortOnImage e → HasFineCode (image_status e)
told_fine e (inl done) = inl (ap (λ x. (image_status x).code) done)
told_fine e (inr short) = inr (ap (λ x. (image_status x).code) short)

module _ (words : List (List ℕ)) (files files_after : FilesState) (out after : State) where
  module _ (asked : Asked) (is : asked_by words ≡ Some asked) where
    what_was_asked : (outcome : Outcome) → HasDone (asked_by words) files files_after out after outcome → HasDone (Some asked) files files_after out after outcome
    what_was_asked outcome done = subst (λ a. HasDone a files files_after out after outcome) is done

  pub complete : (outcome : Outcome) → HasDone (asked_by words) files files_after out after outcome → IsComplete words files files_after out after (status_of outcome)
  complete ends.BadWords done asks holds is told script can fine = absurd (what_was_asked (Run asks) is ends.BadWords done)
  complete ends.NoMemory done asks holds is told script can fine = inr refl
  complete (ends.Ran e) done asks holds is told script can fine =
      run_fine e (run_complete asks files files_after out after e (what_was_asked (Run asks) is (ends.Ran e) done) holds told script can fine)
  complete (ends.OnImage e) done asks holds is told script can fine = absurd (what_was_asked (Run asks) is (ends.OnImage e) done)

  pub complete_on_image : (outcome : Outcome) → HasDone (asked_by words) files files_after out after outcome → IsCompleteOnImage words files files_after out after (status_of outcome)
  complete_on_image outcome done asks holds bytes blocks is told at_name short image are fine =
      let all = what_was_asked (OnImage asks) is outcome done in
      subst HasFineCode (sym all.status_is) (told_fine all.ended (told_complete asks files files_after out after all.ended all.cause holds bytes blocks told at_name short image are fine))

  pub complete_soak : (outcome : Outcome) → HasDone (asked_by words) files files_after out after outcome → IsCompleteSoak words files files_after out after (status_of outcome)
  complete_soak ends.BadWords done number is fine = absurd (what_was_asked (Soak number) is ends.BadWords done)
  complete_soak ends.NoMemory done number is fine = inr refl
  complete_soak (ends.Ran e) done number is fine = run_fine e (soak_complete number files files_after out after e (what_was_asked (Soak number) is (ends.Ran e) done) fine)
  complete_soak (ends.OnImage e) done number is fine = absurd (what_was_asked (Soak number) is (ends.OnImage e) done)
