-- How a soak ends, by its run and by the say of its report; no call was made to fail by what keeps its lines.
use Rattle.std.proofs.Common.{◌≡◌, ◌∙◌, inl, inr, ℕ, Ok, Err, Result, List, refl, sym, ap, subst, arith}
use Rattle.frang_outside.specs.declared.outside.SayFault.{SayFault}
use Rattle.frang_outside.specs.declared.outside.SayFault.TheVariants as say
use Rattle.frang_outside.specs.Files.{State as FilesState}
use Rattle.frang_outside.specs.Outside.{State, Rose}
use Rattle.core_definitions.specs.Scripts.{host_party}
use Rattle.frang_soak.specs.Scripts.{soak_script}
use Rattle.quiet_outside.specs.KeptLines.{fail_at_of, first_over, say_faults_below}
use Rattle.hall_scripts.specs.declared.fault.RunFault.{RunFault}
use Rattle.hall_scripts.specs.declared.fault.RunFault.TheVariants as run
use Rattle.hall_scripts.proofs.Later.{marks_stay}
use Rattle.hall_scripts.proofs.Results.{leaves}
use Rattle.run_commands.specs.declared.end.RunEnd.{RunEnd}
use Rattle.run_commands.specs.declared.end.RunEnd.TheVariants as end
use Rattle.run_commands.specs.Running.{IsDoneOrShort, NothingFailed, run_end}
use Rattle.run_commands.specs.Soaking.{EndsSoak, HasReported, HasSoaked, said_end, soak_beginning}

-- the mark is the first one
mark_same : (number : ℕ) (out below : State) (result : Result (Unit {0}) RunFault) (lines : List (List ℕ)) (soaked : HasSoaked number out below result lines) → soaked.quiet.mark ≡ (first_over out 0).mark
mark_same number out below result lines soaked =
    marks_stay (soak_script number) soak_beginning (first_over out 0) soaked.quiet (leaves (soak_script number) soak_beginning (first_over out 0) soaked.quiet result soaked.ends)

-- so below no say failed in the run
no_say_rose : (number : ℕ) (out below : State) (result : Result (Unit {0}) RunFault) (lines : List (List ℕ)) → HasSoaked number out below result lines → below.say_faults ≡ out.say_faults
no_say_rose number out below result lines soaked = soaked.gives.say_faults ∙ ap say_faults_below (mark_same number out below result lines soaked)

-- and the counts of gets and puts are those of what kept the lines
same_faults : (number : ℕ) (out below : State) (result : Result (Unit {0}) RunFault) (lines : List (List ℕ)) (soaked : HasSoaked number out below result lines) (party : ℕ)
    → below.faults party ≡ soaked.quiet.faults party
same_faults number out below result lines soaked = soaked.gives.faults (ap fail_at_of (mark_same number out below result lines soaked))

never_rises : Rose 0 0 → ⊥
never_rises rose = omega (arith, rose)

-- the run of a soak stopped
pub soak_stopped : (number : ℕ) (out after : State) (fault : RunFault) (lines : List (List ℕ)) → HasSoaked number out after (Err fault) lines → EndsSoak number out after (run_end (Err fault))
soak_stopped number out after (run.Mute said) lines soaked = absurd (never_rises (subst (λ n. Rose 0 n) soaked.calm soaked.ends.0))
soak_stopped number out after (run.Fault sector) lines soaked =
    (subst (λ n. Rose (out.faults host_party) n) (sym (same_faults number out after (Err (run.Fault sector)) lines soaked host_party)) soaked.ends.0, (lines, soaked))
soak_stopped number out after run.NoMemory lines soaked = inr (inl (lines, soaked))

-- the report was said, or refused
pub soak_reported : (number : ℕ) (out after : State) (result : Result (Unit {0}) SayFault) → HasReported number out after result → EndsSoak number out after (said_end result)
soak_reported number out after (Ok done) reported = reported
soak_reported number out after (Err say.Failed) reported =
    (refl, reported, subst (λ n. Rose n after.say_faults) (no_say_rose number out reported.below (Ok tt) reported.lines reported.soaked) reported.said.1.own)
soak_reported number out after (Err say.NoMemory) reported = inr (inr (inr reported))

-- or memory was wanting for it
pub soak_wants : (number : ℕ) (out after : State) (lines : List (List ℕ)) → HasSoaked number out after (Ok tt) lines → EndsSoak number out after end.NoMemory
soak_wants number out after lines soaked = inr (inr (inl (lines, soaked)))

-- where nothing failed all is done, unless memory was wanting
pub complete : (number : ℕ) (files files_after : FilesState) (out after : State) (outcome : RunEnd) → EndsSoak number out after outcome → NothingFailed files files_after out after → IsDoneOrShort outcome
complete number files files_after out after end.Done ends fine = inl refl
complete number files files_after out after end.NoMemory ends fine = inr refl
complete number files files_after out after (end.Mute said) ends fine = absurd (fine.says ends.2)
complete number files files_after out after (end.Fault sector) ends fine = absurd (fine.host ends.0)
complete number files files_after out after end.ScriptFailed ends fine = absurd ends
complete number files files_after out after end.ScriptTooLong ends fine = absurd ends
complete number files files_after out after (end.BadScript fault) ends fine = absurd ends
complete number files files_after out after end.ImageFailed ends fine = absurd ends
complete number files files_after out after end.ImageTooLong ends fine = absurd ends
complete number files files_after out after (end.BadImage at kind sector) ends fine = absurd ends
complete number files files_after out after end.WriteFailed ends fine = absurd ends
