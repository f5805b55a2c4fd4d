-- Step by step.
use Rattle.core_transcripts.proofs.Rising.{run_has_its_faults}
use Rattle.core_transcripts.proofs.records.runs_have_their_faults.Goals as goal

pub returns : goal.returns
returns c = record { theirs = run_has_its_faults }
