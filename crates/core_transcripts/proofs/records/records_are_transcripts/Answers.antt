-- Step by step.
use Rattle.core_transcripts.proofs.Running.{said_of_run}
use Rattle.core_transcripts.proofs.records.records_are_transcripts.Goals as goal

pub returns : goal.returns
returns c = record {
  transcripts = λ setting disk s run faults opening numbered tell. said_of_run opening setting disk numbered faults tell.stay c.who_rests_has_nothing.ensures.landed s run tell.counted;
}
