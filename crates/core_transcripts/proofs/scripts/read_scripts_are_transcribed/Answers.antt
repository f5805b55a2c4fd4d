-- A script that was read is numbered.
use Rattle.core_transcripts.proofs.scripts.read_scripts_are_transcribed.Goals as goal

pub returns : goal.returns
returns c = record {
  transcripts = λ bytes setting disk s run faults opening e tell.
      c.records_are_transcripts.ensures.transcripts setting disk s run faults opening (c.read_scripts_are_numbered.ensures.numbered bytes setting.script e) tell;
  within = λ bytes setting disk s run opening rise e counts.
      c.runs_are_within_their_faults.ensures.within setting disk s run opening rise (c.read_scripts_are_numbered.ensures.numbered bytes setting.script e) counts;
}
