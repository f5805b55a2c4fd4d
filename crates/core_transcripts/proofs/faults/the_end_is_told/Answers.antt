-- Step by step.
use Rattle.std.proofs.Common.{◌||◌}
use Rattle.tree_definitions.specs.History.{fresh_opening}
use Rattle.tree_definitions.specs.Transcript.{is_over}
use Rattle.core_definitions.specs.Scripts.{host_party}
use Rattle.core_definitions.specs.Guards.{has_line_at_gate}
use Rattle.core_definitions.specs.Runs.{first_state, saids_of}
use Rattle.core_transcripts.specs.Faults.{has_failed}
use Rattle.core_transcripts.proofs.Ending.{clock_ends, end_told, nothing_told}
use Rattle.core_transcripts.proofs.faults.the_end_is_told.Goals as goal

pub returns : goal.returns
returns c = record {
  over = λ setting disk s run numbered. end_told (fresh_opening 0) setting disk numbered c.who_rests_has_nothing.ensures.landed s run;
  clock = clock_ends;
  nothing = λ setting disk s run numbered empty.
      nothing_told s.core.over (is_over setting.script (saids_of s.record_) || has_failed (first_state setting disk) s run host_party) (has_line_at_gate s.core) s.core.now
      (clock_ends setting disk s run) (end_told (fresh_opening 0) setting disk numbered c.who_rests_has_nothing.ensures.landed s run) (c.nothing_to_do_is_the_end.ensures.end s.core empty);
}
