-- By the law of whole transcripts.
use Rattle.opening_examples.proofs.Whole.{says_whole}
use Rattle.opening_examples.proofs.runs.an_empty_script_says_a_whole_transcript.Goals as goal

pub returns : goal.returns
returns c = record {
  whole =
      says_whole c.an_empty_script_reads_the_tree.ensures.reads c.runs_have_their_faults.ensures.theirs c.runs_say_whole_transcripts.ensures.whole c.each_start_is_an_opening.ensures.fresh;
}
