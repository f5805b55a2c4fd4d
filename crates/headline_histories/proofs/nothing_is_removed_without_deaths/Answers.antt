-- By the transcript.
use Rattle.headline_histories.proofs.Deaths.{deathless_stay}
use Rattle.headline_histories.proofs.Rest.{nothing_removed}
use Rattle.headline_histories.proofs.nothing_is_removed_without_deaths.Goals as goal

pub returns : goal.returns
returns c = record {
  transcripts = deathless_stay;
  runs = nothing_removed c.read_scripts_are_transcribed.ensures.transcripts c.runs_have_their_faults.ensures.theirs c.what_is_witnessed_tells_the_run.ensures.lines;
}
