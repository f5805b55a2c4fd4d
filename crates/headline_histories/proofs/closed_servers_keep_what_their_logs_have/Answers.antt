-- By the lines, and by what the log has.
use Rattle.headline_histories.proofs.Closed.{closed_keep}
use Rattle.headline_histories.proofs.closed_servers_keep_what_their_logs_have.Goals as goal

pub returns : goal.returns
returns c = record {
  closed = closed_keep c.tellings_settle_and_stand.ensures.settles c.read_scripts_are_transcribed.ensures.transcripts c.runs_have_their_faults.ensures.theirs
      c.worlds_keep_what_they_began_with.ensures.disks c.what_is_witnessed_tells_the_run.ensures.lines;
}
