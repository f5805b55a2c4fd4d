-- By the laws of histories that are told twice.
use Rattle.headline_histories.proofs.Moments.{live_is_kept}
use Rattle.headline_histories.proofs.the_live_history_is_kept.Goals as goal

pub returns : goal.returns
returns c = record {
  kept = live_is_kept c.worlds_keep_what_they_began_with.ensures.disks c.what_is_witnessed_tells_the_run.ensures.lines c.recoveries_keep_what_is_known.ensures.moments
      c.histories_are_legal.ensures.moments;
}
