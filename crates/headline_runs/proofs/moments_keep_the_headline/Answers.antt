-- Each part by its law.
use Rattle.headline_runs.proofs.Moments.{moments_keep}
use Rattle.headline_runs.proofs.moments_keep_the_headline.Goals as goal

pub returns : goal.returns
returns c = record {
  moments = moments_keep (record {
    lines = c.what_is_witnessed_tells_the_run.ensures.lines;
    live = c.the_live_history_is_kept.ensures.kept;
    left = c.what_logs_leave_is_kept.ensures.kept;
    closed = c.closed_servers_keep_what_their_logs_have.ensures.closed;
    durable = c.logs_keep_what_is_durable.ensures;
    greatest = c.recoveries_say_the_greatest.ensures.runs;
    order = c.writes_are_in_order.ensures.order;
    counted = c.first_moments_stand.ensures.opened;
    whole = c.runs_say_whole_transcripts.ensures.read;
    stand = c.trees_stand_as_told.ensures.world;
    behind = c.a_disk_stands_behind_its_logs.ensures.stands;
  });
}
