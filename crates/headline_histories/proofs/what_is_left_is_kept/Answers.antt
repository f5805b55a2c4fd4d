-- By the laws of stops, with servers that were closed.
use Rattle.headline_histories.proofs.Left.{what_is_left_is_kept}
use Rattle.headline_histories.proofs.what_is_left_is_kept.Goals as goal

pub returns : goal.returns
returns c = record {
  kept = what_is_left_is_kept c.phases_are_told.ensures.mounted c.phases_are_told.ensures.rest c.a_stop_stands_by_the_lines.ensures.closed c.worlds_keep_what_they_began_with.ensures.disks
      c.what_is_witnessed_tells_the_run.ensures.lines c.what_is_witnessed_tells_the_run.ensures.disk c.stops_leave_what_lines_tell.ensures.lines c.recoveries_keep_what_is_known.ensures.stops
      c.histories_are_legal.ensures.stops c.closed_servers_keep_and_are_legal.ensures.kept c.closed_servers_keep_and_are_legal.ensures.legal c.stops_stand_for_what_was_said.ensures.stands
      c.the_logs_of_a_disk_are_meant.ensures.replayed;
}
