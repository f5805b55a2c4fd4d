-- By who is off.
use Rattle.core_histories.proofs.Stopping.{stops_stand}
use Rattle.core_histories.proofs.stops.stops_stand_for_what_was_said.Goals as goal

pub returns : goal.returns
returns c = record {
  stands = stops_stand c.the_disk_stands_for_the_history.ensures.stands c.stops_leave_what_lines_tell.ensures.lines c.stops_leave_what_lines_tell.ensures.closed c.phases_are_told.ensures.mounted
      c.phases_are_told.ensures.rest;
}
