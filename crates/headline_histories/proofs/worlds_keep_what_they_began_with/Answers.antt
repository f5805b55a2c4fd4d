-- By the disk of the opening.
use Rattle.headline_histories.proofs.Starts.{events_keep_starts, first_moments_begin_so, runs_keep_starts, worlds_are_over_counted_disks}
use Rattle.headline_histories.proofs.worlds_keep_what_they_began_with.Goals as goal

pub returns : goal.returns
returns c = record {
  events = events_keep_starts;
  runs = runs_keep_starts;
  first = first_moments_begin_so;
  disks = worlds_are_over_counted_disks c.an_opening_begins_histories.ensures.first;
}
