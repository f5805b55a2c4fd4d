-- By the laws of first moments.
use Rattle.core_openings.proofs.Opened.{begin_runs}
use Rattle.core_openings.proofs.openings_begin_runs.Goals as goal

pub returns : goal.returns
returns c = record {
  begin =
      begin_runs c.opened_logs_are_zero.ensures.zero c.first_moments_are_worlds.ensures.first c.first_moments_are_worlds.ensures.good c.room_is_kept.ensures.first c.runs_of_lines_begin.ensures.first
      c.an_opening_begins_histories.ensures.first;
}
