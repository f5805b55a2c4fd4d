-- Step by step, and as no server is mounted at first.
use Rattle.core_log_steps.proofs.First.{first_stands, opened_stands}
use Rattle.core_log_steps.proofs.Standing.{logs_stand_along, runs_have_journals}
use Rattle.core_log_steps.proofs.steps.logs_stand_along_runs.Goals as goal

pub returns : goal.returns
returns c = record {
  along = logs_stand_along c.logs_go_on.ensures.step;
  named = runs_have_journals;
  first = first_stands c.first_moments_are_worlds.ensures.first c.logs_stand_good.ensures.begin c.logs_have_room.ensures.first;
  opening = opened_stands c.the_opening_puts_the_disk.ensures.logs (first_stands c.first_moments_are_worlds.ensures.first c.logs_stand_good.ensures.begin c.logs_have_room.ensures.first);
}
