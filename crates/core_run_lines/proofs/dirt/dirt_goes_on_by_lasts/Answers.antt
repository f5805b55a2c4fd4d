-- Step by step.
use Rattle.core_run_lines.proofs.Dirty.{dirt_on}
use Rattle.core_run_lines.proofs.dirt.dirt_goes_on_by_lasts.Goals as goal

pub returns : goal.returns
returns c = record {
  part = dirt_on
      (record {
        nothing = c.who_rests_has_nothing.ensures.nothing;
        dead = c.one_recovery_is_under_way.ensures.dead;
        marks = c.quiet_events_leave_marks.ensures.keep;
        ends = c.quiet_events_leave_marks.ensures.on;
        reached = c.lasts_stay_settled.ensures.reached;
      });
}
