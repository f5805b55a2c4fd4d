-- By what is read of the logs, and what stands of them at an end.
use Rattle.core_recoveries.proofs.ByLogs.{go_on_by_logs, logs_give}
use Rattle.core_recoveries.proofs.logs.recoveries_go_on_by_logs.Goals as goal

pub returns : goal.returns
returns c = record {
  asked = logs_give c.last_loads_are_read.ensures c.finished_logs_rest.ensures c.resting_is_replayed.ensures c.one_recovery_is_under_way.ensures.one c.one_recovery_is_under_way.ensures.dead
      c.who_rests_has_nothing.ensures.nothing c.a_recovery_ends_once_it_is_done.ensures.done;
  steps = go_on_by_logs c.last_loads_are_read.ensures c.finished_logs_rest.ensures c.resting_is_replayed.ensures c.one_recovery_is_under_way.ensures.one c.one_recovery_is_under_way.ensures.dead
      c.who_rests_has_nothing.ensures.nothing c.a_recovery_ends_once_it_is_done.ensures.done c.recoveries_go_on.ensures.steps;
}
