-- Event by event.
use Rattle.core_recoveries.proofs.Stepping.{recoveries_go_on}
use Rattle.core_recoveries.proofs.steps.recoveries_go_on.Goals as goal

pub returns : goal.returns
returns c = record {
  steps = recoveries_go_on c.begins_are_events.ensures.begin c.loads_are_none.ensures.load c.looks_are_events.ensures.look c.failed_reads_are_events.ensures.load c.failed_reads_are_events.ensures.look
      c.finishes_lead_on.ensures.finish c.good_logs_stay_good.ensures.ends c.one_recovery_is_under_way.ensures.dead c.who_rests_has_nothing.ensures.nothing;
}
