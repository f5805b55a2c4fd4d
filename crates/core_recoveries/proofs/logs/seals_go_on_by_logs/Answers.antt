-- Log by log.
use Rattle.core_recoveries.proofs.SealJournals.{seals_arrive_by_logs, seals_fail_by_logs}
use Rattle.core_recoveries.proofs.logs.seals_go_on_by_logs.Goals as goal

pub returns : goal.returns
returns c = record {
  arrive = seals_arrive_by_logs c.leases_last.ensures.end c.seals_are_of_journals.ensures.arrive;
  fail = seals_fail_by_logs c.leases_last.ensures.end c.seals_are_of_journals.ensures.fail;
}
