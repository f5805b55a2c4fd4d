-- By the law of runs: each good log is one that a run leads to.
use Rattle.ring_definitions.proofs.GoodLogs.{begins_good, stays_good, same_good, good_reads, good_ends}
use Rattle.ring_definitions.proofs.laws.good_logs_stay_good.Goals as goal

pub returns-clause-begin : goal.returns-clause-begin
returns-clause-begin c = begins_good

pub returns-clause-step : goal.returns-clause-step
returns-clause-step c = stays_good

pub returns-clause-same : goal.returns-clause-same
returns-clause-same c = same_good

pub returns-clause-reads : goal.returns-clause-reads
returns-clause-reads c = good_reads

pub returns-clause-ends : goal.returns-clause-ends
returns-clause-ends c = good_ends
