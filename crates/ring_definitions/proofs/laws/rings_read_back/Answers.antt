-- What is true of a ring behind a sealed log stays true at every event, and says where its log ends and what it reads as.
use Rattle.ring_definitions.proofs.GoodLogs.{run_reads, run_ends}
use Rattle.ring_definitions.proofs.laws.rings_read_back.Goals as goal

pub returns-clause-reads : goal.returns-clause-reads
returns-clause-reads c slots events low high sealed may = run_reads slots events low high sealed may

pub returns-clause-ends : goal.returns-clause-ends
returns-clause-ends c slots events low high sealed may = run_ends slots events low high sealed may
