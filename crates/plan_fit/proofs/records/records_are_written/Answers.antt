-- By the lemmas over plain variables.
use Rattle.plan_fit.proofs.DiskLaws.{written}
use Rattle.plan_fit.proofs.records.records_are_written.Goals as goal

pub returns : goal.returns
returns c = record { written = written }
