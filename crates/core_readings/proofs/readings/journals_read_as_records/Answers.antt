-- By records that ascend.
use Rattle.core_readings.proofs.Reading.{journal_reads}
use Rattle.core_readings.proofs.readings.journals_read_as_records.Goals as goal

pub returns : goal.returns
returns c = journal_reads
