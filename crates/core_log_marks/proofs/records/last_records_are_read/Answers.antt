-- By the chain of records.
use Rattle.core_log_marks.proofs.LastRecords.{last_records_are_read}
use Rattle.core_log_marks.proofs.records.last_records_are_read.Goals as goal

pub returns : goal.returns
returns c = last_records_are_read
