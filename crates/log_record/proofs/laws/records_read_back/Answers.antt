-- By the laws of reading and writing.
use Rattle.log_record.proofs.RecordBack.{record_back}
use Rattle.log_record.proofs.RecordRead.{record_read, record_once}
use Rattle.log_record.proofs.laws.records_read_back.Goals as goal

pub returns-clause-back : goal.returns-clause-back
returns-clause-back c = record_back

pub returns-clause-read : goal.returns-clause-read
returns-clause-read c = record_read

pub returns-clause-once : goal.returns-clause-once
returns-clause-once c = record_once
