-- By what stands on the disk.
use Rattle.core_log_marks.proofs.Stops.{logs_keep}
use Rattle.core_log_marks.proofs.keeping.logs_keep_what_is_durable.Goals as goal

pub returns : goal.returns
returns c = logs_keep c.tellings_settle_and_stand.ensures.settles c.logs_read_as_their_journals.ensures.reads
