-- By the laws of good logs and of sealing.
use Rattle.core_journals.proofs.ReadingAs.{log_reads, log_slots}
use Rattle.core_journals.proofs.logs.logs_read_as_their_journals.Goals as goal

pub returns : goal.returns
returns c = record { reads = log_reads; slots = log_slots }
