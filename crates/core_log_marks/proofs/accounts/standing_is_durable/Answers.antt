-- By what each log reads as.
use Rattle.core_log_marks.proofs.Standing.{standing_is_durable}
use Rattle.core_log_marks.proofs.accounts.standing_is_durable.Goals as goal

pub returns : goal.returns
returns c = standing_is_durable c.logs_read_as_their_journals.ensures.reads
