-- By the laws of first moments.
use Rattle.core_log_marks.proofs.Meeting.{first_moments_are_accounted}
use Rattle.core_log_marks.proofs.examples.first_moments_are_accounted.Goals as goal

pub returns : goal.returns
returns c = first_moments_are_accounted c.logs_begin_beside.ensures c.accounts_begin.ensures c.reports_are_of_journals.ensures.begin
