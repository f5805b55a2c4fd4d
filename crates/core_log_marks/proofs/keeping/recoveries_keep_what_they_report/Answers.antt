-- By what was read.
use Rattle.core_log_marks.proofs.Stops.{reports_keep}
use Rattle.core_log_marks.proofs.keeping.recoveries_keep_what_they_report.Goals as goal

pub returns : goal.returns
returns c = reports_keep c.tellings_settle_and_stand.ensures.settles
