-- The journals go on, and the rest is none.
use Rattle.core_log_writes.proofs.Issuing.{log_issues_go_on}
use Rattle.core_log_writes.proofs.issues.log_writes_are_issued.Goals as goal

pub returns : goal.returns
returns c = log_issues_go_on c.a_log_write_keeps_the_window.ensures.window
