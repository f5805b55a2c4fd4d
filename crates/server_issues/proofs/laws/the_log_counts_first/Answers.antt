-- The law, as it is proved of lists.
use Rattle.server_issues.proofs.Overlay.{the_log_counts_first}
use Rattle.server_issues.proofs.laws.the_log_counts_first.Goals as goal

pub returns : goal.returns
returns c = record { found = the_log_counts_first }
