-- Entry by entry.
use Rattle.core_log_marks.proofs.Accounting.{accounts_stay}
use Rattle.core_log_marks.proofs.accounts.accounts_stay.Goals as goal

pub returns : goal.returns
returns c = accounts_stay
