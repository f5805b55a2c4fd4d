-- Nothing was done since.
use Rattle.core_log_marks.proofs.Accounting.{mounts_account}
use Rattle.core_log_marks.proofs.accounts.mounts_are_accounted_for.Goals as goal

pub returns : goal.returns
returns c = mounts_account
