-- With a record and without one.
use Rattle.core_log_marks.proofs.Accounting.{commits_account, operations_account}
use Rattle.core_log_marks.proofs.accounts.commits_are_accounted_for.Goals as goal

pub returns : goal.returns
returns c = record { operation = operations_account; commit = commits_account }
