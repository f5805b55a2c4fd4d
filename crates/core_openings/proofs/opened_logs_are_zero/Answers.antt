-- An opening says it of all logs.
use Rattle.core_openings.proofs.Opened.{zero_logs}
use Rattle.core_openings.proofs.opened_logs_are_zero.Goals as goal

pub returns : goal.returns
returns c = record { zero = zero_logs }
