-- By the guard of Issue.
use Rattle.core_laws.proofs.Timing.{in_window}
use Rattle.core_laws.proofs.facts.a_log_write_keeps_the_window.Goals as goal

pub returns : goal.returns
returns u = record { window = λ c a sector write number can e f. in_window c a sector write number can.can e f }
