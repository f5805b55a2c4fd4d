-- Line by line.
use Rattle.line_locks.proofs.AtHand.{finish_locks_found, clear_locks_found}
use Rattle.line_locks.proofs.Numbers.{numbers_tell}
use Rattle.line_locks.proofs.locks_of_lines_are_found.Goals as goal

pub returns : goal.returns
returns c = record { finished = finish_locks_found; cleared = clear_locks_found; nodes = numbers_tell }
