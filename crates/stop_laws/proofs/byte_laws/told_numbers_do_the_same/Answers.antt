-- Outcome by outcome.
use Rattle.stop_laws.proofs.BytesTold.{told_same}
use Rattle.stop_laws.proofs.byte_laws.told_numbers_do_the_same.Goals as goal

pub returns : goal.returns
returns c = record { told = told_same }
