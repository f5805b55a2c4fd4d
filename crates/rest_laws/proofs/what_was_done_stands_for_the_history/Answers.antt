-- Along the history cells are known.
use Rattle.rest_laws.proofs.Done.{what_was_done_stands}
use Rattle.rest_laws.proofs.what_was_done_stands_for_the_history.Goals as goal

pub returns : goal.returns
returns c = record { stands = what_was_done_stands }
