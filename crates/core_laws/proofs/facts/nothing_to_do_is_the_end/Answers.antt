-- By Tick.
use Rattle.core_laws.proofs.Ending.{nothing_left}
use Rattle.core_laws.proofs.facts.nothing_to_do_is_the_end.Goals as goal

pub returns : goal.returns
returns c = record { end = nothing_left }
