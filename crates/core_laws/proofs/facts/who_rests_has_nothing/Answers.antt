-- Event by event.
use Rattle.core_laws.proofs.Ashore.{ashore_of_run}
use Rattle.core_laws.proofs.Resting.{nothing_at_rest}
use Rattle.core_laws.proofs.facts.who_rests_has_nothing.Goals as goal

pub returns : goal.returns
returns c = record { nothing = nothing_at_rest; landed = ashore_of_run }
