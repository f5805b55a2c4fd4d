-- The law, as it is proved of changed lists.
use Rattle.world_definitions.proofs.Changing.{the_first_is_first}
use Rattle.world_definitions.proofs.laws.the_first_is_first.Goals as goal

pub returns : goal.returns
returns c = record { first = the_first_is_first }
