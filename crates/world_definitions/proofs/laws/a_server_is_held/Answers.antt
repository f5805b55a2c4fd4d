-- The law, as it is proved of changed lists.
use Rattle.world_definitions.proofs.Changing.{a_server_is_held}
use Rattle.world_definitions.proofs.laws.a_server_is_held.Goals as goal

pub returns : goal.returns
returns c = record { marked = a_server_is_held }
