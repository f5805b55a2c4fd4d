-- The law, as it is proved of changed lists.
use Rattle.world_definitions.proofs.Changing.{the_host_changes}
use Rattle.world_definitions.proofs.laws.the_host_changes.Goals as goal

pub returns : goal.returns
returns c = record { changed = the_host_changes }
