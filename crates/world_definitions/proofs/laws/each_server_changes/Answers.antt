-- The law, as it is proved of changed lists.
use Rattle.world_definitions.proofs.Changing.{each_server_changes}
use Rattle.world_definitions.proofs.laws.each_server_changes.Goals as goal

pub returns : goal.returns
returns c = record { changed = each_server_changes }
