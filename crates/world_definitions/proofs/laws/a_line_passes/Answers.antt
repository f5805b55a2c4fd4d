-- The law, as it is proved of changed lists.
use Rattle.world_definitions.proofs.Changing.{a_line_passes}
use Rattle.world_definitions.proofs.laws.a_line_passes.Goals as goal

pub returns : goal.returns
returns c = record { marked = a_line_passes }
