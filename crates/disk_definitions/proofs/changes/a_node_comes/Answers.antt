-- By the lemmas over plain variables.
use Rattle.disk_definitions.proofs.NewNode.{nodes_come}
use Rattle.disk_definitions.proofs.changes.a_node_comes.Goals as goal

pub returns : goal.returns
returns c = record { comes = nodes_come }
