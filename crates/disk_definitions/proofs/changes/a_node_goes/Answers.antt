-- By the lemmas over plain variables.
use Rattle.disk_definitions.proofs.DropNode.{dropped_nodes_go}
use Rattle.disk_definitions.proofs.Freeing.{edits_drop, nodes_go}
use Rattle.disk_definitions.proofs.changes.a_node_goes.Goals as goal

pub returns-clause-values : goal.returns-clause-values
returns-clause-values c = dropped_nodes_go

pub returns-clause-edits : goal.returns-clause-edits
returns-clause-edits c = edits_drop

pub returns-clause-goes : goal.returns-clause-goes
returns-clause-goes c = nodes_go
