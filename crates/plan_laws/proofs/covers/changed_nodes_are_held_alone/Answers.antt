-- Operation by operation.
use Rattle.plan_laws.proofs.AllChanged.{changed_held}
use Rattle.plan_laws.proofs.covers.changed_nodes_are_held_alone.Goals as goal

pub returns : goal.returns
returns c = record { alone = changed_held }
