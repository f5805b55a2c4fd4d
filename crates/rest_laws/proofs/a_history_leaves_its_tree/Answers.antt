-- By the sectors with versions and the known cells.
use Rattle.rest_laws.proofs.Leaving.{histories_leave_their_tree}
use Rattle.rest_laws.proofs.a_history_leaves_its_tree.Goals as goal

pub returns : goal.returns
returns c = record { leaves = histories_leave_their_tree }
