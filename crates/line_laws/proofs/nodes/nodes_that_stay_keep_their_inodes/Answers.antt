-- By the naming of the plan, and what the disk tells.
use Rattle.line_laws.proofs.NodeLaws.{nodes_keep, line_nodes_keep}
use Rattle.line_laws.proofs.nodes.nodes_that_stay_keep_their_inodes.Goals as goal

pub returns : goal.returns
returns c = record { plans = nodes_keep; lines = line_nodes_keep }
