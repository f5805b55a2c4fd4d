-- Each of the trees becomes the one that is read.
use Rattle.standing_laws.proofs.OneTree.{stands_for_one}
use Rattle.standing_laws.proofs.standing.a_disk_stands_for_one_tree.Goals as goal

pub returns : goal.returns
returns c = record { one = stands_for_one }
