-- Sets.
use Rattle.core_commits.proofs.Reclaiming.{growths_are_none, moves_are_none}
use Rattle.core_commits.proofs.agains.agains_of_sets_are_none.Goals as goal

pub returns : goal.returns
returns c = record { moved = moves_are_none; grown = growths_are_none }
