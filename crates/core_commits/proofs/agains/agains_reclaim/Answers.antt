-- Reclaim.
use Rattle.core_commits.proofs.Reclaiming.{agains_reclaim}
use Rattle.core_commits.proofs.agains.agains_reclaim.Goals as goal

pub returns : goal.returns
returns c = record { reclaim = agains_reclaim }
