-- By the laws on removals.
use Rattle.sector_world.specs.Histories.{survives}
use Rattle.sector_world.proofs.Plans.{legal_kept}
use Rattle.sector_world.proofs.Seen.{clear_survives}
use Rattle.sector_world.proofs.Bytes.{agree_kept}
use Rattle.sector_world.proofs.histories.removed_unseen.Goals as goal

pub returns-clause-legal : goal.returns-clause-legal
returns-clause-legal c = λ plan frame opening d k h ops u l. legal_kept plan opening (survives d k) frame h (clear_survives d k h ops u) l

pub returns-clause-agree : goal.returns-clause-agree
returns-clause-agree c = λ first d k h ops u g. agree_kept first d k h ops u g
