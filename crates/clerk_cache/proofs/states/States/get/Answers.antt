-- What is kept ascends by sector.
use Rattle.std.proofs.Common.{subst}
use Rattle.sector_bytes.specs.SectorMaps.{Ascend}
use Rattle.clerk_cache.proofs.states.States.get.Goals as goal

pub returns-clause-ordered : goal.returns-clause-ordered
returns-clause-ordered c = subst (λ map. Ascend map.entries) c.self.view_is c.self.invariant.ascend
