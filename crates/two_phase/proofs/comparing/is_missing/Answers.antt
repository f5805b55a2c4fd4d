-- What is lent is there where it is cached.
use Rattle.std.proofs.Common.{Bor}
use Rattle.sector_bytes.specs.Blocks.{Block}
use Rattle.sector_bytes.specs.SectorMaps.{value_at}
use Rattle.two_phase.proofs.Standing.{absent_as}
use Rattle.two_phase.proofs.comparing.is_missing.Goals as goal

pub returns : goal.returns
returns g c =
    let now : Bor Block → Block = λ lent. lent.now in
    absent_as now c.block.result (value_at (g.C.CachedBlocks.cached c.args.sectors.now) c.args.one.now.sector.0) c.is_none.result c.block.ensures c.is_none.ensures
