-- No sectors ascend.
use Rattle.std.proofs.Common.{sym, subst}
use Rattle.std.specs.Box.{box_value}
use Rattle.sector_bytes.specs.Blocks.{Block}
use Rattle.sector_bytes.specs.SectorMaps.{Ascend}
use Rattle.meta_version.specs.Boxes.{opened}
use Rattle.meta_version.proofs.SectorPlaces.{ascend_none}
use Rattle.meta_version.proofs.sectors.Sectors.new.Goals as goal

pub invariant_of-result : goal.invariant_of-result
invariant_of-result c = subst (λ entries. Ascend (opened entries box_value)) (sym c.new.ensures.entries) (ascend_none Block)
