-- No entries ascend.
use Rattle.std.proofs.Common.{sym, subst}
use Rattle.sector_bytes.specs.SectorMaps.{Ascend}
use Rattle.meta_version.proofs.SectorPlaces.{ascend_none}
use Rattle.meta_version.proofs.sector_map.SectorMap.new.Goals as goal

pub invariant_of-result : goal.invariant_of-result
invariant_of-result g c = subst Ascend (sym c.new.ensures.items) (ascend_none g.row.T.Denot)
