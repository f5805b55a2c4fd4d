-- The map has one more.
use Rattle.std.proofs.Common.{ap, ◌∙◌}
use Rattle.sector_bytes.specs.SectorMaps.{with_value}
use Rattle.world_list.specs.Wanting.{SectorSet}
use Rattle.world_list.proofs.Joining.{joins_one}
use Rattle.world_list.proofs.gathering.join.Goals as goal

pub returns : goal.returns
returns c =
    joins_one c.args.sectors.now.entries c.put.new.self.entries c.args.sector.0 (c.put.ensures.entries ∙ ap (λ (es : SectorSet). with_value es c.args.sector.0 tt) c.reserve.ensures.entries)
