-- The sector's box is taken out.
use Rattle.std.proofs.Common.{ap, sym, ◌∙◌, subst}
use Rattle.std.specs.Box.{box_value}
use Rattle.sector_bytes.specs.SectorMaps.{Ascend, without}
use Rattle.sector_bytes.proofs.MapLaws.{ascend_without}
use Rattle.meta_version.specs.Boxes.{opened}
use Rattle.meta_version.proofs.Opening.{opened-without}
use Rattle.meta_version.proofs.sectors.Sectors.remove_near.Goals as goal

pub invariant_of-self : goal.invariant_of-self
invariant_of-self c =
    subst Ascend (sym (ap (λ entries. opened entries box_value) c.take_near.ensures.entries ∙ opened-without box_value c.self.inside.blocks.entries c.args.sector.0))
    (ascend_without c.args.sector.0 (opened c.self.inside.blocks.entries box_value) c.self.invariant)

pub returns-clause-entries : goal.returns-clause-entries
returns-clause-entries c =
    ap (λ entries. opened entries box_value) c.take_near.ensures.entries
    ∙ opened-without box_value c.self.inside.blocks.entries c.args.sector.0
    ∙ ap (λ map. without map.entries c.args.sector.0) c.self.view_is
