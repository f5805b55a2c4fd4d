-- What the sector's box holds.
use Rattle.std.proofs.Common.{Some, ap, sym, ◌∙◌}
use Rattle.std.specs.Option.{option_map}
use Rattle.std.specs.Box.{box_value}
use Rattle.sector_bytes.specs.SectorMaps.{value_at}
use Rattle.meta_version.proofs.Opening.{value_at-opened}
use Rattle.meta_version.proofs.sectors.Sectors.find.Goals as goal

pub returns-in-Some : goal.returns-in-Some
returns-in-Some c =
    ap Some c.deref.ensures ∙ ap (option_map box_value) c.in-Some.ensures
    ∙ sym (value_at-opened box_value c.self.inside.blocks.entries c.args.sector.0) ∙ ap (λ map. value_at map.entries c.args.sector.0) c.self.view_is

pub returns-in-None : goal.returns-in-None
returns-in-None c =
    ap (option_map box_value) c.in-None.ensures
    ∙ sym (value_at-opened box_value c.self.inside.blocks.entries c.args.sector.0) ∙ ap (λ map. value_at map.entries c.args.sector.0) c.self.view_is
