-- A sector that is older than the change is there.
use Rattle.std.proofs.Common.{is_some, ap, sym, ◌∙◌, subst}
use Rattle.std.specs.Box.{box_value}
use Rattle.sector_bytes.specs.Changes.{changed}
use Rattle.sector_bytes.specs.SectorMaps.{Ascend, value_at}
use Rattle.sector_bytes.proofs.MapLaws.{ascend_adjusted}
use Rattle.meta_version.specs.Boxes.{opened}
use Rattle.meta_version.specs.Updates.{with_change}
use Rattle.meta_version.proofs.Opening.{older_there, some-opened}
use Rattle.meta_version.proofs.sectors.Sectors.change.Goals as goal

pub lay_over-requires-clause-there : goal.lay_over-requires-clause-there
lay_over-requires-clause-there c =
    let sector = c.args.change.now.sector.0 in
    sym (some-opened box_value c.self.inside.blocks.entries sector) ∙ ap (λ map. is_some (value_at map.entries sector)) c.self.view_is
    ∙ older_there (value_at c.args.self.now.entries sector) c.args.change.now c.requires.older

pub lay_over-requires-clause-ordered : goal.lay_over-requires-clause-ordered
lay_over-requires-clause-ordered c = c.self.invariant

pub invariant_of-self : goal.invariant_of-self
invariant_of-self c =
    subst Ascend (sym c.lay_over.ensures.entries)
    (ascend_adjusted (λ block. changed block c.args.change.now) (opened c.self.inside.blocks.entries box_value) c.args.change.now.sector.0 c.self.invariant)

pub returns-clause-entries : goal.returns-clause-entries
returns-clause-entries c = c.lay_over.ensures.entries ∙ ap (λ map. with_change map.entries c.args.change.now) c.self.view_is
