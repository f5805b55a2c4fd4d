-- There are as many boxes as sectors.
use Rattle.std.proofs.Common.{length, ap, sym, ◌∙◌, subst}
use Rattle.std.specs.Box.{box_value}
use Rattle.sector_bytes.specs.SectorMaps.{Ascend}
use Rattle.meta_version.proofs.Opening.{length-opened}
use Rattle.meta_version.proofs.sectors.Sectors.count.Goals as goal

pub returns-clause-count : goal.returns-clause-count
returns-clause-count c = c.count.ensures.count ∙ sym (length-opened box_value c.self.inside.blocks.entries) ∙ ap (λ map. length map.entries) c.self.view_is

pub returns-clause-ordered : goal.returns-clause-ordered
returns-clause-ordered c = subst (λ map. Ascend map.entries) c.self.view_is c.self.invariant
