-- The sectors that are kept as wanted are the definition's.
use Rattle.std.proofs.Common.{ap, ◌∙◌}
use Rattle.std.specs.Map.{keys_of}
use Rattle.host_tree.specs.Reading.{needed}
use Rattle.host_tree.proofs.WantedSectors.{wanted_is}
use Rattle.host_tree.proofs.tree_sectors.TreeSectors.needed.Goals as goal

pub returns : goal.returns
returns c =
    let i = c.self.inside in
    ap keys_of c.chunks.ensures ∙ wanted_is i.segments i.blocks.entries i.wanted.entries c.self.invariant.1 ∙ ap (λ t. needed t.segments t.read) c.self.view_is
