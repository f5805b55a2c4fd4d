-- A sector that is kept as wanted is one of the definition's.
use Rattle.std.proofs.Common.{is_some, ap, ◌∙◌}
use Rattle.frang_base.specs.Functions.{member}
use Rattle.host_tree.specs.Reading.{needed}
use Rattle.host_tree.proofs.tree_sectors.TreeSectors.needs.Goals as goal

pub returns-in-Some : goal.returns-in-Some
returns-in-Some c = ap is_some c.in-Some.ensures ∙ c.self.invariant.1.are c.args.sector.0 ∙ ap (λ t. member c.args.sector.0 (needed t.segments t.read)) c.self.view_is

pub returns-in-None : goal.returns-in-None
returns-in-None c = ap is_some c.in-None.ensures ∙ c.self.invariant.1.are c.args.sector.0 ∙ ap (λ t. member c.args.sector.0 (needed t.segments t.read)) c.self.view_is
