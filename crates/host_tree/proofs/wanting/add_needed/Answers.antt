-- A sector in no region shows none.
use Rattle.std.proofs.Common.{sym, ◌∙◌, subst}
use Rattle.core_definitions.specs.Trees.{shown_by}
use Rattle.host_tree.specs.Reading.{needed_by}
use Rattle.host_tree.specs.Wanting.{Adds}
use Rattle.host_tree.proofs.AddedSectors.{added_none}
use Rattle.host_tree.proofs.wanting.add_needed.Goals as goal

pub returns-in-Some : goal.returns-in-Some
unfolding needed_by
returns-in-Some c =
    subst (λ r. Adds c.args.read.now.entries (shown_by r c.args.block.now) c.args.wanted.now.entries c.add_shown.new.wanted.entries) (sym c.in-Some.is ∙ c.region_of.ensures) c.add_shown.ensures

pub returns-in-None : goal.returns-in-None
unfolding needed_by
returns-in-None c =
    subst (λ r. Adds c.args.read.now.entries (shown_by r c.args.block.now) c.args.wanted.now.entries c.args.wanted.now.entries) (sym c.in-None.is ∙ c.region_of.ensures)
    (added_none c.args.read.now.entries c.args.wanted.now.entries)
