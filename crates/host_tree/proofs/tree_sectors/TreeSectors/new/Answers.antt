-- At first the root's inode is wanted.
use Rattle.std.proofs.Common.{[], sym, subst}
use Rattle.host_tree.specs.Wanting.{AreWanted}
use Rattle.host_tree.proofs.WantedSectors.{root_wanted}
use Rattle.host_tree.proofs.tree_sectors.TreeSectors.new.Goals as goal

pub invariant_of-result : goal.invariant_of-result
invariant_of-result c =
    (c.requires, subst (λ read. AreWanted c.args.segments read c.in_ok-root_alone.field-0.entries) (sym c.new.ensures) (subst (AreWanted c.args.segments []) (sym c.in_ok-root_alone.ensures) (root_wanted c.args.segments)))
