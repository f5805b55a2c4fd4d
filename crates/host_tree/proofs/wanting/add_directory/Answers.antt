-- What is no inode in use shows no sectors.
use Rattle.std.proofs.Common.{◌≡◌, Some, None, sym, ap, ◌∙◌, subst}
use Rattle.std.specs.Option.{option_map}
use Rattle.disk_definitions.specs.Inodes.{inode_in}
use Rattle.disk_definitions.specs.Store.{stored, stored_node}
use Rattle.core_definitions.specs.Trees.{directory_sectors}
use Rattle.host_tree.specs.Wanting.{Adds}
use Rattle.host_tree.proofs.AddedSectors.{added_none}
use Rattle.host_tree.proofs.wanting.add_directory.Goals as goal

pub returns-in-Some : goal.returns-in-Some
returns-in-Some c =
    let is : Some (stored c.in-Some.inode) ≡ stored_node (inode_in c.args.block.now) = sym (ap (option_map stored) c.in-Some.is) ∙ c.used_inode.ensures.is in
    subst (λ o. Adds c.args.read.now.entries (directory_sectors o) c.args.wanted.now.entries c.add_blocks_of.new.wanted.entries) is c.add_blocks_of.ensures

pub returns-in-None : goal.returns-in-None
returns-in-None c =
    let is : None ≡ stored_node (inode_in c.args.block.now) = sym (ap (option_map stored) c.in-None.is) ∙ c.used_inode.ensures.is in
    subst (λ o. Adds c.args.read.now.entries (directory_sectors o) c.args.wanted.now.entries c.args.wanted.now.entries) is (added_none c.args.read.now.entries c.args.wanted.now.entries)
