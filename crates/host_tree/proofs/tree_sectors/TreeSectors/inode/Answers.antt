-- An inode of the segments is what its sector says, and past them there is none.
use Rattle.std.proofs.Common.{◌≡◌, ◌<◌, ◌≤◌, ◌*◌, sym, ap, ◌∙◌, arith, rules}
use Rattle.std.proofs.lemmas.Grind.{common_steps}
use Rattle.sector_bytes.specs.Sectors.{sectors_of}
use Rattle.disk_definitions.specs.declared.region.Region.TheVariants as region
use Rattle.disk_definitions.specs.Inodes.{inode_in}
use Rattle.disk_definitions.specs.Regions.{sector_of}
use Rattle.disk_definitions.specs.Store.{stored_node}
use Rattle.host_tree.specs.Reading.{store_read}
use Rattle.host_tree.proofs.StoreRead.{inode_said, past_inode}
use Rattle.host_tree.proofs.tree_sectors.TreeSectors.inode.Goals as goal

pub returns-then-number-from-clause-is : goal.returns-then-number-from-clause-is
returns-then-number-from-clause-is c =
    let i = c.self.inside in
    let past : 64 * i.segments ≤ c.args.number = first_of (search rules, grind (arith, common_steps)) in
    past_inode i.segments i.blocks.entries c.args.number past ∙ ap (λ t. (store_read t.segments t.read).inode c.args.number) c.self.view_is

pub returns-clause-is : goal.returns-clause-is
returns-clause-is c =
    let i = c.self.inside in
    let inside : c.args.number < 64 * i.segments = first_of (search rules, grind (arith, common_steps)) in
    let at : c.sector_of.result.0 ≡ sector_of (region.Inode c.args.number) = first_of (search rules, grind (arith, common_steps), cc) in
    c.used_inode.ensures.is ∙ ap (λ b. stored_node (inode_in b)) (c.block.ensures ∙ ap (λ t. sectors_of t.read c.sector_of.result.0) (sym c.self.view_is) ∙ ap (sectors_of i.blocks.entries) at)
    ∙ inode_said i.segments i.blocks.entries c.args.number inside ∙ ap (λ t. (store_read t.segments t.read).inode c.args.number) c.self.view_is
