-- One block more.
use Rattle.std.proofs.Common.{◌≡◌, slice_index, subst, arith, rules}
use Rattle.std.proofs.lemmas.Grind.{common_steps}
use Rattle.core_definitions.specs.Trees.{block_sectors}
use Rattle.host_tree.specs.Wanting.{Adds}
use Rattle.host_tree.proofs.AddedSectors.{flat_more}
use Rattle.host_tree.proofs.wanting.add_blocks.Goals as goal

pub loop-i-preserved : goal.loop-i-preserved
loop-i-preserved c =
    let read = c.args.read.now.entries in
    let small = slice_index c.args.inode.now.small in
    let i = c.loop-i.i in
    let at : c.from.result ≡ i = first_of (search rules, grind (arith, common_steps), cc) in
    record {
      added = flat_more read (λ index. block_sectors (small index)) i c.args.wanted.now.entries c.loop-i.wanted.entries c.add_block.new.wanted.entries c.loop-i.invariant.added
          (subst (λ k. Adds read (block_sectors (small k)) c.loop-i.wanted.entries c.add_block.new.wanted.entries) at c.add_block.ensures.added);
      spare = omega (arith, c.loop-i.invariant.spare, c.add_block.ensures.spare);
    }
