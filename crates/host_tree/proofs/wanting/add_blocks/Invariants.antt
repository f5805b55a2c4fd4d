use Rattle.std.proofs.Common.{◌≤◌, ◌+◌, ◌*◌, slice_index}
use Rattle.std.specs.List.{flat_map}
use Rattle.tree_definitions.specs.Numbers.{below}
use Rattle.core_definitions.specs.Trees.{block_sectors}
use Rattle.host_tree.specs.Wanting.{Adds}
use Rattle.host_tree.proofs.wanting.add_blocks.Given as goal

-- the blocks so far
abbrev pub invariant-loop-i : goal.invariant-loop-i
invariant-loop-i l = record {
  added : Adds l.read.entries (flat_map (λ index. block_sectors (slice_index l.inode.small index)) (below l.i)) l.fn.wanted.entries l.wanted.entries;
  spare : l.fn.wanted.spare ≤ l.wanted.spare + 8 * l.i;
}
