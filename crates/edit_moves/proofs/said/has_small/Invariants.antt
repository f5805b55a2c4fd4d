-- Of the blocks that are left one is this where one of all is.
use Rattle.std.proofs.Common.{◌≡◌, slice_index, is_some}
use Rattle.disk_definitions.specs.Resizing.{index_in}
use Rattle.edit_moves.proofs.said.has_small.Given as goal

abbrev pub decreases-loop-left : goal.decreases-loop-left
decreases-loop-left l = l.left

abbrev pub invariant-loop-left : goal.invariant-loop-left
invariant-loop-left l = is_some (index_in (slice_index l.inode.small) l.left l.block) ≡ is_some (index_in (slice_index l.inode.small) l.inode.blocks l.block)
