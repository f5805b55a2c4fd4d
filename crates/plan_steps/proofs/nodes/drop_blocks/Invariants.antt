-- The edits so far, and those of the blocks that are left.
use Rattle.std.proofs.Common.{◌≡◌, ◌≤◌, ◌++◌, slice_index}
use Rattle.disk_definitions.specs.Changes as changes
use Rattle.plan_steps.specs.Edits.{edits_of}
use Rattle.plan_steps.proofs.nodes.drop_blocks.Given as goal

abbrev pub decreases-loop-left : goal.decreases-loop-left
decreases-loop-left l = l.left

abbrev pub invariant-loop-left : goal.invariant-loop-left
invariant-loop-left l = record {
  few : l.left ≤ 16;
  rest : edits_of l.edits.items ++ changes.uses_to (slice_index l.inode.small) (changes.freed l.inode.kind) l.left
      ≡ edits_of l.fn.edits.items ++ changes.uses_to (slice_index l.inode.small) (changes.freed l.inode.kind) l.inode.blocks;
}
