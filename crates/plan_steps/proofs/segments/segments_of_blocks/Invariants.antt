-- The segments of the blocks so far are held, and were looked at.
use Rattle.std.proofs.Common.{◌≡◌, ◌/◌, None, map, slice_index}
use Rattle.tree_definitions.specs.Numbers.{below}
use Rattle.dir_lookup.specs.Looked.{Adds}
use Rattle.plan_steps.specs.Looking.{looked_over}
use Rattle.plan_steps.specs.Rooms.{needed}
use Rattle.plan_steps.proofs.segments.segments_of_blocks.Given as goal

abbrev pub invariant-loop-n : goal.invariant-loop-n
invariant-loop-n l = record {
  needs : None ≡ needed l.held (map (λ n. slice_index l.inode.small n / 1024) (below l.n));
  looks : Adds l.initial.looked l.looked (looked_over l.held (map (λ n. slice_index l.inode.small n / 1024) (below l.n)));
}
