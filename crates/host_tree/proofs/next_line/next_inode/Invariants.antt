use Rattle.std.proofs.Common.{◌≡◌, length}
use Rattle.tree_lines.specs.Waiting.{lines_left}
use Rattle.host_tree.specs.Reading.{store_read}
use Rattle.host_tree.specs.Saying.{shown_in}
use Rattle.host_tree.proofs.next_line.next_inode.Given as goal

abbrev pub invariant-loop-number : goal.invariant-loop-number
invariant-loop-number l = lines_left (shown_in (store_read l.sectors.segments l.sectors.read)) l.left ≡ lines_left (shown_in (store_read l.sectors.segments l.sectors.read)) l.initial.left

abbrev pub decreases-loop-number : goal.decreases-loop-number
decreases-loop-number l = length l.left.nodes
