use Rattle.std.proofs.Common.{◌≡◌, length}
use Rattle.tree_lines.specs.Waiting.{lines_left}
use Rattle.disk_reading.specs.Lined.{shown_in}
use Rattle.disk_reading.specs.Seen.{store_in}
use Rattle.disk_reading.proofs.lines.next_inode.Given as goal

abbrev pub invariant-loop-birth : goal.invariant-loop-birth
invariant-loop-birth l = lines_left (shown_in (store_in l.segments l.disk)) l.left ≡ lines_left (shown_in (store_in l.segments l.disk)) l.initial.left

abbrev pub decreases-loop-birth : goal.decreases-loop-birth
decreases-loop-birth l = length l.left.nodes
