use Rattle.std.proofs.Common.{◌≡◌, length}
use Rattle.tree_lines.specs.Waiting.{lines_left}
use Rattle.file_tree.specs.Lined.{shown_in}
use Rattle.file_tree.proofs.lines.next_node.Given as goal

abbrev pub invariant-loop-birth : goal.invariant-loop-birth
invariant-loop-birth l = lines_left (shown_in l.nodes.entries) l.left ≡ lines_left (shown_in l.nodes.entries) l.initial.left

abbrev pub decreases-loop-birth : goal.decreases-loop-birth
decreases-loop-birth l = length l.left.nodes
