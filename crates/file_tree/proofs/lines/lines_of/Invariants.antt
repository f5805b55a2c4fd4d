use Rattle.std.proofs.Common.{◌≡◌, ◌++◌, [], length}
use Rattle.tree_lines.specs.Shown.{lines_by}
use Rattle.tree_lines.specs.Waiting.{lines_left}
use Rattle.file_tree.specs.Lined.{shown_in}
use Rattle.file_tree.specs.Proper.{AreProper}
use Rattle.file_tree.proofs.lines.lines_of.Given as goal

-- what was given and what is left are the lines of all
abbrev pub invariant-loop-node : goal.invariant-loop-node
invariant-loop-node l = record {
  proper : AreProper l.lines.items;
  given : l.lines.items ++ lines_left (shown_in l.nodes.entries) l.left ≡ lines_by (shown_in l.nodes.entries) (length l.nodes.entries) [] 0;
}

abbrev pub decreases-loop-node : goal.decreases-loop-node
decreases-loop-node l = length (lines_left (shown_in l.nodes.entries) l.left)
