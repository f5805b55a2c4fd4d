-- By what is read off a disk that stands for a tree.
use Rattle.core_tree_reads.proofs.Whole.{lines_are_trees}
use Rattle.core_tree_reads.proofs.lines.the_lines_said_are_the_trees.Goals as goal

pub returns : goal.returns
returns c =
    record { lines = lines_are_trees c.the_lines_read_are_the_trees.ensures.lines c.blocks_read_are_the_disks.ensures.disk c.the_lines_said_are_read.ensures.lines }
