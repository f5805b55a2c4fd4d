-- Step by step.
use Rattle.core_tree_reads.proofs.Said.{lines_of_run}
use Rattle.core_tree_reads.proofs.reads.the_lines_said_are_read.Goals as goal

pub returns : goal.returns
returns c = record { lines = lines_of_run }
