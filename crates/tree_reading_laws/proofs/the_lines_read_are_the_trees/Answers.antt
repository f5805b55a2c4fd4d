-- Node by node, and level by level.
use Rattle.tree_reading_laws.proofs.Lines.{read_lines_are}
use Rattle.tree_reading_laws.proofs.the_lines_read_are_the_trees.Goals as goal

pub returns : goal.returns
returns c = record { lines = read_lines_are }
