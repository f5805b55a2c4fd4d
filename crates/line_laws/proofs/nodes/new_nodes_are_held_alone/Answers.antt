-- By what the edits say of bits.
use Rattle.line_laws.proofs.NodeLaws.{new_nodes_free, new_nodes_alone, line_nodes_free, line_nodes_alone}
use Rattle.line_laws.proofs.nodes.new_nodes_are_held_alone.Goals as goal

pub returns : goal.returns
returns c = record { free = new_nodes_free; alone = new_nodes_alone; lines_free = line_nodes_free; lines_alone = line_nodes_alone }
