-- By the nodes, one at a time.
use Rattle.tree_laws.proofs.ShapeNodes.{found, again, room_stays}
use Rattle.tree_laws.proofs.ShapeKeeping.{well_shape, kinds_stay, told_kinds_stay, visited_stay}
use Rattle.tree_laws.proofs.shapes.a_shape_has_all_but_the_bytes.Goals as goal

pub returns-clause-own : goal.returns-clause-own
returns-clause-own c = again

pub returns-clause-well_formed : goal.returns-clause-well_formed
returns-clause-well_formed c = well_shape

pub returns-clause-nodes : goal.returns-clause-nodes
returns-clause-nodes c = found

pub returns-clause-kinds : goal.returns-clause-kinds
returns-clause-kinds c = kinds_stay

pub returns-clause-told : goal.returns-clause-told
returns-clause-told c = told_kinds_stay

pub returns-clause-visited : goal.returns-clause-visited
returns-clause-visited c = visited_stay

pub returns-clause-room : goal.returns-clause-room
returns-clause-room c = room_stays
