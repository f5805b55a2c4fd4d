-- By the nodes, whose cells are all in doubt.
use Rattle.line_laws.proofs.Shaping.{shapes_stand, hands_stay, files_stay, disks_stand, disks_stand_below}
use Rattle.line_laws.proofs.shapes.a_disk_of_a_tree_is_one_of_its_shape.Goals as goal

pub returns-clause-stores : goal.returns-clause-stores
returns-clause-stores c = shapes_stand

pub returns-clause-hands : goal.returns-clause-hands
returns-clause-hands c = hands_stay

pub returns-clause-files : goal.returns-clause-files
returns-clause-files c = files_stay

pub returns-clause-disks : goal.returns-clause-disks
returns-clause-disks c = disks_stand

pub returns-clause-below : goal.returns-clause-below
returns-clause-below c = disks_stand_below
