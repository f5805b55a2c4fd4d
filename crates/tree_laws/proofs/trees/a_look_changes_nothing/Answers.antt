-- By what looks leave.
use Rattle.tree_laws.proofs.ShapeLaws.{looks_change_nothing, looks_leave_the_shape, no_path_touches_nothing}
use Rattle.tree_laws.proofs.trees.a_look_changes_nothing.Goals as goal

pub returns-clause-changes : goal.returns-clause-changes
returns-clause-changes c = looks_change_nothing

pub returns-clause-shape : goal.returns-clause-shape
returns-clause-shape c = looks_leave_the_shape

pub returns-clause-pathless : goal.returns-clause-pathless
returns-clause-pathless c = no_path_touches_nothing
