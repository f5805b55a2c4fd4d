-- Operation by operation.
use Rattle.tree_laws.proofs.ShapeApplying.{apply_shape}
use Rattle.tree_laws.proofs.ShapeResolving.{perform_shape}
use Rattle.tree_laws.proofs.shapes.operations_go_by_the_shape.Goals as goal

pub returns-clause-apply : goal.returns-clause-apply
returns-clause-apply c = apply_shape

pub returns-clause-perform : goal.returns-clause-perform
returns-clause-perform c = perform_shape
