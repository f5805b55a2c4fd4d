-- By the nodes that the walks pass, whose directories and links the shape keeps.
use Rattle.tree_laws.proofs.ShapePlaces.{same_place}
use Rattle.tree_laws.proofs.ShapeResolving.{walk_shape, resolved_shape}
use Rattle.tree_laws.proofs.shapes.paths_go_by_the_shape.Goals as goal

pub returns-clause-places : goal.returns-clause-places
returns-clause-places c = same_place

pub returns-clause-walks : goal.returns-clause-walks
returns-clause-walks c = walk_shape

pub returns-clause-resolved : goal.returns-clause-resolved
returns-clause-resolved c = resolved_shape
