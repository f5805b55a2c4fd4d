-- By the walks of one path in one tree and in two.
use Rattle.tree_laws.proofs.Following.{finds_what_is_there, goes_by_its_trail}
use Rattle.tree_laws.proofs.trees.links_lead_to_what_is_there.Goals as goal

pub returns-clause-found : goal.returns-clause-found
returns-clause-found c = finds_what_is_there

pub returns-clause-trail : goal.returns-clause-trail
returns-clause-trail c = goes_by_its_trail
