-- The key is there, or it is looked for.
use Rattle.ordered_map.proofs.map.locate_at.Goals as goal

pub returns-then-is_there-clause-some : goal.returns-then-is_there-clause-some
returns-then-is_there-clause-some g c = c.is_there.ensures c.if-is_there.true
