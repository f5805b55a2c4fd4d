use Rattle.file_tree.proofs.WalkReturns.{from_start}
use Rattle.file_tree.proofs.tree.Tree.resolve.Goals as goal

pub returns : goal.returns
returns c = from_start c.args.self.now c.args.last c.new-root.result c.args.path.now c.new-trail.result.items c.in_ok-end.end c.walk_on.new.trail.items c.new-trail.ensures.items c.new-root.ensures c.in_ok-end.ensures
