use Rattle.tree_edits.proofs.Swaps.{put_swapped}
use Rattle.tree_edits.proofs.nodes.put.Goals as goal

pub returns-clause-swapped : goal.returns-clause-swapped
returns-clause-swapped c = put_swapped c.args.nodes.now.entries c.insert.new.self.entries c.args.birth c.args.node c.insert.ensures.was_ordered c.in_ok-insert.ensures.entries c.in_ok-insert.ensures.updates.1
