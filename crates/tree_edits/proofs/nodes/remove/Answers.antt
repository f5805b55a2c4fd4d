use Rattle.tree_edits.proofs.Swaps.{remove_swapped}
use Rattle.tree_edits.proofs.nodes.remove.Goals as goal

pub returns-clause-swapped : goal.returns-clause-swapped
returns-clause-swapped c = remove_swapped c.args.nodes.now.entries c.remove.new.self.entries c.args.birth c.remove.ensures.entries c.remove.ensures.updates.1
