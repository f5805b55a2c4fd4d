use Rattle.tree_model.proofs.Comparing.{entries_same}
use Rattle.tree_model.proofs.compare.same_entries.Goals as goal

pub returns : goal.returns
returns c = cc (entries_same c.args.a.now c.args.b.now)
