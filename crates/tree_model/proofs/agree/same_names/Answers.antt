-- Names are compared by their order.
use Rattle.tree_model.proofs.Comparing.{names_same}
use Rattle.tree_model.proofs.agree.same_names.Goals as goal

pub returns : goal.returns
returns c = cc (names_same c.args.names.now c.args.others.now)
