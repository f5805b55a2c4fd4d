-- One event, if it may happen.
use Rattle.std.proofs.lemmas.Result.{on_ok_weaker}
use Rattle.world_list.proofs.EndRows.{end_row}
use Rattle.world_list.proofs.ends.push_end.Goals as goal

pub returns : goal.returns
returns c = on_ok_weaker c.push_if.result (end_row c.args.world.now c.args.tree.now c.may_end.result c.args.list.now.items c.push_if.new.list.items c.may_end.ensures) c.push_if.ensures
