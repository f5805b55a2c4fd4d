-- One event, if it may happen.
use Rattle.std.proofs.lemmas.Result.{on_ok_weaker}
use Rattle.world_list.proofs.EndRows.{show_row}
use Rattle.world_list.proofs.ends.push_show.Goals as goal

pub returns : goal.returns
returns c = on_ok_weaker c.push_if.result (show_row c.args.world.now c.args.tree.now c.may_show.result c.args.list.now.items c.push_if.new.list.items c.shown.result c.shown.ensures c.may_show.ensures) c.push_if.ensures
