-- One event, if it may happen.
use Rattle.std.proofs.lemmas.Result.{on_ok_weaker}
use Rattle.world_list.proofs.OneEach.{finish_row}
use Rattle.world_list.proofs.recoveries.push_finish.Goals as goal

pub returns : goal.returns
returns c = on_ok_weaker c.push_if.result (finish_row c.args.world.now c.args.by.0 c.may_finish.result c.args.list.now.items c.push_if.new.list.items c.may_finish.ensures) c.push_if.ensures
