-- One event, if it may happen.
use Rattle.std.proofs.lemmas.Result.{on_ok_weaker}
use Rattle.world_list.proofs.OneEach.{renew_row}
use Rattle.world_list.proofs.lives.push_renew.Goals as goal

pub returns : goal.returns
returns c = on_ok_weaker c.push_if.result (renew_row c.args.world.now c.args.a.0 c.may_renew.result c.args.list.now.items c.push_if.new.list.items c.may_renew.ensures) c.push_if.ensures
