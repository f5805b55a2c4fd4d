-- One event, if it may happen.
use Rattle.std.proofs.lemmas.Result.{on_ok_weaker}
use Rattle.world_list.proofs.OneEach.{doom_row}
use Rattle.world_list.proofs.lives.push_doom.Goals as goal

pub returns : goal.returns
returns c = on_ok_weaker c.push_if.result (doom_row c.args.world.now c.args.a.0 c.may_doom.result c.args.list.now.items c.push_if.new.list.items c.may_doom.ensures) c.push_if.ensures
