-- Both parts of it, one behind the other.
use Rattle.world_list.proofs.WholeList.{after_listed}
use Rattle.world_list.proofs.list.after_tick.Goals as goal

pub returns : goal.returns
returns c = after_listed c.args.world.now c.args.tree.now c.new-list.result.items c.push_recoveries.new.list.items c.push_ends.new.list.items c.new-list.ensures.items c.in_ok-push_recoveries.ensures c.in_ok-push_ends.ensures
