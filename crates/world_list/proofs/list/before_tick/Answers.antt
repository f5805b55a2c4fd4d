-- Both parts of it, one behind the other.
use Rattle.world_list.proofs.WholeList.{before_listed}
use Rattle.world_list.proofs.list.before_tick.Goals as goal

pub returns : goal.returns
returns c = before_listed c.args.world.now c.new-list.result.items c.push_lines.new.list.items c.push_writes.new.list.items c.new-list.ensures.items c.in_ok-push_lines.ensures c.in_ok-push_writes.ensures
