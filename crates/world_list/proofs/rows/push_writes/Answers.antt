-- One row behind another.
use Rattle.std.proofs.lemmas.Result.{on_ok_weaker}
use Rattle.world_list.proofs.RowsJoined.{writes_added}
use Rattle.world_list.proofs.rows.push_writes.Goals as goal

pub returns : goal.returns
returns c =
    on_ok_weaker c.push_row-6.result
    (writes_added c.args.world.now c.args.list.now.items c.push_row.new.list.items c.push_row-2.new.list.items c.push_row-3.new.list.items c.push_row-4.new.list.items c.push_arrives.new.list.items c.push_loses.new.list.items c.push_row-5.new.list.items
    c.push_row-6.new.list.items c.in_ok-push_row.ensures c.in_ok-push_row-2.ensures c.in_ok-push_row-3.ensures c.in_ok-push_row-4.ensures c.in_ok-push_arrives.ensures c.in_ok-push_loses.ensures c.in_ok-push_row-5.ensures)
    c.push_row-6.ensures
