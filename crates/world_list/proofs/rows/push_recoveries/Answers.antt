-- One row behind another.
use Rattle.std.proofs.lemmas.Result.{on_ok_weaker}
use Rattle.world_list.proofs.RowsJoined.{recoveries_added}
use Rattle.world_list.proofs.rows.push_recoveries.Goals as goal

pub returns : goal.returns
returns c =
    on_ok_weaker c.push_row-3.result
    (recoveries_added c.args.world.now c.args.list.now.items c.push_recovers.new.list.items c.push_row.new.list.items c.push_row-2.new.list.items c.push_row-3.new.list.items c.in_ok-push_recovers.ensures c.in_ok-push_row.ensures
    c.in_ok-push_row-2.ensures)
    c.push_row-3.ensures
