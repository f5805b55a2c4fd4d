-- One row behind another.
use Rattle.std.proofs.lemmas.Result.{on_ok_weaker}
use Rattle.world_list.proofs.RowsJoined.{lines_added}
use Rattle.world_list.proofs.rows.push_lines.Goals as goal

pub returns : goal.returns
returns c =
    on_ok_weaker c.push_row-7.result
    (lines_added c.args.world.now c.args.list.now.items c.push_row.new.list.items c.push_row-2.new.list.items c.push_row-3.new.list.items c.push_row-4.new.list.items c.push_row-5.new.list.items c.push_row-6.new.list.items c.push_row-7.new.list.items
    c.in_ok-push_row.ensures c.in_ok-push_row-2.ensures c.in_ok-push_row-3.ensures c.in_ok-push_row-4.ensures c.in_ok-push_row-5.ensures c.in_ok-push_row-6.ensures)
    c.push_row-7.ensures
