-- One row behind another.
use Rattle.std.proofs.lemmas.Result.{on_ok_weaker}
use Rattle.world_list.proofs.RowsJoined.{ends_added}
use Rattle.world_list.proofs.rows.push_ends.Goals as goal

pub returns : goal.returns
returns c =
    on_ok_weaker c.push_end.result
    (ends_added c.args.world.now c.args.tree.now c.args.list.now.items c.push_host_line.new.list.items c.push_row.new.list.items c.push_reads.new.list.items c.push_show.new.list.items c.push_end.new.list.items c.in_ok-push_host_line.ensures
    c.in_ok-push_row.ensures c.in_ok-push_reads.ensures c.in_ok-push_show.ensures)
    c.push_end.ensures
