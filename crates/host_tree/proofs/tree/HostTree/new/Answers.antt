-- Of no sectors there are no lines.
use Rattle.std.proofs.Common.{length, sym, ap}
use Rattle.tree_lines.specs.Waiting.{lines_left}
use Rattle.host_tree.specs.Reading.{all_lines, needed, store_read}
use Rattle.host_tree.specs.Saying.{shown_in}
use Rattle.host_tree.proofs.ToSay.{lines_begun, place_new}
use Rattle.host_tree.proofs.tree.HostTree.new.Goals as goal

pub invariant_of-result : goal.invariant_of-result
invariant_of-result c =
    let t = c.in_ok-sectors.sectors in
    place_new (needed t.segments t.read) (all_lines t.segments t.read) (lines_left (shown_in (store_read t.segments t.read)) c.of.result)
    (lines_begun t.segments t.read 0 c.from.result c.of.result (sym (ap length c.in_ok-sectors.ensures.read)) c.from.ensures c.of.ensures)
