use Rattle.std.proofs.Common.{◌≡◌, ◌≤◌, length}
use Rattle.standing_laws.specs.ReadTree.{nodes_to}
use Rattle.disk_reading.specs.Seen.{store_in}
use Rattle.disk_reading.proofs.lines.count_nodes.Given as goal

abbrev pub invariant-loop-i : goal.invariant-loop-i
invariant-loop-i l = record {
  counted : l.count ≡ length (nodes_to (store_in l.segments l.disk) l.i);
  few : l.count ≤ l.i;
}
