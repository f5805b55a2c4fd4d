use Rattle.std.proofs.Common.{◌≡◌, true}
use Rattle.standing_laws.specs.Below.{all_below}
use Rattle.standing_laws.specs.ReadTree.{nodes_to}
use Rattle.standing_laws.specs.Soundness.{node_agrees}
use Rattle.disk_reading.specs.Seen.{store_in}
use Rattle.disk_reading.proofs.nodes.add_nodes.Given as goal

abbrev pub invariant-loop-i : goal.invariant-loop-i
invariant-loop-i l = record {
  agree : all_below l.i (λ i. node_agrees (store_in l.segments l.disk) ((store_in l.segments l.disk).inode i)) ≡ true;
  are : l.nodes.entries ≡ nodes_to (store_in l.segments l.disk) l.i;
}
