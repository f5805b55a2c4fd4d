-- The set so far, and the nodes that are left.
use Rattle.std.proofs.Common.{◌≡◌, drop}
use Rattle.set_definitions.specs.Sets.{joined_all}
use Rattle.disk_definitions.specs.Plans.{shared_nodes}
use Rattle.plan_locks.proofs.edits.join_nodes.Given as goal

abbrev pub invariant-loop-node : goal.invariant-loop-node
invariant-loop-node l = joined_all l.set (shared_nodes (drop l.node-index l.nodes)) ≡ joined_all l.initial.set (shared_nodes l.nodes)
