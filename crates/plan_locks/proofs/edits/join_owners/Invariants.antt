-- The set so far, and the nodes that are left.
use Rattle.std.proofs.Common.{◌≡◌, drop, filter}
use Rattle.set_definitions.specs.Sets.{joined_all}
use Rattle.disk_definitions.specs.Plans.{sole_nodes}
use Rattle.disk_definitions.specs.FoundLocks.{owns_at_hand}
use Rattle.plan_locks.proofs.edits.join_owners.Given as goal

abbrev pub invariant-loop-node : goal.invariant-loop-node
invariant-loop-node l =
    joined_all l.set (sole_nodes (filter (λ inode. owns_at_hand l.sectors.entries inode l.block) (drop l.node-index l.nodes)))
    ≡ joined_all l.initial.set (sole_nodes (filter (λ inode. owns_at_hand l.sectors.entries inode l.block) l.nodes))
