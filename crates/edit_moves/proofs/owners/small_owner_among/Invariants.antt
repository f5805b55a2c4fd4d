-- The first owner among the nodes that are left is the first of all.
use Rattle.std.proofs.Common.{◌≡◌, drop, find}
use Rattle.disk_definitions.specs.Written.{inode_at_hand}
use Rattle.disk_definitions.specs.CoversAtHand.{has_small}
use Rattle.edit_moves.proofs.owners.small_owner_among.Given as goal

abbrev pub invariant-loop-node : goal.invariant-loop-node
invariant-loop-node l =
    find (λ node. has_small l.block (inode_at_hand l.sectors.entries node)) (drop l.node-index l.nodes) ≡ find (λ node. has_small l.block (inode_at_hand l.sectors.entries node)) l.nodes
