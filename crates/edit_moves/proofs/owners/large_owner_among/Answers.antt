-- A node that hasn't the block is passed over.
use Rattle.std.proofs.Common.{sym, ◌∙◌}
use Rattle.disk_definitions.specs.Written.{inode_at_hand}
use Rattle.disk_definitions.specs.CoversAtHand.{has_large}
use Rattle.edit_moves.proofs.Finding.{passed}
use Rattle.edit_moves.proofs.owners.large_owner_among.Goals as goal

pub loop-node-preserved : goal.loop-node-preserved
loop-node-preserved c =
    passed (λ node. has_large c.args.block (inode_at_hand c.args.sectors.now.entries node)) c.args.nodes.now c.loop-node.node-index _ c.loop-node-test.true
    (sym c.owns_large-owner.ensures ∙ c.if-owner.false) c.loop-node.invariant
