-- An inode that fits is in use exactly where its kind isn't 0.
use Rattle.std.proofs.Common.{sym, ◌∙◌}
use Rattle.dir_lookup.proofs.Decoded.{free_node, used_node}
use Rattle.dir_lookup.proofs.sectors.used_inode.Goals as goal

pub returns-then-inode-eq-KIND_FREE-clause-is : goal.returns-then-inode-eq-KIND_FREE-clause-is
returns-then-inode-eq-KIND_FREE-clause-is c = free_node c.args.block.now c.in_ok-inode.inode (sym c.decode.ensures ∙ c.in_ok-inode.was) c.if-inode-eq-KIND_FREE.true

pub returns-else-inode-eq-KIND_FREE-clause-is : goal.returns-else-inode-eq-KIND_FREE-clause-is
returns-else-inode-eq-KIND_FREE-clause-is c = (used_node c.args.block.now c.in_ok-inode.inode (sym c.decode.ensures ∙ c.in_ok-inode.was) c.if-inode-eq-KIND_FREE.false).0

pub returns-else-inode-eq-KIND_FREE-clause-used : goal.returns-else-inode-eq-KIND_FREE-clause-used
returns-else-inode-eq-KIND_FREE-clause-used c = (used_node c.args.block.now c.in_ok-inode.inode (sym c.decode.ensures ∙ c.in_ok-inode.was) c.if-inode-eq-KIND_FREE.false).1
