-- The trail so far, and the inodes that are left.
use Rattle.std.proofs.Common.{◌≡◌, ◌++◌, drop}
use Rattle.line_plan.proofs.walks.extend.Given as goal

abbrev pub invariant-loop-inode : goal.invariant-loop-inode
invariant-loop-inode l = l.trail.items ++ drop l.inode-index l.more ≡ l.initial.trail.items ++ l.more
