use Rattle.std.proofs.Common.{◌+◌, ◌*◌, ◌^◌, length}
use Rattle.namei.proofs.resolving.+walk_on.Given as goal

-- a link fewer counts for more than all names
abbrev pub decreases-walk_on : goal.decreases-walk_on
decreases-walk_on l = l.left * 2 ^ 64 + length l.names.now
