use Rattle.std.proofs.Common.{◌≡◌, ◌*◌, ◌-◌}
use Rattle.disk_definitions.specs.Least.{least_from}
use Rattle.disk_definitions.specs.Held.{inode_in}
use Rattle.disk_definitions.specs.Picks.{is_free, picked_inode}
use Rattle.bitmap_alloc.proofs.pick.pick_inode.Given as goal

abbrev pub invariant-loop-k : goal.invariant-loop-k
invariant-loop-k l = least_from (λ i. is_free (inode_in l.held i)) (64 * l.k) (4096 - 64 * l.k) ≡ picked_inode l.held
