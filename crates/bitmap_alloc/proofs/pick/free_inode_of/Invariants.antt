use Rattle.std.proofs.Common.{◌≡◌, ◌-◌, not}
use Rattle.disk_definitions.specs.Bitmaps.{inode_bit}
use Rattle.disk_definitions.specs.Least.{least, least_from}
use Rattle.bitmap_alloc.proofs.pick.free_inode_of.Given as goal

abbrev pub invariant-loop-j : goal.invariant-loop-j
invariant-loop-j l = least_from (λ j. not (inode_bit l.bitmap j)) l.j (64 - l.j) ≡ least (λ j. not (inode_bit l.bitmap j)) 64
