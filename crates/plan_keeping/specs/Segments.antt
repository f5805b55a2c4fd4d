-- Whether a disk may have the segments of a set.
use Rattle.std.specs.Prelude.{Bool, true, nat_lt}
use Rattle.frang_base.specs.declared.limits.TheConstants.{SEGMENTS_MAX}
use Rattle.frang_base.specs.declared.lock.LockId.{LockId}
use Rattle.frang_base.specs.declared.lock.LockId.TheVariants.{Log, Segment, Node}

-- the lock of a segment is that of one that a disk may have
abbrev pub is_of_disk : LockId → Bool
is_of_disk (Log server) = true
is_of_disk (Segment segment) = nat_lt segment SEGMENTS_MAX
is_of_disk (Node inode) = true
