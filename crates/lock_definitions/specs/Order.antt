-- The order of locks: those of logs, of segments and of nodes, and each of a kind by its number.
use Rattle.std.specs.Prelude.{ℕ, Bool}
use Rattle.std.specs.Ordering.{nat_cmp, on, then_cmp}
use Rattle.std.specs.BTreeMap.{is_at}
use Rattle.std.specs.declared.cmp.Ordering.{Ordering}
use Rattle.frang_base.specs.declared.lock.LockId.{LockId}
use Rattle.frang_base.specs.declared.lock.LockId.TheVariants.{Log, Segment, Node}

-- the place of a lock's kind
abbrev pub kind_of : LockId → ℕ
kind_of (Log n) = 0
kind_of (Segment n) = 1
kind_of (Node n) = 2

-- its number among those of its kind
abbrev pub number_of : LockId → ℕ
number_of (Log n) = n
number_of (Segment n) = n
number_of (Node n) = n

-- locks by their kinds as they are listed, and then by their numbers
abbrev pub lock_cmp : LockId → LockId → Ordering
lock_cmp = then_cmp (on kind_of nat_cmp) (on number_of nat_cmp)

-- the same lock
abbrev pub is_lock : LockId → LockId → Bool
is_lock lock = is_at (lock_cmp lock)
