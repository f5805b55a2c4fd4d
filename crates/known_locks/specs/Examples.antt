-- A table that notes a wish which conflicts with no holder any more.
use Rattle.frang_base.specs.declared.lock.LockId.TheVariants.{Node}
use Rattle.frang_base.specs.declared.lock.Mode.TheVariants.{Shared, Sole}
use Rattle.lock_definitions.specs.Locks.{Locks, no_locks}
use Rattle.lock_definitions.specs.Calls.{wanted, released}

-- server 0 holds the lock sole, server 1 wants it shared, and server 0 releases it
abbrev pub released_by_0 : Locks
released_by_0 = released (wanted (wanted no_locks 0 (Node 1) Sole) 1 (Node 1) Shared) 0 (Node 1)
