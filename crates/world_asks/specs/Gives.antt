-- One of the locks that a server may give.
use Rattle.std.specs.Prelude.{◌≡◌, Bool, true, false, Option, Some, None}
use Rattle.frang_base.specs.declared.lock.LockId.{LockId}

-- a lock that passes; none where none does
abbrev pub IsOneLock : (LockId → Bool) → Option LockId → Type 0
IsOneLock passes None = (lock : LockId) → passes lock ≡ false
IsOneLock passes (Some lock) = passes lock ≡ true
