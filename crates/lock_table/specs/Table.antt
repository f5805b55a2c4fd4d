-- What contracts see of a lock table.
use Rattle.std.specs.Prelude.{◌≡◌, ℕ, IsSome, List, Option, Some}
use Rattle.std.specs.List.Sorted.{IsStrictlySortedBy}
use Rattle.std.specs.Map.{lookup, keys_of}
use Rattle.frang_base.specs.declared.lock.LockId.{LockId}
use Rattle.lock_definitions.specs.declared.claim.LogHold.{LogHold}
use Rattle.lock_definitions.specs.Order.{lock_cmp, is_lock}
use Rattle.lock_definitions.specs.Locks.{Locks, AreLocks}
use Rattle.lock_table.specs.Kept.{Entries, Kept, HasSpace, clerks_of}

-- its locks; the lock for whose next want there is a place; and for how many more locks that it is asked for each server has room
pub record Table : Type 0 where
  pub locks : Locks
  pub reserved : Option LockId
  pub room : List ℕ

-- the locks of these claims and holds on logs
abbrev pub locks_of : Entries → List (Option LogHold) → Locks
locks_of entries logs = record { clerks = clerks_of entries; logs = logs }

-- a table of these
abbrev pub table_of : Kept → Option LockId → List (Option LogHold) → Table
table_of kept reserved logs = record { locks = locks_of kept.entries logs; reserved = reserved; room = kept.room }

-- a want of this server for this lock isn't refused for memory
abbrev pub HasRoom : Table → ℕ → LockId → Type 0
HasRoom table server lock = (table.reserved ≡ Some lock) × HasSpace table.room

-- for whatever want there was room, there is
abbrev pub KeepsRoom : Table → Table → Type 0
KeepsRoom old new = (server : ℕ) (lock : LockId) → HasRoom old server lock → HasRoom new server lock

-- the entries ascend, the locks are those of a lock table, and the reserved lock has a place
pub record IsTable (entries : Entries) (reserved : Option LockId) (logs : List (Option LogHold)) : Type 0 where
  pub ordered : IsStrictlySortedBy lock_cmp (keys_of entries)
  pub locks : AreLocks (locks_of entries logs)
  pub place : (lock : LockId) → reserved ≡ Some lock → IsSome (lookup (is_lock lock) entries)
