-- Any calls of a lock table, one after another.
use Rattle.std.specs.Prelude.{ℕ, ◌==◌, Bool, false, ◌&&◌, ◌||◌, List, [], ◌∷◌}
use Rattle.frang_base.specs.declared.lock.LockId.{LockId}
use Rattle.frang_base.specs.declared.lock.Mode.{Mode}
use Rattle.lock_definitions.specs.Order.{is_lock}
use Rattle.lock_definitions.specs.Locks.{Locks}
use Rattle.lock_definitions.specs.Calls.{wanted, released, downgraded, taken, extended, cleared}

-- a call that may change a table
pub data LockCall : Type 0 where
  Want : (server : ℕ) (lock : LockId) (mode : Mode) → LockCall
  Release : (server : ℕ) (lock : LockId) → LockCall
  Downgrade : (server : ℕ) (lock : LockId) → LockCall
  TakeLog : (dead by now expiry : ℕ) → LockCall
  Extend : (by expiry : ℕ) → LockCall
  Clear : (dead : ℕ) → LockCall

-- the state after one call
abbrev pub after_call : Locks → LockCall → Locks
after_call locks (Want server lock mode) = wanted locks server lock mode
after_call locks (Release server lock) = released locks server lock
after_call locks (Downgrade server lock) = downgraded locks server lock
after_call locks (TakeLog dead by now expiry) = taken locks dead by now expiry
after_call locks (Extend by expiry) = extended locks by expiry
after_call locks (Clear dead) = cleared locks dead

-- the state after calls, from the first on
abbrev pub after_calls : Locks → List LockCall → Locks
after_calls locks [] = locks
after_calls locks (call ∷ calls) = after_calls (after_call locks call) calls

-- the server asks for the lock
abbrev pub is_want : ℕ → LockId → LockCall → Bool
is_want server lock (Want asker asked mode) = asker == server && is_lock lock asked
is_want server lock (Release giver given) = false
is_want server lock (Downgrade giver given) = false
is_want server lock (TakeLog dead by now expiry) = false
is_want server lock (Extend by expiry) = false
is_want server lock (Clear dead) = false

-- it does so in one of the calls
abbrev pub asks : ℕ → LockId → List LockCall → Bool
asks server lock [] = false
asks server lock (call ∷ calls) = is_want server lock call || asks server lock calls
