-- Tables with the same locks.
use Rattle.std.specs.Prelude.{◌≡◌, ℕ, Bool, true, false, not, ◌&&◌}
use Rattle.frang_base.specs.declared.lock.LockId.{LockId}
use Rattle.frang_base.specs.declared.lock.Mode.{Mode}
use Rattle.lock_definitions.specs.Locks.{Locks, held, is_wished, log_hold}
use Rattle.lock_definitions.specs.Calls.{is_free}

-- a noted wish that conflicts with a holder
abbrev pub waits : Locks → ℕ → LockId → Mode → Bool
waits locks server lock mode = is_wished locks server lock mode && not (is_free locks server lock mode)

-- each server holds the same locks in the same modes, the noted wishes that conflict with a holder are the same, and each log
-- has the same taker and expiry
pub record SameLocks (a b : Locks) : Type 0 where
  pub held : (server : ℕ) (lock : LockId) → held a server lock ≡ held b server lock
  pub wishes : (server : ℕ) (lock : LockId) (mode : Mode) → waits a server lock mode ≡ waits b server lock mode
  pub logs : (dead : ℕ) → log_hold a dead ≡ log_hold b dead

-- every noted wish conflicts with a holder
abbrev pub AllWishesWait : Locks → Type 0
AllWishesWait locks = (server : ℕ) (lock : LockId) (mode : Mode) → is_wished locks server lock mode ≡ true → is_free locks server lock mode ≡ false
