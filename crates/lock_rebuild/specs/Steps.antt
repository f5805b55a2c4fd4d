-- A table into which lists are put, and the least lock at which they were seen to clash.
use Rattle.std.specs.Prelude.{ℕ, ◌<◌, Bool, true, if◌then◌else◌, is_some, Option, Some, None, List, [], ◌∷◌}
use Rattle.std.specs.List.{AllByRecursion}
use Rattle.std.specs.Ordering.{is_lt}
use Rattle.frang_base.specs.declared.lock.LockId.{LockId}
use Rattle.frang_base.specs.declared.lock.LockId.TheVariants.{Log}
use Rattle.frang_base.specs.declared.lock.Mode.{Mode}
use Rattle.frang_base.specs.declared.sector.ServerId.{ServerId}
use Rattle.lock_definitions.specs.declared.lists.ClerkLocks.{ClerkLocks}
use Rattle.lock_definitions.specs.Order.{lock_cmp}
use Rattle.lock_definitions.specs.Locks.{Locks}
use Rattle.lock_definitions.specs.Calls.{is_free, wanted, log_taken_by, taken}

-- the table so far, and the least lock at which lists clash
pub record Rebuilding : Type 0 where
  pub locks : Locks
  pub clash : Option LockId

-- a lock lies before the least clash
abbrev pub is_before : LockId → Option LockId → Bool
is_before lock None = true
is_before lock (Some clash) = is_lt (lock_cmp lock clash)

-- the table with one lock more, or with a clash there; what lies behind a clash doesn't matter any more
abbrev pub with_hold : ℕ → Rebuilding → LockId × Mode → Rebuilding
with_hold server at entry =
    if is_before entry.0 at.clash then record { locks = wanted at.locks server entry.0 entry.1; clash = if is_free at.locks server entry.0 entry.1 then at.clash else Some entry.0 } else at

-- with the locks of a list
abbrev pub with_holds : ℕ → Rebuilding → List (LockId × Mode) → Rebuilding
with_holds server at [] = at
with_holds server at (entry ∷ entries) = with_holds server (with_hold server at entry) entries

-- with the locks of all lists
abbrev pub with_all_holds : Rebuilding → List ClerkLocks → Rebuilding
with_all_holds at [] = at
with_all_holds at (clerk ∷ clerks) = with_all_holds (with_holds clerk.server.0 at clerk.held) clerks

-- with one log more, or with a clash there
abbrev pub with_log : ℕ → Rebuilding → ServerId × ℕ → Rebuilding
with_log party at entry =
    if is_before (Log entry.0.0) at.clash then record { locks = taken at.locks entry.0.0 party 0 entry.1; clash = if is_some (log_taken_by at.locks entry.0.0 party 0) then Some (Log entry.0.0) else at.clash } else at

-- with the logs of a list
abbrev pub with_logs : ℕ → Rebuilding → List (ServerId × ℕ) → Rebuilding
with_logs party at [] = at
with_logs party at (entry ∷ entries) = with_logs party (with_log party at entry) entries

-- with the logs of all lists
abbrev pub with_all_logs : Rebuilding → List ClerkLocks → Rebuilding
with_all_logs at [] = at
with_all_logs at (clerk ∷ clerks) = with_all_logs (with_logs clerk.server.0 at clerk.logs) clerks

-- with a wish, where it conflicts with a holder
abbrev pub with_wish : ℕ → Locks → LockId × Mode → Locks
with_wish server locks entry = if is_free locks server entry.0 entry.1 then locks else wanted locks server entry.0 entry.1

-- with the wishes of a list
abbrev pub with_wishes : ℕ → Locks → List (LockId × Mode) → Locks
with_wishes server locks [] = locks
with_wishes server locks (entry ∷ entries) = with_wishes server (with_wish server locks entry) entries

-- with the wishes of all lists
abbrev pub with_all_wishes : Locks → List ClerkLocks → Locks
with_all_wishes locks [] = locks
with_all_wishes locks (clerk ∷ clerks) = with_all_wishes (with_wishes clerk.server.0 locks clerk.wants) clerks

-- the numbers of servers are those of bytes
abbrev pub AreNumbered : List ClerkLocks → Type 0
AreNumbered clerks = AllByRecursion (λ clerk. clerk.server.0 < 256) clerks
