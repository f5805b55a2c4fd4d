-- A table that is guarded while servers are silent: their lists are missing from it.
use Rattle.std.specs.Prelude.{◌≡◌, ◌<◌, true, ℕ, ◌==◌, Bool, false, not, ◌&&◌, ◌||◌, if◌then◌else◌, List, [], ◌∷◌, bit_or, slice_index_or, slice_set}
use Rattle.std.specs.List.{list_any}
use Rattle.frang_base.specs.declared.lock.LockId.{LockId}
use Rattle.frang_base.specs.declared.lock.Mode.{Mode}
use Rattle.frang_base.specs.declared.sector.ServerId.{ServerId}
use Rattle.frang_base.specs.declared.limits.TheConstants.{SERVERS}
use Rattle.lock_definitions.specs.declared.claim.Wanted.{Wanted}
use Rattle.lock_definitions.specs.declared.claim.Wanted.TheVariants.{Granted, Wait}
use Rattle.lock_definitions.specs.Servers.{any_server, server_bits}
use Rattle.lock_definitions.specs.Locks.{Locks, held}
use Rattle.lock_definitions.specs.Calls.{serves, clashes, is_free, holders, wanted}
use Rattle.lock_rebuild.specs.Missing.{is_among}

-- the table's locks, and for each server whether it is silent
pub record Guard : Type 0 where
  pub locks : Locks
  pub silent : List Bool

-- a server is silent
abbrev pub is_silent : Guard → ℕ → Bool
is_silent guard server = slice_index_or guard.silent server false

-- some server is silent
abbrev pub some_silent : Guard → Bool
some_silent guard = any_server (is_silent guard)

-- the server is one of these
abbrev pub is_one_of : List ServerId → ℕ → Bool
is_one_of servers server = list_any (λ s. s.0 == server) servers

-- a grant may be made: no server is silent, or the own hold serves the want
abbrev pub may_grant : Guard → ℕ → LockId → Mode → Bool
may_grant guard server lock mode = not (some_silent guard) || serves (held guard.locks server lock) mode

-- `want`: granted exactly where the table grants it and a grant may be made; else the bits are those of the holders that conflict and of
-- all silent servers
abbrev pub guarded_answer : Guard → ℕ → LockId → Mode → Wanted
guarded_answer guard server lock mode =
    if is_free guard.locks server lock mode && may_grant guard server lock mode then Granted
    else Wait (bit_or (holders guard.locks server lock mode) (server_bits (is_silent guard)))

-- the locks after a want: those that the table's own want leaves, but where the table alone would grant it nothing changes
abbrev pub guarded_want : Guard → ℕ → LockId → Mode → Locks
guarded_want guard server lock mode =
    if is_free guard.locks server lock mode && not (may_grant guard server lock mode) then guard.locks else wanted guard.locks server lock mode

-- the silence of a server has ended
abbrev pub spoken : Guard → ℕ → Guard
spoken guard server = record guard { silent = slice_set guard.silent server false }

-- a call that may change a guarded table
pub data GuardCall : Type 0 where
  Want : (server : ℕ) (lock : LockId) (mode : Mode) → GuardCall
  Cleared : (server : ℕ) → GuardCall

-- the guard after one call
abbrev pub after_call : Guard → GuardCall → Guard
after_call guard (Want server lock mode) = record guard { locks = guarded_want guard server lock mode }
after_call guard (Cleared server) = spoken guard server

-- the guard after calls, from the first on
abbrev pub after_calls : Guard → List GuardCall → Guard
after_calls guard [] = guard
after_calls guard (call ∷ calls) = after_calls (after_call guard call) calls

-- the call clears the server
abbrev pub clears : ℕ → GuardCall → Bool
clears server (Want s lock mode) = false
clears server (Cleared s) = s == server

-- the server was cleared by one of the calls
abbrev pub is_cleared : ℕ → List GuardCall → Bool
is_cleared server calls = list_any (clears server) calls

-- a want is granted that the server's own hold doesn't serve
abbrev pub NewlyGrants : Guard → ℕ → LockId → Mode → Type 0
NewlyGrants guard server lock mode = (guarded_answer guard server lock mode ≡ Granted) × (serves (held guard.locks server lock) mode ≡ false)

-- each server that isn't one of these is silent
abbrev pub OthersAreSilent : List ℕ → Guard → Type 0
OthersAreSilent listed guard = (server : ℕ) → server < SERVERS → is_among server listed ≡ false → is_silent guard server ≡ true

-- no other server holds the lock in a mode that conflicts, but for those that were cleared
abbrev pub ConflictsWithNone : Locks → List GuardCall → ℕ → LockId → Mode → Type 0
ConflictsWithNone lost calls server lock mode = (holder : ℕ) → (holder ≡ server → ⊥) → is_cleared holder calls ≡ false → clashes mode (held lost holder lock) ≡ false
