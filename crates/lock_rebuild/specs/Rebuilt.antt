-- The table that is rebuilt from lists.
use Rattle.std.specs.Prelude.{◌≡◌, ℕ, ◌<◌, ◌≤◌, ◌==◌, not, ◌&&◌, if◌then◌else◌, Option, Some, None, List, []}
use Rattle.std.specs.List.{AllByRecursion}
use Rattle.frang_base.specs.declared.lock.LockId.{LockId}
use Rattle.frang_base.specs.declared.lock.Mode.{Mode}
use Rattle.frang_base.specs.declared.limits.TheConstants.{SERVERS, LOGS}
use Rattle.lock_definitions.specs.declared.claim.LogHold.{LogHold}
use Rattle.lock_definitions.specs.declared.lists.ClerkLocks.{ClerkLocks}
use Rattle.lock_definitions.specs.Locks.{Locks, held, is_wished, log_hold}
use Rattle.lock_definitions.specs.Calls.{is_free}
use Rattle.lock_rebuild.specs.Lists.{listed_mode, lists_wish, listed_expiry}

-- the list of who isn't one of the sixteen servers has no locks and no wishes
abbrev pub IsServers : ClerkLocks → Type 0
IsServers clerk = SERVERS ≤ clerk.server.0 → (clerk.held ≡ []) × (clerk.wants ≡ [])

-- so it is of all lists
abbrev pub AreServers : List ClerkLocks → Type 0
AreServers clerks = AllByRecursion IsServers clerks

-- the expiry of a hold on a log, where it is this party's
abbrev pub expiry_by : Option LogHold → ℕ → Option ℕ
expiry_by None party = None
expiry_by (Some hold) party = if hold.by.0 == party then Some hold.expiry else None

-- each server holds the locks that its list says, in those modes; of the wishes listed those are noted that conflict with a holder; and each
-- party has the logs that its list says, with those expiries
pub record IsRebuilt (clerks : List ClerkLocks) (locks : Locks) : Type 0 where
  pub held : (server : ℕ) (lock : LockId) → held locks server lock ≡ listed_mode clerks server lock
  pub wishes : (server : ℕ) (lock : LockId) (mode : Mode) → is_wished locks server lock mode ≡ (lists_wish clerks server lock mode && not (is_free locks server lock mode))
  pub logs : (party dead : ℕ) → dead < LOGS → expiry_by (log_hold locks dead) party ≡ listed_expiry clerks party dead
