-- The state of a lock table: what each server has and wishes of each lock, and who has taken whose log until when.
use Rattle.std.specs.Prelude.{◌≡◌, ℕ, Bool, false, not, ◌||◌, if◌then◌else◌, is_some, Option, Some, None, unwrap_or, List, [], length, replicate, slice_index_or}
use Rattle.std.specs.List.{All}
use Rattle.std.specs.List.Sorted.{IsStrictlySortedBy}
use Rattle.std.specs.Map.{lookup, remove_entry, keys_of, values_of}
use Rattle.std.specs.BTreeMap.{insert_entry}
use Rattle.frang_base.specs.declared.lock.LockId.{LockId}
use Rattle.frang_base.specs.declared.lock.Mode.{Mode}
use Rattle.frang_base.specs.declared.lock.Mode.TheVariants.{Shared, Sole}
use Rattle.lock_definitions.specs.declared.claim.Claim.{Claim}
use Rattle.lock_definitions.specs.declared.claim.LogHold.{LogHold}
use Rattle.frang_base.specs.declared.limits.TheConstants.{SERVERS, LOGS}
use Rattle.lock_definitions.specs.Order.{lock_cmp, is_lock}

-- what one server has and wishes, by lock, ascending; a lock of which it neither has nor wishes anything isn't listed
abbrev pub Claims : Type 0
Claims = List (LockId × Claim)

-- the claims by server, and the holds on logs by dead server
pub record Locks : Type 0 where
  pub clerks : List Claims
  pub logs : List (Option LogHold)

-- neither held nor wished
abbrev pub no_claim : Claim
no_claim = record { held = None; wishes_shared = false; wishes_sole = false }

-- nothing is held or wished
abbrev pub is_no_claim : Claim → Bool
is_no_claim claim = not (is_some claim.held || claim.wishes_shared || claim.wishes_sole)

-- the claim on this lock
abbrev pub claim_in : Claims → LockId → Claim
claim_in claims lock = unwrap_or (lookup (is_lock lock) claims) no_claim

-- the claims with this one on this lock
abbrev pub with_claim : Claims → LockId → Claim → Claims
with_claim claims lock claim =
    if is_no_claim claim then remove_entry (is_lock lock) claims else insert_entry lock_cmp claims lock claim

-- what a server has and wishes
abbrev pub claims_of : Locks → ℕ → Claims
claims_of locks server = slice_index_or locks.clerks server []

-- a server's claim on a lock
abbrev pub claim_of : Locks → ℕ → LockId → Claim
claim_of locks server lock = claim_in (claims_of locks server) lock

-- the mode in which a server holds a lock
abbrev pub held : Locks → ℕ → LockId → Option Mode
held locks server lock = (claim_of locks server lock).held

-- a server's wish for a lock in this mode is noted
abbrev pub is_wished_in : Claim → Mode → Bool
is_wished_in claim Shared = claim.wishes_shared
is_wished_in claim Sole = claim.wishes_sole

-- a server wishes the lock in this mode
abbrev pub is_wished : Locks → ℕ → LockId → Mode → Bool
is_wished locks server lock mode = is_wished_in (claim_of locks server lock) mode

-- who has taken the log of a dead server, and until when
abbrev pub log_hold : Locks → ℕ → Option LogHold
log_hold locks dead = slice_index_or locks.logs dead None

-- sixteen servers without claims
unfoldable pub no_clerks : List Claims
no_clerks = replicate SERVERS []

-- 256 logs that nobody has taken
unfoldable pub no_logs : List (Option LogHold)
no_logs = replicate LOGS None

-- nothing held, wished or taken
abbrev pub no_locks : Locks
no_locks = record { clerks = no_clerks; logs = no_logs }

-- no lock is held sole by one server and held in any mode by another
abbrev pub AreCompatible : Locks → Type 0
AreCompatible locks = (a b : ℕ) (lock : LockId) → (b ≡ a → ⊥) → held locks a lock ≡ Some Sole → held locks b lock ≡ None

-- the locks ascend, and of each something is held or wished
pub record AreClaims (claims : Claims) : Type 0 where
  pub ordered : IsStrictlySortedBy lock_cmp (keys_of claims)
  pub claimed : All (λ claim. is_no_claim claim ≡ false) (values_of claims)

-- the state of every lock table: 16 servers, 256 logs, compatible holders
pub record AreLocks (locks : Locks) : Type 0 where
  pub servers : length locks.clerks ≡ SERVERS
  pub logs : length locks.logs ≡ LOGS
  pub claims : (server : ℕ) → AreClaims (claims_of locks server)
  pub compatible : AreCompatible locks
