-- What the lists of servers say of locks, wishes and logs, and at which locks the lists of two servers clash.
use Rattle.std.specs.Prelude.{◌≡◌, ℕ, ◌<◌, ◌==◌, nat_lt, Bool, true, false, not, ◌&&◌, ◌||◌, if◌then◌else◌, is_some, Option, Some, None, List, [], ◌∷◌}
use Rattle.std.specs.Option.{option_or}
use Rattle.std.specs.declared.cmp.Ordering.TheVariants.{Less}
use Rattle.frang_base.specs.declared.lock.LockId.{LockId}
use Rattle.frang_base.specs.declared.lock.LockId.TheVariants.{Log, Segment, Node}
use Rattle.frang_base.specs.declared.lock.Mode.{Mode}
use Rattle.frang_base.specs.declared.lock.Mode.TheVariants.{Shared, Sole}
use Rattle.frang_base.specs.declared.sector.ServerId.{ServerId}
use Rattle.frang_base.specs.declared.limits.TheConstants.{LOGS}
use Rattle.lock_definitions.specs.declared.lists.ClerkLocks.{ClerkLocks}
use Rattle.lock_definitions.specs.Order.{lock_cmp, is_lock}
use Rattle.lock_definitions.specs.Calls.{clashes}

-- of two modes the one that keeps more from others
abbrev pub stronger : Option Mode → Option Mode → Option Mode
stronger None other = other
stronger (Some Sole) other = Some Sole
stronger (Some Shared) None = Some Shared
stronger (Some Shared) (Some mode) = Some mode

-- the same mode
abbrev pub is_mode : Mode → Mode → Bool
is_mode Shared Shared = true
is_mode Shared Sole = false
is_mode Sole Shared = false
is_mode Sole Sole = true

-- ---- one list

-- the mode in which a list has a lock
abbrev pub mode_in : List (LockId × Mode) → LockId → Option Mode
mode_in [] lock = None
mode_in (entry ∷ entries) lock = stronger (if is_lock lock entry.0 then Some entry.1 else None) (mode_in entries lock)

-- a list has a lock in this mode
abbrev pub has_in : List (LockId × Mode) → LockId → Mode → Bool
has_in [] lock mode = false
has_in (entry ∷ entries) lock mode = (is_lock lock entry.0 && is_mode mode entry.1) || has_in entries lock mode

-- the expiry with which a list has the log of a dead server, the last where it has it more than once
abbrev pub expiry_in : List (ServerId × ℕ) → ℕ → Option ℕ
expiry_in [] dead = None
expiry_in (entry ∷ entries) dead = option_or (expiry_in entries dead) (if entry.0.0 == dead then Some entry.1 else None)

-- ---- all lists

-- the mode in which a server holds a lock, as its lists say
abbrev pub listed_mode : List ClerkLocks → ℕ → LockId → Option Mode
listed_mode [] server lock = None
listed_mode (clerk ∷ clerks) server lock = stronger (if clerk.server.0 == server then mode_in clerk.held lock else None) (listed_mode clerks server lock)

-- a server wishes a lock in this mode, as its lists say
abbrev pub lists_wish : List ClerkLocks → ℕ → LockId → Mode → Bool
lists_wish [] server lock mode = false
lists_wish (clerk ∷ clerks) server lock mode = (clerk.server.0 == server && has_in clerk.wants lock mode) || lists_wish clerks server lock mode

-- the expiry with which a party has the log of a dead server, as its lists say
abbrev pub listed_expiry : List ClerkLocks → ℕ → ℕ → Option ℕ
listed_expiry [] party dead = None
listed_expiry (clerk ∷ clerks) party dead = option_or (listed_expiry clerks party dead) (if clerk.server.0 == party then expiry_in clerk.logs dead else None)

-- ---- clashes

-- both hold the lock, and one of the modes is sole
abbrev pub mode_clash : Option Mode → Option Mode → Bool
mode_clash None other = false
mode_clash (Some mode) other = clashes mode other

-- the lists of a party have the log that the lock is of
abbrev pub has_log_of : List ClerkLocks → LockId → ℕ → Bool
has_log_of clerks (Log dead) party = nat_lt dead LOGS && is_some (listed_expiry clerks party dead)
has_log_of clerks (Segment n) party = false
has_log_of clerks (Node n) party = false

-- the lists of two servers clash at a lock: both hold it and one of the modes is sole, or both have the same log, whose lock it is
abbrev pub lists_clash : List ClerkLocks → LockId → ℕ → ℕ → Bool
lists_clash clerks lock first second =
    not (second == first) && (mode_clash (listed_mode clerks first lock) (listed_mode clerks second lock) || (has_log_of clerks lock first && has_log_of clerks lock second))

-- no lists clash
abbrev pub HasNoClash : List ClerkLocks → Type 0
HasNoClash clerks = (lock : LockId) (first second : ℕ) → lists_clash clerks lock first second ≡ false

-- the lists of no server below a bound clash there with those of this one
abbrev pub HasNoneBelow : List ClerkLocks → LockId → ℕ → ℕ → Type 0
HasNoneBelow clerks lock first bound = (second : ℕ) → second < bound → lists_clash clerks lock first second ≡ false

-- the lists of these two clash at this lock; lists clash at no lesser lock, nor there those of a lesser first server, nor there those
-- of the first and of a lesser second one
pub record IsLeastClash (clerks : List ClerkLocks) (lock : LockId) (first second : ℕ) : Type 0 where
  pub clash : lists_clash clerks lock first second ≡ true
  pub no_lesser_lock : (other : LockId) (a b : ℕ) → lock_cmp other lock ≡ Less → lists_clash clerks other a b ≡ false
  pub no_lesser_first : (a b : ℕ) → a < first → lists_clash clerks lock a b ≡ false
  pub no_lesser_second : (b : ℕ) → b < second → lists_clash clerks lock first b ≡ false
