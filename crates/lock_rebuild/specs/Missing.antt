-- Lists of some of those who have something of a table.
use Rattle.std.specs.Prelude.{◌≡◌, ℕ, ◌==◌, Bool, true, Some, List, map}
use Rattle.std.specs.List.{list_any}
use Rattle.lock_definitions.specs.declared.claim.LogHold.{LogHold}
use Rattle.lock_definitions.specs.declared.lists.ClerkLocks.{ClerkLocks}
use Rattle.lock_definitions.specs.Locks.{Locks, log_hold}
use Rattle.known_locks.specs.Listed.{clerk_of, parties}

-- the number is one of these
abbrev pub is_among : ℕ → List ℕ → Bool
is_among number numbers = list_any (λ n. n == number) numbers

-- what these have of a table
abbrev pub lists_of : Locks → List ℕ → List ClerkLocks
lists_of locks numbers = map (clerk_of locks) numbers

-- each log is taken by a server or by the host
abbrev pub TakersAreParties : Locks → Type 0
TakersAreParties locks = (dead : ℕ) (hold : LogHold) → log_hold locks dead ≡ Some hold → is_among hold.by.0 parties ≡ true
