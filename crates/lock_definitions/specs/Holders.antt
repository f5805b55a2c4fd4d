-- What stands of locks beside the answers to calls: which lock nobody holds, which segment is the next to take, and whether a server keeps from others what it holds alone.
use Rattle.std.specs.Prelude.{ℕ, Bool, not, ◌&&◌, Option, is_some, List, find}
use Rattle.std.specs.List.{list_any, slice_get}
use Rattle.std.specs.Option.{option_or}
use Rattle.frang_base.specs.declared.lock.LockId.{LockId}
use Rattle.frang_base.specs.declared.lock.LockId.TheVariants.{Segment}
use Rattle.frang_base.specs.declared.lock.Mode.TheVariants.{Sole}
use Rattle.lock_definitions.specs.Locks.{Locks, claims_of, held}
use Rattle.lock_definitions.specs.Calls.{asked_for, serves}
use Rattle.lock_definitions.specs.Servers.{any_server}

-- no server holds the lock
abbrev pub is_unheld : Locks → LockId → Bool
is_unheld locks lock = not (any_server (λ server. is_some (held locks server lock)))

-- the server holds the lock sole
abbrev pub is_sole : Locks → ℕ → LockId → Bool
is_sole locks server lock = serves (held locks server lock) Sole

-- of these segments the least that this server holds sole, else the least that no server holds, else the least
abbrev pub next_among : Locks → ℕ → List ℕ → Option ℕ
next_among locks server segments =
    option_or (find (λ segment. is_sole locks server (Segment segment)) segments)
    (option_or (find (λ segment. is_unheld locks (Segment segment)) segments) (slice_get segments 0))

-- the lock is held sole, and asked
abbrev pub is_pressed : Locks → ℕ → LockId → Bool
is_pressed locks server lock = is_sole locks server lock && is_some (asked_for locks server lock)

-- some lock of the server is
abbrev pub has_pressed : Locks → ℕ → Bool
has_pressed locks server = list_any (λ claim. is_pressed locks server claim.0) (claims_of locks server)
