-- What a server wishes of the lock table, over every run.
use Rattle.std.specs.Prelude.{◌≡◌, ℕ, true, false, IsTrue, Some}
use Rattle.frang_base.specs.declared.lock.LockId.{LockId}
use Rattle.frang_base.specs.declared.lock.Mode.{Mode}
use Rattle.lock_definitions.specs.Locks.{is_wished}
use Rattle.sector_bytes.specs.Sectors.{Sectors}
use Rattle.core_definitions.specs.Lines.{Asking}
use Rattle.core_definitions.specs.Servers.{is_still, is_up}
use Rattle.core_definitions.specs.Settings.{Setting}
use Rattle.core_definitions.specs.Cores.{stage}
use Rattle.core_definitions.specs.LineGuards.{is_server}
use Rattle.core_definitions.specs.Runs.{State, Run, first_state}

-- over every run a noted wish of a server that is Up is for the least lock that its line under way must ask, in that mode
abbrev pub WishesAreForTheNextLock : Type 0
WishesAreForTheNextLock =
    (setting : Setting) (disk : Sectors) (s : State) → Run (first_state setting disk) s → (a : ℕ) → IsTrue (is_server a) → IsTrue (is_up (s.core.servers a).phase) → (lock : LockId) (mode : Mode) →
    is_wished s.core.locks a lock mode ≡ true → stage s.core a ≡ Some (Asking (lock, mode))

-- and one that is Still wishes nothing
abbrev pub StillWishesNothing : Type 0
StillWishesNothing =
    (setting : Setting) (disk : Sectors) (s : State) → Run (first_state setting disk) s → (a : ℕ) → IsTrue (is_server a) → IsTrue (is_still (s.core.servers a).phase) →
    (lock : LockId) (mode : Mode) → is_wished s.core.locks a lock mode ≡ false
