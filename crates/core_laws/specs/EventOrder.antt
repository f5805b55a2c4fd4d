-- The order of events: as the rows of their table, and in a row by what they are of, from left to right.
use Rattle.std.specs.Prelude.{ℕ}
use Rattle.std.specs.Ordering.{nat_cmp, on, then_cmp}
use Rattle.std.specs.declared.cmp.Ordering.{Ordering}
use Rattle.frang_base.specs.declared.lock.LockId.{LockId}
use Rattle.frang_base.specs.declared.lock.LockId.TheVariants.{Log}
use Rattle.frang_base.specs.declared.lock.Mode.{Mode}
use Rattle.frang_base.specs.declared.lock.Mode.TheVariants.{Shared, Sole}
use Rattle.lock_definitions.specs.Order.{lock_cmp}
use Rattle.core_definitions.specs.Events.{Event, Begin, Ask, Fetch, Again, Clear, Commit, Answer, Give, Issue, Doom, Resume, Arrive, Lose, Die, Renew, Tick, Recover, Load, Look, Finish, HostLine, Close, Read, Show, End}

-- the place of an event's row
abbrev pub row_of : Event → ℕ
row_of (Begin server) = 0
row_of (Ask server lock mode) = 1
row_of (Fetch server sector) = 2
row_of (Again server) = 3
row_of (Clear server block) = 4
row_of (Commit server) = 5
row_of (Answer server) = 6
row_of (Give server lock) = 7
row_of (Issue server sector) = 8
row_of (Doom server) = 9
row_of (Resume server) = 10
row_of (Arrive ticket) = 11
row_of (Lose ticket) = 12
row_of (Die server) = 13
row_of (Renew server) = 14
row_of Tick = 15
row_of (Recover dead by) = 16
row_of (Load by slot) = 17
row_of (Look by sector) = 18
row_of (Finish by) = 19
row_of (HostLine line) = 20
row_of (Close server) = 21
row_of (Read sector) = 22
row_of (Show place) = 23
row_of End = 24

-- its first number: a server, with the host as 255, a ticket, a line, a sector or a place
abbrev pub first_of : Event → ℕ
first_of (Begin server) = server
first_of (Ask server lock mode) = server
first_of (Fetch server sector) = server
first_of (Again server) = server
first_of (Clear server block) = server
first_of (Commit server) = server
first_of (Answer server) = server
first_of (Give server lock) = server
first_of (Issue server sector) = server
first_of (Doom server) = server
first_of (Resume server) = server
first_of (Arrive ticket) = ticket
first_of (Lose ticket) = ticket
first_of (Die server) = server
first_of (Renew server) = server
first_of Tick = 0
first_of (Recover dead by) = dead
first_of (Load by slot) = by
first_of (Look by sector) = by
first_of (Finish by) = by
first_of (HostLine line) = line
first_of (Close server) = server
first_of (Read sector) = sector
first_of (Show place) = place
first_of End = 0

-- its lock; the least one where it is of none
abbrev pub lock_of : Event → LockId
lock_of (Ask server lock mode) = lock
lock_of (Give server lock) = lock
lock_of _ = Log 0

-- shared before sole
abbrev pub place_of_mode : Mode → ℕ
place_of_mode Shared = 0
place_of_mode Sole = 1

-- what stands behind these: a mode, a sector, a block, a slot or who recovers
abbrev pub last_of : Event → ℕ
last_of (Ask server lock mode) = place_of_mode mode
last_of (Fetch server sector) = sector
last_of (Clear server block) = block
last_of (Issue server sector) = sector
last_of (Recover dead by) = by
last_of (Load by slot) = slot
last_of (Look by sector) = sector
last_of _ = 0

abbrev pub event_cmp : Event → Event → Ordering
event_cmp = then_cmp (on row_of nat_cmp) (then_cmp (on first_of nat_cmp) (then_cmp (on lock_of lock_cmp) (on last_of nat_cmp)))
