-- What is asked of the code's writes in flight, and what is made of them, is what the core asks and makes of its own: as statements.
use Rattle.std.specs.Prelude.{◌≡◌, ℕ, is_some, List, [], ◌∷◌, ◌++◌}
use Rattle.std.specs.Option.{option_map, unwrap_or}
use Rattle.frang_base.specs.declared.lock.LockId.{LockId}
use Rattle.sector_bytes.specs.SectorMaps as maps
use Rattle.cache_laws.specs.Steps.{cover_after}
use Rattle.core_definitions.specs.Flights as core
use Rattle.core_definitions.specs.LineEffects.{flight_after}
use Rattle.core_definitions.specs.Plans.{Outcome}
use Rattle.petal_disk.specs.Flights.{busy_with, without, write_at}
use Rattle.petal_disk.specs.Flying.{InFlight, has_flights, has_flights_under, left_behind, lost, puts}
use Rattle.petal_disk.specs.declared.flying.Flying.{Flying}
use Rattle.petal_disk.specs.declared.ticket.Ticket.{Ticket}
use Rattle.flight_laws.specs.Flights.{flight_of, flights_of, moved_all}

-- ---- what is asked

abbrev pub TheMountsWritesAreTheCores : Type 0
TheMountsWritesAreTheCores = (flights : InFlight) (server : ℕ) → core.has_flights (flights_of flights) server ≡ has_flights flights server

abbrev pub WritesUnderALockAreTheCores : Type 0
WritesUnderALockAreTheCores = (flights : InFlight) (server : ℕ) (lock : LockId) → core.has_flights_under (flights_of flights) server lock ≡ has_flights_under flights server lock

abbrev pub ABusySectorIsTheCores : Type 0
ABusySectorIsTheCores = (flights : InFlight) (sector : ℕ) → core.is_flying (flights_of flights) sector ≡ is_some (busy_with (puts flights) sector)

abbrev pub AWriteIsTheCores : Type 0
AWriteIsTheCores = (flights : InFlight) (ticket : ℕ) → maps.value_at (flights_of flights) ticket ≡ option_map flight_of (write_at flights ticket)

-- ---- what is made

abbrev pub AnIssuedWriteIsTheCores : Type 0
AnIssuedWriteIsTheCores = (flights : InFlight) (ticket : Ticket) (flying : Flying) → flights_of (flights ++ (ticket, flying) ∷ []) ≡ flights_of flights ++ (ticket.0, flight_of flying) ∷ []

abbrev pub ALandedWriteIsTheCores : Type 0
ALandedWriteIsTheCores = (flights : InFlight) (ticket : ℕ) → flights_of (without flights ticket) ≡ maps.without (flights_of flights) ticket

abbrev pub WritesLeftBehindAreTheCores : Type 0
WritesLeftBehindAreTheCores = (flights : InFlight) (server : ℕ) → flights_of (left_behind server flights) ≡ core.left_behind server (flights_of flights)

abbrev pub LostWritesAreTheCores : Type 0
LostWritesAreTheCores = (flights : InFlight) (server : ℕ) → flights_of (lost server flights) ≡ core.lost server (flights_of flights)

-- a commit's moves, sector by sector
abbrev pub MovedWritesAreTheCores : Type 0
MovedWritesAreTheCores = (flights : InFlight) (server : ℕ) (outcome : Outcome) (moves : List (ℕ × LockId)) → ((sector : ℕ) (cover : LockId) → cover_after moves sector cover ≡ unwrap_or (outcome.moves sector) cover)
    → flights_of (moved_all server moves flights) ≡ core.each_of_server server (flight_after outcome) (flights_of flights)
