-- The writes in flight with what each is of, and what becomes of them: as the core tells its flights.
use Rattle.std.specs.Prelude.{ℕ, zero, suc, ◌==◌, Bool, true, false, not, ◌&&◌, if◌then◌else◌, Option, Some, None, List, [], ◌∷◌, map, filter}
use Rattle.std.specs.List.{list_any}
use Rattle.frang_base.specs.declared.lock.LockId.{LockId}
use Rattle.lock_definitions.specs.Order.{is_lock}
use Rattle.frang_outside.specs.declared.act.Put.{Put}
use Rattle.petal_disk.specs.declared.ticket.Ticket.{Ticket}
use Rattle.petal_disk.specs.declared.flying.Flying.{Flying}
use Rattle.petal_disk.specs.declared.flying.Purpose.{Purpose}
use Rattle.petal_disk.specs.declared.flying.Purpose.TheVariants.{OfLog, InPlace, OfRecovery}
use Rattle.petal_disk.specs.Flights.{Writes, is_ticket}

-- the writes with their tickets, ascending by ticket
abbrev pub InFlight : Type 0
InFlight = List (Ticket × Flying)

-- what was put of a write
abbrev pub put_of : Flying → Put
put_of flying = flying.put

-- the puts with their tickets
abbrev pub puts : InFlight → Writes
puts flights = map (λ one. (one.0, put_of one.1)) flights

-- a write as it is issued: of the present mount
abbrev pub flying_of : Put → Purpose → Flying
flying_of put purpose = record { put = put; purpose = purpose; present = true }

-- ---- changes of writes

-- the write with this ticket changed
abbrev pub changed_at : {V : Type 0} → (V → V) → List (Ticket × V) → ℕ → List (Ticket × V)
changed_at change [] t = []
changed_at change (one ∷ flights) t = if is_ticket t one.0 then (one.0, change one.1) ∷ flights else one ∷ changed_at change flights t

-- the write at a place changed, and the first writes changed
abbrev pub changed_place : {V : Type 0} → (V → V) → List (Ticket × V) → ℕ → List (Ticket × V)
changed_place change [] i = []
changed_place change (one ∷ flights) zero = (one.0, change one.1) ∷ flights
changed_place change (one ∷ flights) (suc i) = one ∷ changed_place change flights i

abbrev pub changed_first : {V : Type 0} → (V → V) → List (Ticket × V) → ℕ → List (Ticket × V)
changed_first change [] n = []
changed_first change (one ∷ flights) zero = one ∷ flights
changed_first change (one ∷ flights) (suc n) = (one.0, change one.1) ∷ changed_first change flights n

-- the writes of a sector changed
abbrev pub each_of_sector : ℕ → (Flying → Flying) → InFlight → InFlight
each_of_sector sector change flights = map (λ one. if one.1.put.sector.0 == sector then (one.0, change one.1) else one) flights

-- all writes changed
abbrev pub each_changed : (Flying → Flying) → InFlight → InFlight
each_changed change flights = map (λ one. (one.0, change one.1)) flights

-- in place it is under this lock from now on
abbrev pub under : LockId → Purpose → Purpose
under cover (OfLog number) = OfLog number
under cover (InPlace before) = InPlace cover
under cover OfRecovery = OfRecovery

-- a write of this server's present mount is under this lock from now on, if it is in place
abbrev pub covered : ℕ → LockId → Flying → Flying
covered server cover flying = if flying.put.server.0 == server && flying.present then record flying { purpose = under cover flying.purpose } else flying

-- a write of this server is of an earlier mount from now on
abbrev pub left : ℕ → Flying → Flying
left server flying = if flying.put.server.0 == server then record flying { present = false } else flying

-- the write of a sector comes under a lock
abbrev pub moved : ℕ → ℕ → LockId → InFlight → InFlight
moved server sector cover flights = each_of_sector sector (covered server cover) flights

-- all writes of a server are of an earlier mount from now on
abbrev pub left_behind : ℕ → InFlight → InFlight
left_behind server flights = each_changed (left server) flights

-- all writes of a server are gone
abbrev pub lost : ℕ → InFlight → InFlight
lost server flights = filter (λ one. not (one.1.put.server.0 == server)) flights

-- those of them from a place on
abbrev pub lost_from : ℕ → ℕ → InFlight → InFlight
lost_from server zero flights = lost server flights
lost_from server (suc i) [] = []
lost_from server (suc i) (one ∷ flights) = one ∷ lost_from server i flights

-- the ticket of a write, where it is the server's
abbrev pub ticket_of : ℕ → Option (Ticket × Flying) → Option Ticket
ticket_of server None = None
ticket_of server (Some one) = if one.1.put.server.0 == server then Some one.0 else None

-- ---- what a server has in flight

-- the write is of the server's present mount
abbrev pub is_of_mount : ℕ → Flying → Bool
is_of_mount server flying = flying.put.server.0 == server && flying.present

-- in place, under this lock
abbrev pub is_under : LockId → Purpose → Bool
is_under lock (OfLog number) = false
is_under lock (InPlace cover) = is_lock lock cover
is_under lock OfRecovery = false

-- the write is of the server's present mount, and in place under this lock
abbrev pub is_of : ℕ → LockId → Flying → Bool
is_of server lock flying = is_of_mount server flying && is_under lock flying.purpose

-- a write of the server's present mount is in flight
abbrev pub has_flights : InFlight → ℕ → Bool
has_flights flights server = list_any (λ one. is_of_mount server one.1) flights

-- one in place of its present mount under this lock is in flight
abbrev pub has_flights_under : InFlight → ℕ → LockId → Bool
has_flights_under flights server lock = list_any (λ one. is_of server lock one.1) flights
