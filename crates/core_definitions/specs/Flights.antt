-- The writes in flight.
use Rattle.std.specs.Prelude.{ℕ, ◌==◌, Bool, true, false, not, ◌&&◌, if◌then◌else◌, List, filter, map}
use Rattle.std.specs.List.{list_any}
use Rattle.frang_base.specs.declared.lock.LockId.{LockId}
use Rattle.lock_definitions.specs.Order.{is_lock}
use Rattle.sector_bytes.specs.Blocks.{Block}

-- what a write is of: its server's log, with its number; in place, with its cover; or its server's recovery
pub data Purpose : Type 0 where
  OfLog : (number : ℕ) → Purpose
  InPlace : (cover : LockId) → Purpose
  OfRecovery : Purpose

-- whose write it is and on whose behalf, the last tick at which it may arrive, its sector and block, what it is of, and whether it is of the present mount of its server
pub record Flight : Type 0 where
  pub server : ℕ
  pub behalf : ℕ
  pub stamp : ℕ
  pub sector : ℕ
  pub block : Block
  pub purpose : Purpose
  pub present : Bool

-- by ticket, ascending
abbrev pub Flights : Type 0
Flights = List (ℕ × Flight)

-- a write of this sector is in flight
abbrev pub is_flying : Flights → ℕ → Bool
is_flying flights sector = list_any (λ one. one.1.sector == sector) flights

-- a write of the server's present mount is
abbrev pub is_of_mount : ℕ → Flight → Bool
is_of_mount server flight = flight.server == server && flight.present

abbrev pub has_flights : Flights → ℕ → Bool
has_flights flights server = list_any (λ one. is_of_mount server one.1) flights

-- in place, under this lock
abbrev pub is_under : LockId → Purpose → Bool
is_under lock (OfLog number) = false
is_under lock (InPlace cover) = is_lock lock cover
is_under lock OfRecovery = false

-- one in place of its present mount under this lock is
abbrev pub has_flights_under : Flights → ℕ → LockId → Bool
has_flights_under flights server lock = list_any (λ one. is_of_mount server one.1 && is_under lock one.1.purpose) flights

-- each write of a server changed
abbrev pub each_of_server : ℕ → (Flight → Flight) → Flights → Flights
each_of_server server change flights = map (λ one. if one.1.server == server then (one.0, change one.1) else one) flights

-- its writes are of an earlier mount from now on
abbrev pub left_behind : ℕ → Flights → Flights
left_behind server flights = each_of_server server (λ flight. record flight { present = false }) flights

-- its writes are gone
abbrev pub lost : ℕ → Flights → Flights
lost server flights = filter (λ one. not (one.1.server == server)) flights
