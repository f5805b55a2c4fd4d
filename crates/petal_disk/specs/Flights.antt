-- The writes in flight.
use Rattle.std.specs.Prelude.{◌≡◌, ℕ, ◌==◌, ◌<◌, Bool, Option, List, map, find}
use Rattle.std.specs.List.{All, IsDistinct}
use Rattle.std.specs.List.Sorted.{IsStrictlySortedBy}
use Rattle.std.specs.Map.{lookup, remove_entry, keys_of}
use Rattle.std.specs.Option.{option_map}
use Rattle.std.specs.Ordering.{nat_cmp, on}
use Rattle.std.specs.declared.cmp.Ordering.{Ordering}
use Rattle.frang_outside.specs.declared.act.Put.{Put}
use Rattle.petal_disk.specs.declared.ticket.Ticket.{Ticket}
use Rattle.petal_disk.specs.declared.flying.Flying.{Flying}

-- the writes with their tickets
abbrev pub Writes : Type 0
Writes = List (Ticket × Put)

-- the puts in flight, ascending by ticket, and the same with what each is of; the ticket of the next one; how many more may be issued without want of memory
pub record Flights : Type 0 where
  pub writes : Writes
  pub flying : List (Ticket × Flying)
  pub next : ℕ
  pub room : ℕ

-- the ticket of this number
abbrev pub is_ticket : ℕ → Ticket → Bool
is_ticket t ticket = ticket.0 == t

-- the write with this ticket
abbrev pub write_at : {V : Type 0} → List (Ticket × V) → ℕ → Option V
write_at writes t = lookup (is_ticket t) writes

-- the writes but the one with this ticket
abbrev pub without : {V : Type 0} → List (Ticket × V) → ℕ → List (Ticket × V)
without writes t = remove_entry (is_ticket t) writes

-- the ticket of the write of this sector
abbrev pub busy_with : Writes → ℕ → Option Ticket
busy_with writes sector = option_map (λ write. write.0) (find (λ write. write.1.sector.0 == sector) writes)

-- tickets are ordered as their numbers
abbrev pub ticket_cmp : Ticket → Ticket → Ordering
ticket_cmp = on (λ ticket. ticket.0) nat_cmp

-- the sectors of the writes, in their order
abbrev pub sectors : Writes → List ℕ
sectors writes = map (λ write. write.1.sector.0) writes

-- the tickets ascend and were given, and no two writes are of one sector
pub record AreFlights (flights : Flights) : Type 0 where
  pub ascending : IsStrictlySortedBy ticket_cmp (keys_of flights.writes)
  pub given : All (λ ticket. ticket.0 < flights.next) (keys_of flights.writes)
  pub apart : IsDistinct (λ a b. a == b) (sectors flights.writes)

-- the same writes are in flight, and the same ticket is the next
pub record IsSame (old new : Flights) : Type 0 where
  pub writes : new.writes ≡ old.writes
  pub flying : new.flying ≡ old.flying
  pub next : new.next ≡ old.next
