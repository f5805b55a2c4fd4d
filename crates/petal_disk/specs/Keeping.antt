-- How the writes in flight are kept: in order of their tickets, each in a box of its own, and beside them the tickets in order of the sectors, and how many are of each server's
-- present mount.
use Rattle.std.specs.Prelude.{◌≡◌, ℕ, ◌+◌, ◌-◌, ◌<◌, Bool, if◌then◌else◌, List, [], ◌∷◌, length, map, replicate, slice_index, slice_set}
use Rattle.petal_disk.specs.declared.counts.TheConstants.{NUMBERS}
use Rattle.petal_disk.specs.declared.flying.Flying.{Flying}
use Rattle.sector_bytes.specs.SectorMaps.{Ascend, value_at}
use Rattle.petal_disk.specs.declared.ticket.Ticket.{Ticket}
use Rattle.petal_disk.specs.Flights.{Writes, AreFlights, busy_with}
use Rattle.petal_disk.specs.Flying.{InFlight, is_of_mount}

-- the puts, ascending by ticket, and the same with what each is of, and for how many more there is room
pub record Kept : Type 0 where
  pub writes : Writes
  pub flying : List (Ticket × Flying)
  pub spare : ℕ

-- each ticket with what its box holds
abbrev pub opened : {B V : Type 0} → List (Ticket × B) → (B → V) → List (Ticket × V)
opened boxes held = map (λ write. (write.0, held write.1)) boxes

-- each sector has the ticket of its write, and the others none
abbrev pub IsIndex : List (ℕ × Ticket) → Writes → Type 0
IsIndex tickets writes = (sector : ℕ) → value_at tickets sector ≡ busy_with writes sector

-- nothing is counted of any server
unfoldable pub no_counts : List ℕ
no_counts = replicate NUMBERS 0

-- one less of a server, where the write was of its present mount
abbrev pub fewer : List ℕ → ℕ → Bool → List ℕ
fewer counts server present = if present then slice_set counts server (slice_index counts server - 1) else counts

-- how many are of the server's present mount
abbrev pub mount_count : InFlight → ℕ → ℕ
mount_count [] server = 0
mount_count (one ∷ flights) server = (if is_of_mount server one.1 then 1 else 0) + mount_count flights server

-- each server has its count
pub record AreCounted (counts : List ℕ) (flights : InFlight) : Type 0 where
  pub long : length counts ≡ NUMBERS
  pub each : (server : ℕ) → server < NUMBERS → slice_index counts server ≡ mount_count flights server

-- the writes are those in flight, and the tickets, ascending by sector, and the counts are theirs
pub record AreKept (writes : Writes) (flying : InFlight) (next : ℕ) (tickets : List (ℕ × Ticket)) (counts : List ℕ) : Type 0 where
  pub flights : AreFlights (record { writes = writes; flying = []; next = next; room = 0 })
  pub ordered : Ascend tickets
  pub index : IsIndex tickets writes
  pub counted : AreCounted counts flying
